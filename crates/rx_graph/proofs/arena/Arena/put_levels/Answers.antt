use Rattle.std.proofs.Common.{◌<◌, ◌^◌, sym, subst}
use Rattle.rx_graph.specs.Graph.{Graph, IsKept}
use Rattle.rx_graph.proofs.arena.Arena.put_levels.Goals as goal

pub invariant_of-self : goal.invariant_of-self
invariant_of-self c = subst (λ (g : Graph). IsKept (record g { store = c.args.levels })) (sym c.self.view_is) (record { canonical = c.requires.canonical; few = c.requires.few })
