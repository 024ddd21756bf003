use Rattle.std.proofs.Common.{◌+◌, [], arith, ap, rules}
use Rattle.rx_graph.specs.declared.handles.Root.TheVariants.{Nothing}
use Rattle.rx_graph.specs.Graph.{handle_count}
use Rattle.rx_graph.proofs.GraphSteps.{canonical_given}
use Rattle.rx_graph.proofs.arena.Arena.nothing.Goals as goal

pub invariant_of-self : goal.invariant_of-self
invariant_of-self c = record { canonical = canonical_given (record { nullable = c.self.inside.nullable; store = c.self.inside.levels; all = c.self.inside.all; none = c.self.inside.none }) (record { nullable = c.self.inside.nullable; store = c.self.inside.levels; all = c.self.inside.all; none = c.self.inside.none + 1 }) [] Nothing (search rules) tt c.self.invariant.canonical; few = omega (arith, c.requires, ap handle_count c.self.view_is) }

pub returns-clause-canonical : goal.returns-clause-canonical
returns-clause-canonical c = canonical_given (record { nullable = c.self.inside.nullable; store = c.self.inside.levels; all = c.self.inside.all; none = c.self.inside.none }) (record { nullable = c.self.inside.nullable; store = c.self.inside.levels; all = c.self.inside.all; none = c.self.inside.none + 1 }) [] Nothing (search rules) tt c.self.invariant.canonical
