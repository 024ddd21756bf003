use Rattle.std.proofs.Common.{arith, [], ◌∷◌}
use Rattle.rx_level.proofs.Totals.{counted_step, owned_counted}
use Rattle.rx_level.proofs.levels.Levels.free.Goals as goal

pub overflow_sub-self : goal.overflow_sub-self
overflow_sub-self c = omega (arith, owned_counted c.self.inside.nodes _ c.self.inside.handles (c.args.root ∷ []) c.self.invariant c.self.view_is c.requires.owned, c.root_count.ensures)

pub invariant_of-self : goal.invariant_of-self
invariant_of-self c = counted_step c.self.inside.nodes c.free.new.nodes c.self.inside.handles _ (c.args.root ∷ []) [] c.self.invariant c.free.ensures.step
    (omega (arith, owned_counted c.self.inside.nodes _ c.self.inside.handles (c.args.root ∷ []) c.self.invariant c.self.view_is c.requires.owned, c.root_count.ensures))
