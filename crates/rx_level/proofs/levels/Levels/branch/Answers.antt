use Rattle.std.proofs.Common.{◌+◌, ◌-◌, arith, [], ◌∷◌, Some}
use Rattle.rx_level.specs.Store.{IsCounted}
use Rattle.rx_level.proofs.Totals.{counted_step, owned_counted}
use Rattle.rx_level.proofs.levels.Levels.branch.Goals as goal

pub overflow_sub-self : goal.overflow_sub-self
overflow_sub-self c = omega (arith, owned_counted c.self.inside.nodes _ c.self.inside.handles (c.args.item.child ∷ c.args.left ∷ c.args.right ∷ []) c.self.invariant c.self.view_is c.requires.owns.owned, c.root_count.ensures, c.root_count-2.ensures, c.root_count-3.ensures)

pub invariant_of-self : goal.invariant_of-self
invariant_of-self c = counted_step c.self.inside.nodes c.branch-made.new.nodes c.self.inside.handles _ (c.args.item.child ∷ c.args.left ∷ c.args.right ∷ []) [] c.self.invariant c.in_default-made.ensures.err
    (omega (arith, owned_counted c.self.inside.nodes _ c.self.inside.handles (c.args.item.child ∷ c.args.left ∷ c.args.right ∷ []) c.self.invariant c.self.view_is c.requires.owns.owned, c.root_count.ensures, c.root_count-2.ensures, c.root_count-3.ensures))

pub invariant_of-self-2 : goal.invariant_of-self-2
invariant_of-self-2 c = counted_step c.self.inside.nodes c.branch-made.new.nodes c.self.inside.handles _ (c.args.item.child ∷ c.args.left ∷ c.args.right ∷ []) (Some c.in_Ok-made.key ∷ []) c.self.invariant c.in_Ok-made.ensures.ok
    (omega (arith, owned_counted c.self.inside.nodes _ c.self.inside.handles (c.args.item.child ∷ c.args.left ∷ c.args.right ∷ []) c.self.invariant c.self.view_is c.requires.owns.owned, c.root_count.ensures, c.root_count-2.ensures, c.root_count-3.ensures))

pub invariant_of-self-then-self : goal.invariant_of-self-then-self
invariant_of-self-then-self c =
    let one : IsCounted c.branch-made.new.nodes (c.self.inside.handles - (c.root_count.result + c.root_count-2.result + c.root_count-3.result) + 1) =
    counted_step c.self.inside.nodes c.branch-made.new.nodes c.self.inside.handles _ (c.args.item.child ∷ c.args.left ∷ c.args.right ∷ []) (Some c.in_Ok-made.key ∷ []) c.self.invariant c.in_Ok-made.ensures.ok
    (omega (arith, owned_counted c.self.inside.nodes _ c.self.inside.handles (c.args.item.child ∷ c.args.left ∷ c.args.right ∷ []) c.self.invariant c.self.view_is c.requires.owns.owned, c.root_count.ensures, c.root_count-2.ensures, c.root_count-3.ensures)) in
    counted_step c.branch-made.new.nodes c.free.new.nodes _ _ (Some c.in_Ok-made.key ∷ []) [] one c.free.ensures.step (omega arith)
