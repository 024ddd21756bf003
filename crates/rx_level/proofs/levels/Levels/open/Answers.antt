use Rattle.std.proofs.Common.{◌∙◌, arith, [], ◌∷◌, Some, ap, sym}
use Rattle.rx_level.specs.Step.{tall_of}
use Rattle.rx_level.proofs.Totals.{counted_step, owned_counted}
use Rattle.rx_level.proofs.Heights.{even_tree, fork_tall, fork_near}
use Rattle.rx_level.proofs.levels.Levels.open.Goals as goal

pub invariant_of-self : goal.invariant_of-self
invariant_of-self c = counted_step c.self.inside.nodes c.free.new.nodes c.self.inside.handles _ (Some c.args.key ∷ []) [] c.self.invariant c.free.ensures.step (omega (arith, owned_counted c.self.inside.nodes _ c.self.inside.handles (Some c.args.key ∷ []) c.self.invariant c.self.view_is c.requires.owned))

pub overflow_sub-self-2 : goal.overflow_sub-self-2
overflow_sub-self-2 c = omega (arith, owned_counted c.self.inside.nodes _ c.self.inside.handles (Some c.args.key ∷ []) c.self.invariant c.self.view_is c.requires.owned)

pub invariant_of-self-in_default : goal.invariant_of-self-in_default
invariant_of-self-in_default c = counted_step c.self.inside.nodes c.open-opened.new.nodes c.self.inside.handles _ (Some c.args.key ∷ []) [] c.self.invariant c.in_default.ensures.err (omega (arith, owned_counted c.self.inside.nodes _ c.self.inside.handles (Some c.args.key ∷ []) c.self.invariant c.self.view_is c.requires.owned))

pub invariant_of-self-2 : goal.invariant_of-self-2
invariant_of-self-2 c = counted_step c.self.inside.nodes c.open-opened.new.nodes c.self.inside.handles _ (Some c.args.key ∷ []) (c.in-Ok.opened.item.child ∷ c.in-Ok.opened.left ∷ c.in-Ok.opened.right ∷ []) c.self.invariant c.in-Ok.ensures.ok
    (omega (arith, owned_counted c.self.inside.nodes _ c.self.inside.handles (Some c.args.key ∷ []) c.self.invariant c.self.view_is c.requires.owned, c.root_count-item.ensures, c.root_count.ensures, c.root_count-2.ensures))

pub returns-clause-height : goal.returns-clause-height
returns-clause-height c = ap (λ s. tall_of s (Some c.args.key)) (sym c.self.view_is) ∙ fork_tall _ _ c.in-Ok.ensures.fork

pub returns-clause-near : goal.returns-clause-near
returns-clause-near c = fork_near _ _ (even_tree c.self.inside.nodes c.self.invariant.sound (Some c.args.key)) c.in-Ok.ensures.fork
