use Rattle.std.proofs.Common.{arith, sym, ◌∙◌, subst}
use Rattle.rx_tree.specs.Cuts.{AreInOrder}
use Rattle.rx_tree.proofs.Order.{right_order}
use Rattle.rx_level.specs.Step.{level_of}
use Rattle.rx_cut.proofs.Bare.{longer}
use Rattle.rx_and.proofs.Narrowed.{back_all, back_right}
use Rattle.rx_and.proofs.narrowing.+items_behind.Goals as goal

pub items_behind-requires : goal.items_behind-requires
items_behind-requires t c =
    let long = longer _ (level_of c.args.levels.now c.in-Some.seen.left) c.in-Some.seen.span.now (level_of c.args.levels.now c.in-Some.seen.child) (level_of c.args.levels.now c.in-Some.seen.right) c.in-Some.ensures.level in
    let on = right_order (level_of c.args.levels.now c.in-Some.seen.left) c.in-Some.seen.span.now (level_of c.args.levels.now c.in-Some.seen.child) (level_of c.args.levels.now c.in-Some.seen.right) (subst AreInOrder c.in-Some.ensures.level c.requires.order) in
    (omega (arith, c.decreases, long), (c.in-Some.ensures.right, on.3))

pub returns-then-is_at_most-clause-back : goal.returns-then-is_at_most-clause-back
returns-then-is_at_most-clause-back t c =
    back_right c.args.edge.now (level_of c.args.levels.now c.items_behind.result) (level_of c.args.levels.now c.args.root) (level_of c.args.levels.now c.in-Some.seen.left) c.in-Some.seen.span.now (level_of c.args.levels.now c.in-Some.seen.child) (level_of c.args.levels.now c.in-Some.seen.right)
    c.in-Some.ensures.level c.requires.order (sym c.is_at_most.ensures ∙ c.if-is_at_most.true) c.items_behind.ensures.back

pub returns-clause-back : goal.returns-clause-back
returns-clause-back t c = back_all c.args.edge.now (level_of c.args.levels.now c.args.root)
