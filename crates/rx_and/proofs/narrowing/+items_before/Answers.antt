use Rattle.std.proofs.Common.{arith, sym, ◌∙◌}
use Rattle.rx_level.specs.Step.{level_of}
use Rattle.rx_cut.proofs.Bare.{longer}
use Rattle.rx_and.proofs.Narrowed.{front_all, front_left}
use Rattle.rx_and.proofs.narrowing.+items_before.Goals as goal

pub items_before-requires : goal.items_before-requires
items_before-requires t c =
    let long = longer _ (level_of c.args.levels.now c.in-Some.seen.left) c.in-Some.seen.span.now (level_of c.args.levels.now c.in-Some.seen.child) (level_of c.args.levels.now c.in-Some.seen.right) c.in-Some.ensures.level in
    (omega (arith, c.decreases, long), c.in-Some.ensures.left)

pub returns-then-is_at_most-clause-front : goal.returns-then-is_at_most-clause-front
returns-then-is_at_most-clause-front t c =
    front_left c.args.edge.now (level_of c.args.levels.now c.items_before.result) (level_of c.args.levels.now c.args.root) (level_of c.args.levels.now c.in-Some.seen.left) c.in-Some.seen.span.now (level_of c.args.levels.now c.in-Some.seen.child) (level_of c.args.levels.now c.in-Some.seen.right)
    c.in-Some.ensures.level (sym c.is_at_most.ensures ∙ c.if-is_at_most.true) c.items_before.ensures.front

pub returns-clause-front : goal.returns-clause-front
returns-clause-front t c = front_all c.args.edge.now (level_of c.args.levels.now c.args.root)
