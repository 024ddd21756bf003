use Rattle.std.proofs.Common.{arith}
use Rattle.rx_level.specs.Step.{level_of}
use Rattle.rx_cut.proofs.Bare.{one_told, more_told}
use Rattle.rx_cut.proofs.clipping.bare_span.Goals.{then-count-ne0-via-then-count-ne0, then-count-ne0-via-else-count-ne0+then-count-ne0-2, then-count-ne0-via-else-count-ne0+else-count-ne0-2+then-count-ne0-3}
use Rattle.rx_cut.proofs.clipping.bare_span.Goals as goal

pub returns-then-count-ne0-clause-none : goal.returns-then-count-ne0-clause-none
returns-then-count-ne0-clause-none c =
    more_told (level_of c.args.levels.now c.args.root) (level_of c.args.levels.now c.in-Some.top.left) (level_of c.args.levels.now c.in-Some.top.child) (level_of c.args.levels.now c.in-Some.top.right) c.in-Some.top.span.now c.in-Some.ensures.level
    (λ left right child. elim c.then-count-ne0.branch [
      | then-count-ne0-via-then-count-ne0 w ↦ absurd (omega (arith, w.if-count-ne0.true, c.count.ensures, left))
      | then-count-ne0-via-else-count-ne0+then-count-ne0-2 w ↦ absurd (omega (arith, w.if-count-ne0-2.true, w.count-else-count-ne0.ensures, right))
      | then-count-ne0-via-else-count-ne0+else-count-ne0-2+then-count-ne0-3 w ↦ absurd (omega (arith, w.if-count-ne0-3.true, w.count-else-count-ne0-2.ensures, child))
    ])

pub returns-clause-some : goal.returns-clause-some
returns-clause-some c =
    one_told (level_of c.args.levels.now c.args.root) (level_of c.args.levels.now c.in-Some.top.left) (level_of c.args.levels.now c.in-Some.top.child) (level_of c.args.levels.now c.in-Some.top.right) c.in-Some.top.span.now c.in-Some.ensures.level
    (omega (arith, c.if-count-ne0.false, c.count.ensures))
    (omega (arith, c.if-count-ne0-2.false, c.count-else-count-ne0.ensures))
    (omega (arith, c.if-count-ne0-3.false, c.count-else-count-ne0-2.ensures))
