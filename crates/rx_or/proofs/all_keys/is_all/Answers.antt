use Rattle.std.proofs.Common.{◌∙◌, arith}
use Rattle.rx_level.specs.Step.{level_of}
use Rattle.rx_or.proofs.Laid.{all_alone, all_not}
use Rattle.rx_or.proofs.all_keys.is_all.Goals.{then-count-ne0-via-then-count-ne0, then-count-ne0-via-else-count-ne0+then-count-ne0-2, then-count-ne0-via-else-count-ne0+else-count-ne0-2+then-count-ne0-3}
use Rattle.rx_or.proofs.all_keys.is_all.Goals as goal

pub returns-then-count-ne0 : goal.returns-then-count-ne0
returns-then-count-ne0 c =
    all_not c.args.nullable (level_of c.args.levels.now c.args.root) (level_of c.args.levels.now c.in-Some.top.left) (level_of c.args.levels.now c.in-Some.top.child) (level_of c.args.levels.now c.in-Some.top.right) c.in-Some.top.span.now c.in-Some.ensures.level
    (λ left right child. elim c.then-count-ne0.branch [
      | then-count-ne0-via-then-count-ne0 w ↦ absurd (omega (arith, w.if-count-ne0.true, c.count.ensures, left))
      | then-count-ne0-via-else-count-ne0+then-count-ne0-2 w ↦ absurd (omega (arith, w.if-count-ne0-2.true, w.count-else-count-ne0.ensures, right))
      | then-count-ne0-via-else-count-ne0+else-count-ne0-2+then-count-ne0-3 w ↦ absurd (omega (arith, w.if-count-ne0-3.true, w.count-else-count-ne0-2.ensures, child))
    ])

pub returns : goal.returns
returns c =
    c.is_whole_span.ensures
    ∙ all_alone c.args.nullable (level_of c.args.levels.now c.args.root) (level_of c.args.levels.now c.in-Some.top.left) (level_of c.args.levels.now c.in-Some.top.child) (level_of c.args.levels.now c.in-Some.top.right) c.in-Some.top.span.now c.in-Some.ensures.level
    (omega (arith, c.if-count-ne0.false, c.count.ensures))
    (omega (arith, c.if-count-ne0-2.false, c.count-else-count-ne0.ensures))
    (omega (arith, c.if-count-ne0-3.false, c.count-else-count-ne0-2.ensures))
