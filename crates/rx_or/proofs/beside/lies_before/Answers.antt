use Rattle.std.proofs.Common.{◌≡◌, ◌+◌, ◌-◌, ◌∙◌, arith, sym}
use Rattle.rx_tree.specs.Join.{length_of}
use Rattle.rx_level.specs.Step.{level_of}
use Rattle.rx_or.proofs.Neighbours.{before_from}
use Rattle.rx_or.proofs.beside.lies_before.Goals as goal

pub returns : goal.returns
returns c t =
    let long : (c.count-count.result - 1) + 1 ≡ length_of (level_of c.args.levels.now c.args.g) = omega (arith, c.if-count-eq0.false, c.count-count.ensures) in
    before_from (c.count-count.result - 1) (level_of c.args.levels.now c.args.g) (level_of c.args.levels.now c.args.h) _ _ c.requires.order long c.in-Some.ensures.some c.in-Some-find.ensures.some (sym c.is_at_most.ensures ∙ t)
