use Rattle.std.proofs.Common.{ap, arith}
use Rattle.rx_level.specs.Step.{tall_of}
use Rattle.rx_level.proofs.Turning.{kept_root, turned_before, raised_height, led_alike}
use Rattle.rx_level.proofs.balance.raise_right.Goals as goal

pub returns-in_ok-whole-in-Ok-clause-level : goal.returns-in_ok-whole-in-Ok-clause-level
returns-in_ok-whole-in-Ok-clause-level c =
    turned_before c.args.levels.now c.open.new.self c.turn_right.new.levels c.args.right c.args.item.child c.args.left c.in_ok-whole-in-Ok.whole c.in-Some.key c.args.item.span _ _ c.in-Some.is c.requires.owns c.in-Ok.ensures.ok c.in-Ok.ensures.level c.in_ok-whole-in-Ok.ensures.level

pub returns-in_ok-whole-in-Ok-clause-height : goal.returns-in_ok-whole-in-Ok-clause-height
returns-in_ok-whole-in-Ok-clause-height c =
    let low = kept_root c.args.levels.now c.open.new.self _ _ c.in-Ok.ensures.ok c.args.right (λ m. omega (arith, c.requires.owns.owned m, led_alike m _ _ c.in-Some.is)) in
    (raised_height _ _ _ (omega (arith, ap (tall_of c.args.levels.now) c.in-Some.is, c.requires.high, c.if-saturating_sub-le1.false, c.height.ensures, c.height-2.ensures, c.saturating_sub.ensures))
    (omega (arith, c.in_ok-whole-in-Ok.ensures.low, low.tall)) (omega (arith, c.in_ok-whole-in-Ok.ensures.high, low.tall))).1
