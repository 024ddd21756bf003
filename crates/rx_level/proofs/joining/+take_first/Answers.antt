use Rattle.std.proofs.Common.{◌≡◌, ℕ, Some, arith, ap, subst}
use Rattle.rx_level.specs.Tree.{IsHeight}
use Rattle.rx_level.specs.Step.{tall_of}
use Rattle.rx_level.proofs.Sinking.{first_level, first_low, first_high, first_kept}
use Rattle.rx_level.proofs.joining.+take_first.Goals as goal

pub returns-in-Ok-raise_left-clause-level : goal.returns-in-Ok-raise_left-clause-level
returns-in-Ok-raise_left-clause-level t c =
    first_level c.args.levels.now c.open.new.self c.take_first.new.levels c.raise_left.new.levels c.in_ok-top.top.left c.in_ok-top.top.right c.in-Ok.first.rest c.in-Ok-raise_left.rest c.args.key c.in-Some.next c.in_ok-top.top.item c.in-Ok.first.item
    c.in-Some.is c.requires c.in_ok-top.ensures.ok c.in-Ok.ensures.ok c.in-Ok-raise_left.ensures.ok c.in_ok-top.ensures.level c.in-Ok.ensures.level c.in-Ok-raise_left.ensures.level

pub returns-in-Ok-raise_left-clause-low : goal.returns-in-Ok-raise_left-clause-low
returns-in-Ok-raise_left-clause-low t c =
    let k = first_kept c.args.levels.now c.open.new.self c.take_first.new.levels c.in_ok-top.top.item.child c.in_ok-top.top.left c.in_ok-top.top.right c.args.key c.in-Some.next c.in-Some.is c.requires c.in_ok-top.ensures.ok c.in-Ok.ensures.ok in
    let next : tall_of c.open.new.self c.in_ok-top.top.left ≡ tall_of c.open.new.self (Some c.in-Some.next) = ap (tall_of c.open.new.self) c.in-Some.is in
    first_low _ _ _ (tall_of c.take_first.new.levels c.in-Ok.first.rest) _ c.in_ok-top.ensures.height (omega (arith, next, c.in-Ok.ensures.low))
    (subst (λ (x : ℕ). IsHeight (tall_of c.take_first.new.levels c.in-Ok.first.rest) x (tall_of c.raise_left.new.levels c.in-Ok-raise_left.rest)) k c.in-Ok-raise_left.ensures.height)

pub returns-in-Ok-raise_left-clause-high : goal.returns-in-Ok-raise_left-clause-high
returns-in-Ok-raise_left-clause-high t c =
    let k = first_kept c.args.levels.now c.open.new.self c.take_first.new.levels c.in_ok-top.top.item.child c.in_ok-top.top.left c.in_ok-top.top.right c.args.key c.in-Some.next c.in-Some.is c.requires c.in_ok-top.ensures.ok c.in-Ok.ensures.ok in
    let next : tall_of c.open.new.self c.in_ok-top.top.left ≡ tall_of c.open.new.self (Some c.in-Some.next) = ap (tall_of c.open.new.self) c.in-Some.is in
    first_high _ _ _ (tall_of c.take_first.new.levels c.in-Ok.first.rest) _ c.in_ok-top.ensures.height c.in_ok-top.ensures.near (omega (arith, next, c.in-Ok.ensures.low)) (omega (arith, next, c.in-Ok.ensures.high))
    (subst (λ (x : ℕ). IsHeight (tall_of c.take_first.new.levels c.in-Ok.first.rest) x (tall_of c.raise_left.new.levels c.in-Ok-raise_left.rest)) k c.in-Ok-raise_left.ensures.height)
