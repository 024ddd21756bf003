use Rattle.std.proofs.Common.{ℕ, arith, refl, subst, ◌∙◌}
use Rattle.rx_level.specs.Tree.{IsHeight}
use Rattle.rx_level.specs.Step.{tall_of}
use Rattle.rx_level.proofs.Turning.{kept_root}
use Rattle.rx_cut.proofs.Staying.{stays}
use Rattle.rx_or.proofs.inserting.put_before.Goals as goal

pub returns-clause-level : goal.returns-clause-level
returns-clause-level c =
    let own = kept_root c.args.levels.now c.hold_both.new.levels _ _ c.in-Ok.ensures.ok c.args.front (λ m. omega (arith, c.requires.owns.owned m)) in
    let child = stays c.args.levels.now c.hold_both.new.levels _ c.requires.owns.sound c.in-Ok.ensures.ok c.args.child c.requires.child in
    let side = stays c.args.levels.now c.hold_both.new.levels _ c.requires.owns.sound c.in-Ok.ensures.ok c.args.right c.requires.right in
    c.in_ok-whole.ensures.level ∙ (rw (own.level, child.level, side.level) refl)

pub returns-clause-height : goal.returns-clause-height
returns-clause-height c =
    let a = c.args.levels.now in
    let b = c.hold_both.new.levels in
    let own = kept_root a b _ _ c.in-Ok.ensures.ok c.args.front (λ m. omega (arith, c.requires.owns.owned m)) in
    let side = stays a b _ c.requires.owns.sound c.in-Ok.ensures.ok c.args.right c.requires.right in
    subst (λ (x : ℕ). IsHeight x (tall_of a c.args.right) (tall_of c.join.new.levels c.in_ok-whole.whole)) own.tall (subst (λ (x : ℕ). IsHeight (tall_of b c.args.front) x (tall_of c.join.new.levels c.in_ok-whole.whole)) side.tall c.in_ok-whole.ensures.height)

pub returns-clause-live : goal.returns-clause-live
returns-clause-live c =
    let own = kept_root c.args.levels.now c.hold_both.new.levels _ _ c.in-Ok.ensures.ok c.args.front (λ m. omega (arith, c.requires.owns.owned m)) in
    let side = stays c.args.levels.now c.hold_both.new.levels _ c.requires.owns.sound c.in-Ok.ensures.ok c.args.right c.requires.right in
    omega (arith, own.tall, side.tall, c.in-Ok.ensures.live, c.in_ok-whole.ensures.live)

pub returns-in_err-whole-clause-live : goal.returns-in_err-whole-clause-live
returns-in_err-whole-clause-live c =
    let own = kept_root c.args.levels.now c.hold_both.new.levels _ _ c.in-Ok.ensures.ok c.args.front (λ m. omega (arith, c.requires.owns.owned m)) in
    let side = stays c.args.levels.now c.hold_both.new.levels _ c.requires.owns.sound c.in-Ok.ensures.ok c.args.right c.requires.right in
    omega (arith, own.tall, side.tall, c.in-Ok.ensures.live, c.in_err-whole.ensures.live)
