use Rattle.std.proofs.Common.{◌≡◌, ◌+◌, ◌-◌, arith}
use Rattle.rx_tree.specs.Join.{length_of}
use Rattle.rx_level.specs.Step.{level_of}
use Rattle.rx_weld.proofs.Seams.{no_seam, seam_none, last_there, seam_from, seam_to}
use Rattle.rx_weld.proofs.gluing.is_seam.Goals as goal

pub returns-then-count-eq0 : goal.returns-then-count-eq0
returns-then-count-eq0 c = (
  (λ t. absurd (cc t)),
  (λ seam. absurd (no_seam (level_of c.args.levels.now c.args.left) (level_of c.args.levels.now c.args.right) (omega (arith, c.if-count-eq0.true, c.count-count.ensures)) seam)),
)

pub returns-in_default : goal.returns-in_default
returns-in_default c = absurd (last_there (c.count-count.result - 1) (level_of c.args.levels.now c.args.left) (omega (arith, c.if-count-eq0.false, c.count-count.ensures)) c.in_default.ensures.none)

pub returns-in_default-find : goal.returns-in_default-find
returns-in_default-find c = ((λ t. absurd (cc t)), (λ seam. absurd (seam_none (level_of c.args.levels.now c.args.left) (level_of c.args.levels.now c.args.right) c.in_default-find.ensures.none seam)))

pub returns : goal.returns
returns c =
    let long : (c.count-count.result - 1) + 1 ≡ length_of (level_of c.args.levels.now c.args.left) = omega (arith, c.if-count-eq0.false, c.count-count.ensures) in (
      (λ t. seam_from (c.count-count.result - 1) (level_of c.args.levels.now c.args.left) (level_of c.args.levels.now c.args.right) _ _ long c.in-Some.ensures.some c.in-Some-find.ensures.some (c.is_one.ensures.yes t)),
      (λ seam.
          let one = seam_to (c.count-count.result - 1) (level_of c.args.levels.now c.args.left) (level_of c.args.levels.now c.args.right) _ _ long c.in-Some.ensures.some c.in-Some-find.ensures.some seam in
          c.is_one.ensures.no one.0 one.1),
    )
