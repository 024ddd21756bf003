use Rattle.std.proofs.Common.{◌≤◌, ◌+◌, ◌-◌, ◌*◌, ℕ, [], arith, subst}
use Rattle.slab.specs.Slab.{slab_len}
use Rattle.rx_level.specs.Step.{tall_of}
use Rattle.rx_level.proofs.Steps.{held_there}
use Rattle.rx_level.proofs.Lending.{lent_held}
use Rattle.rx_or.proofs.Opened.{covered_level, covered_height, covered_front, covered_live}
use Rattle.rx_or.proofs.covering.replace.Goals as goal

pub hold-requires : goal.hold-requires
hold-requires c =
    lent_held c.args.levels.now [] c.args.root (held_there c.args.levels.now c.args.root (λ m. omega (arith, c.requires.owns.owned m))) (λ m. omega (arith, c.requires.owns.owned m))

pub returns-in_ok-whole-in-Ok-cut_after-clause-level : goal.returns-in_ok-whole-in-Ok-cut_after-clause-level
returns-in_ok-whole-in-Ok-cut_after-clause-level c =
    covered_level c.args.levels.now c.hold.new.self c.cut_before.new.levels c.cut_after.new.levels c.join.new.levels c.args.root c.in-Ok-cut_before.front.rest c.in-Ok-cut_after.back.rest c.in_ok-whole-in-Ok-cut_after.whole
    c.args.span.lo c.args.span.hi c.in-Ok-cut_before.front.edge c.in-Ok-cut_after.back.edge c.requires.owns c.in-Ok.ensures.ok c.in-Ok-cut_before.ensures.ok c.in-Ok-cut_after.ensures.ok
    c.in-Ok-cut_before.ensures.level c.in-Ok-cut_after.ensures.level c.in_ok-whole-in-Ok-cut_after.ensures.level

pub returns-in_ok-whole-in-Ok-cut_after-clause-live : goal.returns-in_ok-whole-in-Ok-cut_after-clause-live
returns-in_ok-whole-in-Ok-cut_after-clause-live c =
    let root = c.args.root in
    let front = c.in-Ok-cut_before.front.rest in
    let back = c.in-Ok-cut_after.back.rest in
    let tall = covered_height c.args.levels.now c.hold.new.self c.cut_before.new.levels root front c.requires.owns c.in-Ok.ensures.ok c.in-Ok-cut_before.ensures.ok in
    let kept = covered_front c.args.levels.now c.hold.new.self c.cut_before.new.levels c.cut_after.new.levels root front c.requires.owns c.in-Ok.ensures.ok c.in-Ok-cut_before.ensures.ok c.in-Ok-cut_after.ensures.ok in
    let last : slab_len c.join.new.levels ≤ slab_len c.cut_after.new.levels + 3 * ((tall_of c.cut_before.new.levels front - tall_of c.cut_after.new.levels back) + (tall_of c.cut_after.new.levels back - tall_of c.cut_before.new.levels front)) + 1 =
    subst (λ (x : ℕ). slab_len c.join.new.levels ≤ slab_len c.cut_after.new.levels + 3 * ((x - tall_of c.cut_after.new.levels back) + (tall_of c.cut_after.new.levels back - x)) + 1) kept.tall c.in_ok-whole-in-Ok-cut_after.ensures.live in
    covered_live (tall_of c.args.levels.now root) (tall_of c.cut_before.new.levels front) (tall_of c.cut_after.new.levels back) (slab_len c.args.levels.now) (slab_len c.hold.new.self) (slab_len c.cut_before.new.levels) (slab_len c.cut_after.new.levels) (slab_len c.join.new.levels)
    (omega (arith, tall.0, c.in-Ok-cut_before.ensures.height))
    (omega (arith, tall.1, c.in-Ok-cut_after.ensures.height))
    (omega (arith, c.in-Ok.ensures.live))
    (omega (arith, tall.0, c.in-Ok-cut_before.ensures.made))
    (omega (arith, tall.1, c.in-Ok-cut_after.ensures.made))
    last
