use Rattle.std.proofs.Common.{◌≡◌, ℕ, ◌∷◌, [], Some, arith, ap, sym, ◌∙◌, subst}
use Rattle.rx_tree.specs.Tree.{level_size}
use Rattle.rx_level.specs.Step.{Owns, Step}
use Rattle.rx_and.proofs.Fellows.{met_itself}
use Rattle.rx_weld.proofs.Welded.{owned_lent}
use Rattle.rx_and.proofs.HungLevels.{number_stays, freed_tree}
use Rattle.rx_and.proofs.choosing.level_and.Goals as goal

one : (g h : ℕ) → g ≡ h → h ≡ g
one g h e = sym e

pub meet_levels-requires-clause-g : goal.meet_levels-requires-clause-g
meet_levels-requires-clause-g c = owned_lent c.args.levels.now _ (Some c.args.g) c.requires.owns (λ m. omega arith)

pub meet_levels-requires-clause-h : goal.meet_levels-requires-clause-h
meet_levels-requires-clause-h c = owned_lent c.args.levels.now _ (Some c.args.h) c.requires.owns (λ m. omega arith)

pub returns-in-Ok-meet_levels-clause-live : goal.returns-in-Ok-meet_levels-clause-live
returns-in-Ok-meet_levels-clause-live c before n number = omega (arith, c.in-Ok-meet_levels.ensures.live before n number, c.free.ensures.live, c.free-in-Ok-meet_levels.ensures.live)

pub returns-in-Ok-meet_levels-clause-items : goal.returns-in-Ok-meet_levels-clause-items
returns-in-Ok-meet_levels-clause-items c before n m k first second third =
    c.in-Ok-meet_levels.ensures.items before n m k first second
    (number_stays c.meet_levels.new.levels c.free-in-Ok-meet_levels.new.self c.in-Ok-meet_levels.whole
    (freed_tree c.args.levels.now c.meet_levels.new.levels c.free.new.self c.free-in-Ok-meet_levels.new.self c.args.g c.args.h c.in-Ok-meet_levels.whole c.requires.owns c.in-Ok-meet_levels.ensures.ok c.free.ensures.step c.free-in-Ok-meet_levels.ensures.step)
    c.sound.ensures.stands c.sound-in-Ok-meet_levels.ensures.stands k third)

pub keep_one-requires : goal.keep_one-requires
keep_one-requires c = record { owns = subst (λ (x : ℕ). Owns c.args.levels.now (Some c.args.g ∷ Some x ∷ [])) (one c.args.g c.args.h (omega (arith, c.if-g-h.true))) c.requires.owns }

pub returns-in-Ok-clause-ok : goal.returns-in-Ok-clause-ok
returns-in-Ok-clause-ok c =
    subst (λ (x : ℕ). Step c.args.levels.now c.keep_one.new.levels (Some c.args.g ∷ Some x ∷ []) (c.in-Ok.whole ∷ [])) (sym (one c.args.g c.args.h (omega (arith, c.if-g-h.true)))) c.in-Ok.ensures.ok

pub returns-in-Ok-clause-level : goal.returns-in-Ok-clause-level
returns-in-Ok-clause-level c = c.in-Ok.ensures.level ∙ met_itself c.args.parts.now c.args.levels.now c.args.g c.args.h (sym (one c.args.g c.args.h (omega (arith, c.if-g-h.true)))) c.requires.first

pub returns-in-Ok-clause-items : goal.returns-in-Ok-clause-items
returns-in-Ok-clause-items c before n m k first second third = omega (arith, c.in-Ok.ensures.items n k first third)

pub returns-in-Err-clause-over : goal.returns-in-Err-clause-over
returns-in-Err-clause-over c e =
    omega (arith, c.in-Err.ensures.over, ap level_size (met_itself c.args.parts.now c.args.levels.now c.args.g c.args.h (sym (one c.args.g c.args.h (omega (arith, c.if-g-h.true)))) c.requires.first))

pub returns-in-Err-clause-err : goal.returns-in-Err-clause-err
returns-in-Err-clause-err c =
    subst (λ (x : ℕ). Step c.args.levels.now c.keep_one.new.levels (Some c.args.g ∷ Some x ∷ []) []) (sym (one c.args.g c.args.h (omega (arith, c.if-g-h.true)))) c.in-Err.ensures.err

pub returns-in-Ok-meet_levels-clause-same : goal.returns-in-Ok-meet_levels-clause-same
returns-in-Ok-meet_levels-clause-same c e = absurd (omega (arith, e, c.if-g-h.false))

pub returns-in-Ok-meet_levels-clause-live_turned : goal.returns-in-Ok-meet_levels-clause-live_turned
returns-in-Ok-meet_levels-clause-live_turned c before n number = omega (arith, c.in-Ok-meet_levels.ensures.live_turned before n number, c.free.ensures.live, c.free-in-Ok-meet_levels.ensures.live)

pub returns-in-Ok-meet_levels-clause-by_bits : goal.returns-in-Ok-meet_levels-clause-by_bits
returns-in-Ok-meet_levels-clause-by_bits c bare bits few = omega (arith, c.in-Ok-meet_levels.ensures.by_bits bare bits few, c.free.ensures.live, c.free-in-Ok-meet_levels.ensures.live)

pub returns-in-Ok-meet_levels-clause-by_bits_turned : goal.returns-in-Ok-meet_levels-clause-by_bits_turned
returns-in-Ok-meet_levels-clause-by_bits_turned c bare bits few = omega (arith, c.in-Ok-meet_levels.ensures.by_bits_turned bare bits few, c.free.ensures.live, c.free-in-Ok-meet_levels.ensures.live)

pub returns-in-Ok-meet_levels-clause-items_turned : goal.returns-in-Ok-meet_levels-clause-items_turned
returns-in-Ok-meet_levels-clause-items_turned c before n m k first second third =
    c.in-Ok-meet_levels.ensures.items_turned before n m k first second
    (number_stays c.meet_levels.new.levels c.free-in-Ok-meet_levels.new.self c.in-Ok-meet_levels.whole
    (freed_tree c.args.levels.now c.meet_levels.new.levels c.free.new.self c.free-in-Ok-meet_levels.new.self c.args.g c.args.h c.in-Ok-meet_levels.whole c.requires.owns c.in-Ok-meet_levels.ensures.ok c.free.ensures.step c.free-in-Ok-meet_levels.ensures.step)
    c.sound.ensures.stands c.sound-in-Ok-meet_levels.ensures.stands k third)

pub returns-in-Ok-clause-items_turned : goal.returns-in-Ok-clause-items_turned
returns-in-Ok-clause-items_turned c before n m k first second third = omega (arith, c.in-Ok.ensures.items m k second third)
