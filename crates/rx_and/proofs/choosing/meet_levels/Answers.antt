use Rattle.std.proofs.Common.{◌≡◌, ◌<◌, ◌≤◌, ◌+◌, ◌*◌, ◌^◌, ℕ, true, [], length, Some, arith, refl, ap, sym, ◌∙◌, subst}
use Rattle.slab.specs.Slab.{Slab, slab_len}
use Rattle.rx_tree.specs.Tree.{level_size}
use Rattle.rx_tree.specs.Canonical.{IsCanonicalLevel}
use Rattle.rx_tree.specs.Join.{length_of}
use Rattle.rx_tree.specs.Bare.{is_bare}
use Rattle.rx_level.specs.declared.nodes.Node.{Node}
use Rattle.rx_level.specs.Step.{level_of}
use Rattle.rx_level.specs.Under.{IsNumberUnder}
use Rattle.rx_graft.specs.Hang.{chain, depth_of}
use Rattle.rx_and.proofs.Fellows.{both_turn}
use Rattle.rx_and.proofs.HungLevels.{Two, later, not_end}
use Rattle.rx_cut.proofs.Staying.{stays}
use Rattle.rx_and.proofs.Meets.{lent_items}
use Rattle.rx_and.proofs.Turned.{deep_not_behind, short_not_before, bare_chain, bare_depth, number_bare, idle_twice, told_some, told_none}
use Rattle.rx_and.proofs.choosing.meet_levels.Goals as goal

pub returns-in-Ok-Some-clause-live : goal.returns-in-Ok-Some-clause-live
returns-in-Ok-Some-clause-live c before n number = (told_some _ c.in-Ok-Some.field-0 c.in-Ok-Some.whole c.in-Ok-Some.field-0-is c.in-Ok-Some.ensures.live) n number

pub returns-in-Ok-Some-clause-items : goal.returns-in-Ok-Some-clause-items
returns-in-Ok-Some-clause-items c before n m k first second third = (told_some _ c.in-Ok-Some.field-0 c.in-Ok-Some.whole c.in-Ok-Some.field-0-is c.in-Ok-Some.ensures.items) n m k first second third

pub returns-in-Ok-Some-clause-live_turned : goal.returns-in-Ok-Some-clause-live_turned
returns-in-Ok-Some-clause-live_turned c before n number =
    let a = c.args.levels.now in
    let P = c.args.parts.now in
    let G = level_of a (Some c.args.g) in
    let H = level_of a (Some c.args.h) in
    let has_g = not_end G (lent_items a c.requires.sound (Some c.args.g) c.args.g refl c.requires.g) in
    let has_h = not_end H (lent_items a c.requires.sound (Some c.args.h) c.args.h refl c.requires.h) in
    absurd (deep_not_behind P G H c.requires.first c.requires.second has_g has_h (told_some _ c.in-Ok-Some.field-0 c.in-Ok-Some.whole c.in-Ok-Some.field-0-is c.in-Ok-Some.ensures.deep) before)

pub returns-in-Ok-Some-clause-items_turned : goal.returns-in-Ok-Some-clause-items_turned
returns-in-Ok-Some-clause-items_turned c before n m k first second third =
    let a = c.args.levels.now in
    let P = c.args.parts.now in
    let G = level_of a (Some c.args.g) in
    let H = level_of a (Some c.args.h) in
    let has_g = not_end G (lent_items a c.requires.sound (Some c.args.g) c.args.g refl c.requires.g) in
    let has_h = not_end H (lent_items a c.requires.sound (Some c.args.h) c.args.h refl c.requires.h) in
    absurd (deep_not_behind P G H c.requires.first c.requires.second has_g has_h (told_some _ c.in-Ok-Some.field-0 c.in-Ok-Some.whole c.in-Ok-Some.field-0-is c.in-Ok-Some.ensures.deep) before)

pub returns-in-Ok-Some-clause-by_bits : goal.returns-in-Ok-Some-clause-by_bits
returns-in-Ok-Some-clause-by_bits c bare bits few =
    let a = c.args.levels.now in
    let P = c.args.parts.now in
    let G = level_of a (Some c.args.g) in
    let H = level_of a (Some c.args.h) in
    absurd (omega (arith, (told_some _ c.in-Ok-Some.field-0 c.in-Ok-Some.whole c.in-Ok-Some.field-0-is c.in-Ok-Some.ensures.more), ap length (bare_chain P H c.requires.second bare)))

pub returns-in-Ok-Some-clause-by_bits_turned : goal.returns-in-Ok-Some-clause-by_bits_turned
returns-in-Ok-Some-clause-by_bits_turned c bare bits few =
    omega (arith, (told_some _ c.in-Ok-Some.field-0 c.in-Ok-Some.whole c.in-Ok-Some.field-0-is c.in-Ok-Some.ensures.live) 1 (number_bare c.args.levels.now c.requires.sound c.sound.ensures.stands c.args.g bare))

pub hang_below-requires-in-Ok-None-clause-g : goal.hang_below-requires-in-Ok-None-clause-g
hang_below-requires-in-Ok-None-clause-g c =
    let a = c.args.levels.now in
    let P = c.args.parts.now in
    let G = level_of a (Some c.args.g) in
    let H = level_of a (Some c.args.h) in
    let two : Two a P c.args.g c.args.h = record { sound = c.requires.sound; lent_g = c.requires.g; lent_h = c.requires.h; first = c.requires.first; second = c.requires.second } in
    let b = c.hang_below.new.levels in
    let step = (told_none _ c.in-Ok-None.field-0 c.in-Ok-None.field-0-is c.in-Ok-None.ensures.none) in
    let kept_g = (stays a b [] c.requires.sound step (Some c.args.g) c.requires.g).level in
    let kept_h = (stays a b [] c.requires.sound step (Some c.args.h) c.requires.h).level in
    let l = later a b P c.args.g c.args.h two step in
    l.lent_h

pub hang_below-requires-in-Ok-None-clause-h : goal.hang_below-requires-in-Ok-None-clause-h
hang_below-requires-in-Ok-None-clause-h c =
    let a = c.args.levels.now in
    let P = c.args.parts.now in
    let G = level_of a (Some c.args.g) in
    let H = level_of a (Some c.args.h) in
    let two : Two a P c.args.g c.args.h = record { sound = c.requires.sound; lent_g = c.requires.g; lent_h = c.requires.h; first = c.requires.first; second = c.requires.second } in
    let b = c.hang_below.new.levels in
    let step = (told_none _ c.in-Ok-None.field-0 c.in-Ok-None.field-0-is c.in-Ok-None.ensures.none) in
    let kept_g = (stays a b [] c.requires.sound step (Some c.args.g) c.requires.g).level in
    let kept_h = (stays a b [] c.requires.sound step (Some c.args.h) c.requires.h).level in
    let l = later a b P c.args.g c.args.h two step in
    l.lent_g

pub hang_below-requires-in-Ok-None-clause-first : goal.hang_below-requires-in-Ok-None-clause-first
hang_below-requires-in-Ok-None-clause-first c =
    let a = c.args.levels.now in
    let P = c.args.parts.now in
    let G = level_of a (Some c.args.g) in
    let H = level_of a (Some c.args.h) in
    let b = c.hang_below.new.levels in
    let step = (told_none _ c.in-Ok-None.field-0 c.in-Ok-None.field-0-is c.in-Ok-None.ensures.none) in
    let kept_g = (stays a b [] c.requires.sound step (Some c.args.g) c.requires.g).level in
    let kept_h = (stays a b [] c.requires.sound step (Some c.args.h) c.requires.h).level in
    subst (IsCanonicalLevel P) (sym kept_h) c.requires.second

pub hang_below-requires-in-Ok-None-clause-second : goal.hang_below-requires-in-Ok-None-clause-second
hang_below-requires-in-Ok-None-clause-second c =
    let a = c.args.levels.now in
    let P = c.args.parts.now in
    let G = level_of a (Some c.args.g) in
    let H = level_of a (Some c.args.h) in
    let b = c.hang_below.new.levels in
    let step = (told_none _ c.in-Ok-None.field-0 c.in-Ok-None.field-0-is c.in-Ok-None.ensures.none) in
    let kept_g = (stays a b [] c.requires.sound step (Some c.args.g) c.requires.g).level in
    let kept_h = (stays a b [] c.requires.sound step (Some c.args.h) c.requires.h).level in
    subst (IsCanonicalLevel P) (sym kept_g) c.requires.first

pub returns-in-Ok-Some-hang_below-clause-level : goal.returns-in-Ok-Some-hang_below-clause-level
returns-in-Ok-Some-hang_below-clause-level c =
    let a = c.args.levels.now in
    let P = c.args.parts.now in
    let G = level_of a (Some c.args.g) in
    let H = level_of a (Some c.args.h) in
    let two : Two a P c.args.g c.args.h = record { sound = c.requires.sound; lent_g = c.requires.g; lent_h = c.requires.h; first = c.requires.first; second = c.requires.second } in
    let b = c.hang_below.new.levels in
    let step = (told_none _ c.in-Ok-None.field-0 c.in-Ok-None.field-0-is c.in-Ok-None.ensures.none) in
    let kept_g = (stays a b [] c.requires.sound step (Some c.args.g) c.requires.g).level in
    let kept_h = (stays a b [] c.requires.sound step (Some c.args.h) c.requires.h).level in
    let l = later a b P c.args.g c.args.h two step in
    (told_some _ c.in-Ok-Some-hang_below.field-0 c.in-Ok-Some-hang_below.whole c.in-Ok-Some-hang_below.field-0-is c.in-Ok-Some-hang_below.ensures.level) ∙ both_turn (level_of b (Some c.args.g)) (level_of b (Some c.args.h)) l.fellows ∙ l.same

pub returns-in-Ok-Some-hang_below-clause-live : goal.returns-in-Ok-Some-hang_below-clause-live
returns-in-Ok-Some-hang_below-clause-live c before n number =
    let a = c.args.levels.now in
    let P = c.args.parts.now in
    let G = level_of a (Some c.args.g) in
    let H = level_of a (Some c.args.h) in
    let has_g = not_end G (lent_items a c.requires.sound (Some c.args.g) c.args.g refl c.requires.g) in
    let has_h = not_end H (lent_items a c.requires.sound (Some c.args.h) c.args.h refl c.requires.h) in
    absurd (short_not_before P G H c.requires.first c.requires.second has_g has_h (told_none _ c.in-Ok-None.field-0 c.in-Ok-None.field-0-is c.in-Ok-None.ensures.short) before)

pub returns-in-Ok-Some-hang_below-clause-items : goal.returns-in-Ok-Some-hang_below-clause-items
returns-in-Ok-Some-hang_below-clause-items c before n m k first second third =
    let a = c.args.levels.now in
    let P = c.args.parts.now in
    let G = level_of a (Some c.args.g) in
    let H = level_of a (Some c.args.h) in
    let has_g = not_end G (lent_items a c.requires.sound (Some c.args.g) c.args.g refl c.requires.g) in
    let has_h = not_end H (lent_items a c.requires.sound (Some c.args.h) c.args.h refl c.requires.h) in
    absurd (short_not_before P G H c.requires.first c.requires.second has_g has_h (told_none _ c.in-Ok-None.field-0 c.in-Ok-None.field-0-is c.in-Ok-None.ensures.short) before)

pub returns-in-Ok-Some-hang_below-clause-live_turned : goal.returns-in-Ok-Some-hang_below-clause-live_turned
returns-in-Ok-Some-hang_below-clause-live_turned c before n number =
    let a = c.args.levels.now in
    let P = c.args.parts.now in
    let G = level_of a (Some c.args.g) in
    let H = level_of a (Some c.args.h) in
    let b = c.hang_below.new.levels in
    let step = (told_none _ c.in-Ok-None.field-0 c.in-Ok-None.field-0-is c.in-Ok-None.ensures.none) in
    let kept_g = (stays a b [] c.requires.sound step (Some c.args.g) c.requires.g).level in
    let kept_h = (stays a b [] c.requires.sound step (Some c.args.h) c.requires.h).level in
    let long_g = ap (λ l. length (chain P l)) kept_g in
    let long_h = ap (λ l. length (chain P l)) kept_h in
    let same : b ≡ a = (told_none _ c.in-Ok-None.field-0 c.in-Ok-None.field-0-is c.in-Ok-None.ensures.same) (omega (arith, long_g, long_h, (told_some _ c.in-Ok-Some-hang_below.field-0 c.in-Ok-Some-hang_below.whole c.in-Ok-Some-hang_below.field-0-is c.in-Ok-Some-hang_below.ensures.more))) in
    omega (arith, (told_some _ c.in-Ok-Some-hang_below.field-0 c.in-Ok-Some-hang_below.whole c.in-Ok-Some-hang_below.field-0-is c.in-Ok-Some-hang_below.ensures.live) n (subst (λ s. IsNumberUnder s (Some c.args.h) n) (sym same) number), ap slab_len same)

pub returns-in-Ok-Some-hang_below-clause-items_turned : goal.returns-in-Ok-Some-hang_below-clause-items_turned
returns-in-Ok-Some-hang_below-clause-items_turned c before n m k first second third =
    let a = c.args.levels.now in
    let P = c.args.parts.now in
    let G = level_of a (Some c.args.g) in
    let H = level_of a (Some c.args.h) in
    let b = c.hang_below.new.levels in
    let step = (told_none _ c.in-Ok-None.field-0 c.in-Ok-None.field-0-is c.in-Ok-None.ensures.none) in
    let kept_g = (stays a b [] c.requires.sound step (Some c.args.g) c.requires.g).level in
    let kept_h = (stays a b [] c.requires.sound step (Some c.args.h) c.requires.h).level in
    let long_g = ap (λ l. length (chain P l)) kept_g in
    let long_h = ap (λ l. length (chain P l)) kept_h in
    let same : b ≡ a = (told_none _ c.in-Ok-None.field-0 c.in-Ok-None.field-0-is c.in-Ok-None.ensures.same) (omega (arith, long_g, long_h, (told_some _ c.in-Ok-Some-hang_below.field-0 c.in-Ok-Some-hang_below.whole c.in-Ok-Some-hang_below.field-0-is c.in-Ok-Some-hang_below.ensures.more))) in
    (told_some _ c.in-Ok-Some-hang_below.field-0 c.in-Ok-Some-hang_below.whole c.in-Ok-Some-hang_below.field-0-is c.in-Ok-Some-hang_below.ensures.items) n m k (subst (λ s. IsNumberUnder s (Some c.args.h) n) (sym same) first) (subst (λ s. IsNumberUnder s (Some c.args.g) m) (sym same) second) third

pub returns-in-Ok-Some-hang_below-clause-by_bits : goal.returns-in-Ok-Some-hang_below-clause-by_bits
returns-in-Ok-Some-hang_below-clause-by_bits c bare bits few =
    let a = c.args.levels.now in
    let P = c.args.parts.now in
    let G = level_of a (Some c.args.g) in
    let H = level_of a (Some c.args.h) in
    let b = c.hang_below.new.levels in
    let step = (told_none _ c.in-Ok-None.field-0 c.in-Ok-None.field-0-is c.in-Ok-None.ensures.none) in
    let kept_g = (stays a b [] c.requires.sound step (Some c.args.g) c.requires.g).level in
    let kept_h = (stays a b [] c.requires.sound step (Some c.args.h) c.requires.h).level in
    let long_g = ap (λ l. length (chain P l)) kept_g in
    let long_h = ap (λ l. length (chain P l)) kept_h in
    let same : b ≡ a = (told_none _ c.in-Ok-None.field-0 c.in-Ok-None.field-0-is c.in-Ok-None.ensures.same) (omega (arith, long_g, long_h, (told_some _ c.in-Ok-Some-hang_below.field-0 c.in-Ok-Some-hang_below.whole c.in-Ok-Some-hang_below.field-0-is c.in-Ok-Some-hang_below.ensures.more))) in
    omega (arith, (told_some _ c.in-Ok-Some-hang_below.field-0 c.in-Ok-Some-hang_below.whole c.in-Ok-Some-hang_below.field-0-is c.in-Ok-Some-hang_below.ensures.live) 1 (subst (λ s. IsNumberUnder s (Some c.args.h) 1) (sym same) (number_bare a c.requires.sound c.sound.ensures.stands c.args.h bare)), ap slab_len same)

pub returns-in-Ok-Some-hang_below-clause-by_bits_turned : goal.returns-in-Ok-Some-hang_below-clause-by_bits_turned
returns-in-Ok-Some-hang_below-clause-by_bits_turned c bare bits few =
    let a = c.args.levels.now in
    let P = c.args.parts.now in
    let G = level_of a (Some c.args.g) in
    let H = level_of a (Some c.args.h) in
    let b = c.hang_below.new.levels in
    let step = (told_none _ c.in-Ok-None.field-0 c.in-Ok-None.field-0-is c.in-Ok-None.ensures.none) in
    let kept_g = (stays a b [] c.requires.sound step (Some c.args.g) c.requires.g).level in
    let kept_h = (stays a b [] c.requires.sound step (Some c.args.h) c.requires.h).level in
    let long_g = ap (λ l. length (chain P l)) kept_g in
    absurd (omega (arith, long_g, (told_some _ c.in-Ok-Some-hang_below.field-0 c.in-Ok-Some-hang_below.whole c.in-Ok-Some-hang_below.field-0-is c.in-Ok-Some-hang_below.ensures.more), ap length (bare_chain P G c.requires.first bare)))

pub returns-in-Err-hang_below-clause-over : goal.returns-in-Err-hang_below-clause-over
returns-in-Err-hang_below-clause-over c e =
    let a = c.args.levels.now in
    let P = c.args.parts.now in
    let G = level_of a (Some c.args.g) in
    let H = level_of a (Some c.args.h) in
    let two : Two a P c.args.g c.args.h = record { sound = c.requires.sound; lent_g = c.requires.g; lent_h = c.requires.h; first = c.requires.first; second = c.requires.second } in
    let b = c.hang_below.new.levels in
    let step = (told_none _ c.in-Ok-None.field-0 c.in-Ok-None.field-0-is c.in-Ok-None.ensures.none) in
    let kept_g = (stays a b [] c.requires.sound step (Some c.args.g) c.requires.g).level in
    let kept_h = (stays a b [] c.requires.sound step (Some c.args.h) c.requires.h).level in
    let l = later a b P c.args.g c.args.h two step in
    let turn = ap level_size (both_turn (level_of b (Some c.args.g)) (level_of b (Some c.args.h)) l.fellows ∙ l.same) in
    omega (arith, turn, c.in-Err-hang_below.ensures.over e)

pub meet_items-requires-clause-g : goal.meet_items-requires-clause-g
meet_items-requires-clause-g c =
    let a = c.args.levels.now in
    let P = c.args.parts.now in
    let G = level_of a (Some c.args.g) in
    let H = level_of a (Some c.args.h) in
    let two : Two a P c.args.g c.args.h = record { sound = c.requires.sound; lent_g = c.requires.g; lent_h = c.requires.h; first = c.requires.first; second = c.requires.second } in
    let b = c.hang_below.new.levels in
    let step = (told_none _ c.in-Ok-None.field-0 c.in-Ok-None.field-0-is c.in-Ok-None.ensures.none) in
    let kept_g = (stays a b [] c.requires.sound step (Some c.args.g) c.requires.g).level in
    let kept_h = (stays a b [] c.requires.sound step (Some c.args.h) c.requires.h).level in
    let d = c.hang_below-in-Ok-None.new.levels in
    let both = idle_twice a b d step (told_none _ c.in-Ok-None-hang_below.field-0 c.in-Ok-None-hang_below.field-0-is c.in-Ok-None-hang_below.ensures.none) in
    let l = later a d P c.args.g c.args.h two both in
    l.lent_g

pub meet_items-requires-clause-h : goal.meet_items-requires-clause-h
meet_items-requires-clause-h c =
    let a = c.args.levels.now in
    let P = c.args.parts.now in
    let G = level_of a (Some c.args.g) in
    let H = level_of a (Some c.args.h) in
    let two : Two a P c.args.g c.args.h = record { sound = c.requires.sound; lent_g = c.requires.g; lent_h = c.requires.h; first = c.requires.first; second = c.requires.second } in
    let b = c.hang_below.new.levels in
    let step = (told_none _ c.in-Ok-None.field-0 c.in-Ok-None.field-0-is c.in-Ok-None.ensures.none) in
    let kept_g = (stays a b [] c.requires.sound step (Some c.args.g) c.requires.g).level in
    let kept_h = (stays a b [] c.requires.sound step (Some c.args.h) c.requires.h).level in
    let d = c.hang_below-in-Ok-None.new.levels in
    let both = idle_twice a b d step (told_none _ c.in-Ok-None-hang_below.field-0 c.in-Ok-None-hang_below.field-0-is c.in-Ok-None-hang_below.ensures.none) in
    let l = later a d P c.args.g c.args.h two both in
    l.lent_h

pub meet_items-requires-clause-fellows : goal.meet_items-requires-clause-fellows
meet_items-requires-clause-fellows c =
    let a = c.args.levels.now in
    let P = c.args.parts.now in
    let G = level_of a (Some c.args.g) in
    let H = level_of a (Some c.args.h) in
    let two : Two a P c.args.g c.args.h = record { sound = c.requires.sound; lent_g = c.requires.g; lent_h = c.requires.h; first = c.requires.first; second = c.requires.second } in
    let b = c.hang_below.new.levels in
    let step = (told_none _ c.in-Ok-None.field-0 c.in-Ok-None.field-0-is c.in-Ok-None.ensures.none) in
    let kept_g = (stays a b [] c.requires.sound step (Some c.args.g) c.requires.g).level in
    let kept_h = (stays a b [] c.requires.sound step (Some c.args.h) c.requires.h).level in
    let d = c.hang_below-in-Ok-None.new.levels in
    let both = idle_twice a b d step (told_none _ c.in-Ok-None-hang_below.field-0 c.in-Ok-None-hang_below.field-0-is c.in-Ok-None-hang_below.ensures.none) in
    let l = later a d P c.args.g c.args.h two both in
    l.fellows

pub returns-in-Ok-clause-level : goal.returns-in-Ok-clause-level
returns-in-Ok-clause-level c =
    let a = c.args.levels.now in
    let P = c.args.parts.now in
    let G = level_of a (Some c.args.g) in
    let H = level_of a (Some c.args.h) in
    let two : Two a P c.args.g c.args.h = record { sound = c.requires.sound; lent_g = c.requires.g; lent_h = c.requires.h; first = c.requires.first; second = c.requires.second } in
    let b = c.hang_below.new.levels in
    let step = (told_none _ c.in-Ok-None.field-0 c.in-Ok-None.field-0-is c.in-Ok-None.ensures.none) in
    let kept_g = (stays a b [] c.requires.sound step (Some c.args.g) c.requires.g).level in
    let kept_h = (stays a b [] c.requires.sound step (Some c.args.h) c.requires.h).level in
    let d = c.hang_below-in-Ok-None.new.levels in
    let both = idle_twice a b d step (told_none _ c.in-Ok-None-hang_below.field-0 c.in-Ok-None-hang_below.field-0-is c.in-Ok-None-hang_below.ensures.none) in
    let l = later a d P c.args.g c.args.h two both in
    c.in-Ok.ensures.level ∙ l.same

pub returns-in-Ok-clause-live : goal.returns-in-Ok-clause-live
returns-in-Ok-clause-live c before n number =
    let a = c.args.levels.now in
    let P = c.args.parts.now in
    let G = level_of a (Some c.args.g) in
    let H = level_of a (Some c.args.h) in
    let has_g = not_end G (lent_items a c.requires.sound (Some c.args.g) c.args.g refl c.requires.g) in
    let has_h = not_end H (lent_items a c.requires.sound (Some c.args.h) c.args.h refl c.requires.h) in
    absurd (short_not_before P G H c.requires.first c.requires.second has_g has_h (told_none _ c.in-Ok-None.field-0 c.in-Ok-None.field-0-is c.in-Ok-None.ensures.short) before)

pub returns-in-Ok-clause-items : goal.returns-in-Ok-clause-items
returns-in-Ok-clause-items c before n m k first second third =
    let a = c.args.levels.now in
    let P = c.args.parts.now in
    let G = level_of a (Some c.args.g) in
    let H = level_of a (Some c.args.h) in
    let has_g = not_end G (lent_items a c.requires.sound (Some c.args.g) c.args.g refl c.requires.g) in
    let has_h = not_end H (lent_items a c.requires.sound (Some c.args.h) c.args.h refl c.requires.h) in
    absurd (short_not_before P G H c.requires.first c.requires.second has_g has_h (told_none _ c.in-Ok-None.field-0 c.in-Ok-None.field-0-is c.in-Ok-None.ensures.short) before)

pub returns-in-Ok-clause-live_turned : goal.returns-in-Ok-clause-live_turned
returns-in-Ok-clause-live_turned c before n number =
    let a = c.args.levels.now in
    let P = c.args.parts.now in
    let G = level_of a (Some c.args.g) in
    let H = level_of a (Some c.args.h) in
    let has_g = not_end G (lent_items a c.requires.sound (Some c.args.g) c.args.g refl c.requires.g) in
    let has_h = not_end H (lent_items a c.requires.sound (Some c.args.h) c.args.h refl c.requires.h) in
    let b = c.hang_below.new.levels in
    let step = (told_none _ c.in-Ok-None.field-0 c.in-Ok-None.field-0-is c.in-Ok-None.ensures.none) in
    let kept_g = (stays a b [] c.requires.sound step (Some c.args.g) c.requires.g).level in
    let kept_h = (stays a b [] c.requires.sound step (Some c.args.h) c.requires.h).level in
    let long_g = ap (λ l. length (chain P l)) kept_g in
    let deep_h = ap depth_of kept_h in
    let short : length (chain P G) < depth_of H = omega (arith, long_g, deep_h, (told_none _ c.in-Ok-None-hang_below.field-0 c.in-Ok-None-hang_below.field-0-is c.in-Ok-None-hang_below.ensures.short)) in
    absurd (short_not_before P H G c.requires.second c.requires.first has_h has_g short before)

pub returns-in-Ok-clause-items_turned : goal.returns-in-Ok-clause-items_turned
returns-in-Ok-clause-items_turned c before n m k first second third =
    let a = c.args.levels.now in
    let P = c.args.parts.now in
    let G = level_of a (Some c.args.g) in
    let H = level_of a (Some c.args.h) in
    let has_g = not_end G (lent_items a c.requires.sound (Some c.args.g) c.args.g refl c.requires.g) in
    let has_h = not_end H (lent_items a c.requires.sound (Some c.args.h) c.args.h refl c.requires.h) in
    let b = c.hang_below.new.levels in
    let step = (told_none _ c.in-Ok-None.field-0 c.in-Ok-None.field-0-is c.in-Ok-None.ensures.none) in
    let kept_g = (stays a b [] c.requires.sound step (Some c.args.g) c.requires.g).level in
    let kept_h = (stays a b [] c.requires.sound step (Some c.args.h) c.requires.h).level in
    let long_g = ap (λ l. length (chain P l)) kept_g in
    let deep_h = ap depth_of kept_h in
    let short : length (chain P G) < depth_of H = omega (arith, long_g, deep_h, (told_none _ c.in-Ok-None-hang_below.field-0 c.in-Ok-None-hang_below.field-0-is c.in-Ok-None-hang_below.ensures.short)) in
    absurd (short_not_before P H G c.requires.second c.requires.first has_h has_g short before)

pub returns-in-Ok-clause-by_bits : goal.returns-in-Ok-clause-by_bits
returns-in-Ok-clause-by_bits c bare bits few =
    let a = c.args.levels.now in
    let P = c.args.parts.now in
    let G = level_of a (Some c.args.g) in
    let H = level_of a (Some c.args.h) in
    let b = c.hang_below.new.levels in
    let step = (told_none _ c.in-Ok-None.field-0 c.in-Ok-None.field-0-is c.in-Ok-None.ensures.none) in
    let kept_g = (stays a b [] c.requires.sound step (Some c.args.g) c.requires.g).level in
    let kept_h = (stays a b [] c.requires.sound step (Some c.args.h) c.requires.h).level in
    let long_g = ap (λ l. length (chain P l)) kept_g in
    let long_h = ap (λ l. length (chain P l)) kept_h in
    let deep_h = ap depth_of kept_h in
    let d = c.hang_below-in-Ok-None.new.levels in
    let none = ap length (bare_chain P H c.requires.second bare) in
    let first : b ≡ a = (told_none _ c.in-Ok-None.field-0 c.in-Ok-None.field-0-is c.in-Ok-None.ensures.same) (omega (arith, none)) in
    let second : d ≡ b = (told_none _ c.in-Ok-None-hang_below.field-0 c.in-Ok-None-hang_below.field-0-is c.in-Ok-None-hang_below.ensures.same) (omega (arith, long_g, long_h, deep_h, (told_none _ c.in-Ok-None-hang_below.field-0 c.in-Ok-None-hang_below.field-0-is c.in-Ok-None-hang_below.ensures.short), bare_depth H bare)) in
    let low = subst (λ (s : Slab Node). is_bare (level_of s (Some c.args.h)) ≡ true → (bits : ℕ) → length_of (level_of s (Some c.args.g)) < 2 ^ bits → slab_len c.meet_items.new.levels ≤ slab_len s + 16 * bits) (second ∙ first) c.in-Ok.ensures.by_bits bare bits few in
    omega (arith, low)

pub returns-in-Ok-clause-by_bits_turned : goal.returns-in-Ok-clause-by_bits_turned
returns-in-Ok-clause-by_bits_turned c bare bits few =
    let a = c.args.levels.now in
    let P = c.args.parts.now in
    let G = level_of a (Some c.args.g) in
    let H = level_of a (Some c.args.h) in
    let b = c.hang_below.new.levels in
    let step = (told_none _ c.in-Ok-None.field-0 c.in-Ok-None.field-0-is c.in-Ok-None.ensures.none) in
    let kept_g = (stays a b [] c.requires.sound step (Some c.args.g) c.requires.g).level in
    let kept_h = (stays a b [] c.requires.sound step (Some c.args.h) c.requires.h).level in
    let long_g = ap (λ l. length (chain P l)) kept_g in
    let long_h = ap (λ l. length (chain P l)) kept_h in
    let deep_h = ap depth_of kept_h in
    let d = c.hang_below-in-Ok-None.new.levels in
    let none = ap length (bare_chain P G c.requires.first bare) in
    let first : b ≡ a = (told_none _ c.in-Ok-None.field-0 c.in-Ok-None.field-0-is c.in-Ok-None.ensures.same) (omega (arith, (told_none _ c.in-Ok-None.field-0 c.in-Ok-None.field-0-is c.in-Ok-None.ensures.short), bare_depth G bare)) in
    let second : d ≡ b = (told_none _ c.in-Ok-None-hang_below.field-0 c.in-Ok-None-hang_below.field-0-is c.in-Ok-None-hang_below.ensures.same) (omega (arith, long_g, none)) in
    let low = subst (λ (s : Slab Node). is_bare (level_of s (Some c.args.g)) ≡ true → (bits : ℕ) → length_of (level_of s (Some c.args.h)) < 2 ^ bits → slab_len c.meet_items.new.levels ≤ slab_len s + 16 * bits) (second ∙ first) c.in-Ok.ensures.turned bare bits few in
    omega (arith, low)

pub returns-in-Err-meet_items-clause-over : goal.returns-in-Err-meet_items-clause-over
returns-in-Err-meet_items-clause-over c e =
    let a = c.args.levels.now in
    let P = c.args.parts.now in
    let G = level_of a (Some c.args.g) in
    let H = level_of a (Some c.args.h) in
    let two : Two a P c.args.g c.args.h = record { sound = c.requires.sound; lent_g = c.requires.g; lent_h = c.requires.h; first = c.requires.first; second = c.requires.second } in
    let b = c.hang_below.new.levels in
    let step = (told_none _ c.in-Ok-None.field-0 c.in-Ok-None.field-0-is c.in-Ok-None.ensures.none) in
    let kept_g = (stays a b [] c.requires.sound step (Some c.args.g) c.requires.g).level in
    let kept_h = (stays a b [] c.requires.sound step (Some c.args.h) c.requires.h).level in
    let d = c.hang_below-in-Ok-None.new.levels in
    let both = idle_twice a b d step (told_none _ c.in-Ok-None-hang_below.field-0 c.in-Ok-None-hang_below.field-0-is c.in-Ok-None-hang_below.ensures.none) in
    let l = later a d P c.args.g c.args.h two both in
    let is = ap level_size l.same in
    omega (arith, is, c.in-Err-meet_items.ensures.over e)
