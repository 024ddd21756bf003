use Rattle.std.proofs.Common.{◌≡◌, ◌-◌, Some, ◌∙◌, Bool, false, List, ◌∷◌, length, get_or, take, drop, arith, ap, ap₂, sym, subst}
use Rattle.rx_tree.specs.Tree.{Level, level_size}
use Rattle.rx_tree.specs.Join.{length_of}
use Rattle.rx_tree.specs.Canonical.{ArePlaced}
use Rattle.rx_tree.specs.Cuts.{before, after}
use Rattle.rx_tree.specs.Fill.{MayFill, filled}
use Rattle.rx_tree.specs.Union.{either}
use Rattle.rx_tree.proofs.Pieces.{before_size, after_size}
use Rattle.rx_tree.proofs.Unions.{either_turn}
use Rattle.rx_level.specs.Step.{level_of}
use Rattle.rx_cut.specs.Clip.{clipped}
use Rattle.rx_cut.proofs.Staying.{stays, stays_two}
use Rattle.rx_limit.proofs.Glues.{over_later}
use Rattle.rx_or.specs.Below.{union_below, IsUnionBelow}
use Rattle.rx_or.proofs.Opened.{none_level}
use Rattle.rx_or.proofs.Laid.{parts_order, below_first, below_second, below_some, first_and_rest, first_and_drop, all_below, some_below}
use Rattle.rx_or.proofs.United.{smaller, apart, parts_within, ahead_later, behind_later, placed_later, united, fills, fills_within, may_later, filled_later, filled_up, bare_alone, item_fits, item_filled, ahead_placed, behind_placed, clipped_size, below_size, none_first, same_either, given_lent, cut_either, cut_filled}
use Rattle.rx_pairs.proofs.Remembered.{freed_one, freed_two, three_spent, ready_after, keeps_given, keeps_spent, known_lent}
use Rattle.rx_or.proofs.UnionPairs.{cut_ready, cut_keeps, three_adds, pair_turned, known_level, forgotten, new_pair}
use Rattle.rx_or.proofs.uniting.+unite.Goals.{unite_below-then-count-eq0-via-then-count-eq0, unite_below-then-count-eq0-via-else-count-eq0+then-count-eq0-2}
use Rattle.rx_or.proofs.uniting.+unite.Goals as goal

pub fill-item_over-requires : goal.fill-item_over-requires
fill-item_over-requires t c =
    let o = c.in-Some.seen in
    let a = c.args.levels.now in
    let less = smaller _ _ _ _ o.span.now c.in-Some.ensures.level in
    let q = fills c.args.parts.now c.args.lo.now c.args.hi.now (level_of a c.args.child) (level_of a c.args.within) (level_of a o.left) o.span.now c.in-Ok-copy.span (level_of a o.child) (level_of a o.right) c.in-Some.ensures.level c.in-Ok-copy.ensures c.requires.fits in
    (omega (arith, less.child, c.decreases), (c.requires.ready, (c.requires.child, (c.in-Some.ensures.child, (q.first, q.second)))))

pub fill-returns-in-Err-item_over-clause-over : goal.fill-returns-in-Err-item_over-clause-over
fill-returns-in-Err-item_over-clause-over t c e =
    let o = c.in-Some.seen in
    let a = c.args.levels.now in
    let q = fills c.args.parts.now c.args.lo.now c.args.hi.now (level_of a c.args.child) (level_of a c.args.within) (level_of a o.left) o.span.now c.in-Ok-copy.span (level_of a o.child) (level_of a o.right) c.in-Some.ensures.level c.in-Ok-copy.ensures c.requires.fits in
    let w = fills_within c.args.parts.now c.args.lo.now c.args.hi.now (level_of a c.args.child) (level_of a o.left) c.in-Ok-copy.span (level_of a o.child) (level_of a o.right) (level_of a c.args.within) q in
    omega (arith, w.second, c.in-Err-item_over.ensures.over e)

pub fill-fill-requires : goal.fill-fill-requires
fill-fill-requires t c =
    let o = c.in-Some.seen in
    let a = c.args.levels.now in
    let one = c.in-Ok-item_over.ensures.ok in
    let less = smaller _ _ _ _ o.span.now c.in-Some.ensures.level in
    let q = fills c.args.parts.now c.args.lo.now c.args.hi.now (level_of a c.args.child) (level_of a c.args.within) (level_of a o.left) o.span.now c.in-Ok-copy.span (level_of a o.child) (level_of a o.right) c.in-Some.ensures.level c.in-Ok-copy.ensures c.requires.fits in
    let l1 = stays a _ _ c.requires.ready.owns.sound one.adds.step o.left c.in-Some.ensures.left in
    let c1 = stays a _ _ c.requires.ready.owns.sound one.adds.step c.args.child c.requires.child in
    (omega (arith, less.left, l1.size_same, c1.size_same, c.decreases), (ready_after _ a _ _ _ _ c.requires.ready one, (c1.lent, (l1.lent, may_later a _ c.args.parts.now c.args.lo.now c.in-Ok-copy.span.lo c.args.child o.left c1 l1 q.front))))

pub fill-returns-in-Err-fill-clause-over : goal.fill-returns-in-Err-fill-clause-over
fill-returns-in-Err-fill-clause-over t c e =
    let o = c.in-Some.seen in
    let a = c.args.levels.now in
    let one = c.in-Ok-item_over.ensures.ok in
    let q = fills c.args.parts.now c.args.lo.now c.args.hi.now (level_of a c.args.child) (level_of a c.args.within) (level_of a o.left) o.span.now c.in-Ok-copy.span (level_of a o.child) (level_of a o.right) c.in-Some.ensures.level c.in-Ok-copy.ensures c.requires.fits in
    let w = fills_within c.args.parts.now c.args.lo.now c.args.hi.now (level_of a c.args.child) (level_of a o.left) c.in-Ok-copy.span (level_of a o.child) (level_of a o.right) (level_of a c.args.within) q in
    let l1 = stays a _ _ c.requires.ready.owns.sound one.adds.step o.left c.in-Some.ensures.left in
    let c1 = stays a _ _ c.requires.ready.owns.sound one.adds.step c.args.child c.requires.child in
    over_later c.args.limit _ _ _ (c.in-Err-fill.ensures.over e) (filled_later a _ c.args.parts.now c.args.lo.now c.in-Ok-copy.span.lo c.args.child o.left c1 l1) w.first

pub fill-fill-requires-2 : goal.fill-fill-requires-2
fill-fill-requires-2 t c =
    let o = c.in-Some.seen in
    let a = c.args.levels.now in
    let one = c.in-Ok-item_over.ensures.ok in
    let two = c.in-Ok-fill.ensures.ok in
    let less = smaller _ _ _ _ o.span.now c.in-Some.ensures.level in
    let q = fills c.args.parts.now c.args.lo.now c.args.hi.now (level_of a c.args.child) (level_of a c.args.within) (level_of a o.left) o.span.now c.in-Ok-copy.span (level_of a o.child) (level_of a o.right) c.in-Some.ensures.level c.in-Ok-copy.ensures c.requires.fits in
    let r2 = stays_two a _ _ _ _ c.requires.ready.owns.sound one.adds.step two.adds.step o.right c.in-Some.ensures.right in
    let c2 = stays_two a _ _ _ _ c.requires.ready.owns.sound one.adds.step two.adds.step c.args.child c.requires.child in
    (omega (arith, less.right, r2.size_same, c2.size_same, c.decreases), (ready_after _ _ _ _ _ _ (ready_after _ a _ _ _ _ c.requires.ready one) two, (c2.lent, (r2.lent, may_later a _ c.args.parts.now c.in-Ok-copy.span.hi c.args.hi.now c.args.child o.right c2 r2 q.back))))

pub fill-returns-in-Err-fill-2-clause-over : goal.fill-returns-in-Err-fill-2-clause-over
fill-returns-in-Err-fill-2-clause-over t c e =
    let o = c.in-Some.seen in
    let a = c.args.levels.now in
    let one = c.in-Ok-item_over.ensures.ok in
    let two = c.in-Ok-fill.ensures.ok in
    let q = fills c.args.parts.now c.args.lo.now c.args.hi.now (level_of a c.args.child) (level_of a c.args.within) (level_of a o.left) o.span.now c.in-Ok-copy.span (level_of a o.child) (level_of a o.right) c.in-Some.ensures.level c.in-Ok-copy.ensures c.requires.fits in
    let w = fills_within c.args.parts.now c.args.lo.now c.args.hi.now (level_of a c.args.child) (level_of a o.left) c.in-Ok-copy.span (level_of a o.child) (level_of a o.right) (level_of a c.args.within) q in
    let r2 = stays_two a _ _ _ _ c.requires.ready.owns.sound one.adds.step two.adds.step o.right c.in-Some.ensures.right in
    let c2 = stays_two a _ _ _ _ c.requires.ready.owns.sound one.adds.step two.adds.step c.args.child c.requires.child in
    over_later c.args.limit _ _ _ (c.in-Err-fill-2.ensures.over e) (filled_later a _ c.args.parts.now c.in-Ok-copy.span.hi c.args.hi.now c.args.child o.right c2 r2) w.third

pub fill-glue_three-requires-clause-left : goal.fill-glue_three-requires-clause-left
fill-glue_three-requires-clause-left t c =
    let o = c.in-Some.seen in
    let a = c.args.levels.now in
    (filled_up a c.item_over.new.levels c.fill.new.levels c.fill-2.new.levels c.args.parts.now c.args.within c.args.child o.child o.left o.right c.in-Ok-item_over.middle c.in-Ok-fill.front c.in-Ok-fill-2.back _ _ _ c.args.lo.now c.args.hi.now c.in-Ok-copy.span o.span.now
    c.requires.ready.owns.sound c.requires.child c.in-Some.ensures.left c.in-Some.ensures.right c.in-Some.ensures.level c.in-Ok-copy.ensures c.requires.fits
    c.in-Ok-item_over.ensures.ok.adds.step c.in-Ok-item_over.ensures.level c.in-Ok-fill.ensures.ok.adds.step c.in-Ok-fill.ensures.level c.in-Ok-fill-2.ensures.ok.adds.step c.in-Ok-fill-2.ensures.level).front_apart

pub fill-returns-in-Ok-glue_three-clause-level : goal.fill-returns-in-Ok-glue_three-clause-level
fill-returns-in-Ok-glue_three-clause-level t c =
    let o = c.in-Some.seen in
    let a = c.args.levels.now in
    c.in-Ok-glue_three.ensures.level
    ∙ (filled_up a c.item_over.new.levels c.fill.new.levels c.fill-2.new.levels c.args.parts.now c.args.within c.args.child o.child o.left o.right c.in-Ok-item_over.middle c.in-Ok-fill.front c.in-Ok-fill-2.back _ _ _ c.args.lo.now c.args.hi.now c.in-Ok-copy.span o.span.now
    c.requires.ready.owns.sound c.requires.child c.in-Some.ensures.left c.in-Some.ensures.right c.in-Some.ensures.level c.in-Ok-copy.ensures c.requires.fits
    c.in-Ok-item_over.ensures.ok.adds.step c.in-Ok-item_over.ensures.level c.in-Ok-fill.ensures.ok.adds.step c.in-Ok-fill.ensures.level c.in-Ok-fill-2.ensures.ok.adds.step c.in-Ok-fill-2.ensures.level).is

pub fill-returns-clause-over : goal.fill-returns-clause-over
fill-returns-clause-over t c e =
    let o = c.in-Some.seen in
    let a = c.args.levels.now in
    let is = ap level_size (filled_up a c.item_over.new.levels c.fill.new.levels c.fill-2.new.levels c.args.parts.now c.args.within c.args.child o.child o.left o.right c.in-Ok-item_over.middle c.in-Ok-fill.front c.in-Ok-fill-2.back _ _ _ c.args.lo.now c.args.hi.now c.in-Ok-copy.span o.span.now
    c.requires.ready.owns.sound c.requires.child c.in-Some.ensures.left c.in-Some.ensures.right c.in-Some.ensures.level c.in-Ok-copy.ensures c.requires.fits
    c.in-Ok-item_over.ensures.ok.adds.step c.in-Ok-item_over.ensures.level c.in-Ok-fill.ensures.ok.adds.step c.in-Ok-fill.ensures.level c.in-Ok-fill-2.ensures.ok.adds.step c.in-Ok-fill-2.ensures.level).is in
    omega (arith, is, c.in-Err-glue_three.ensures.over e)

pub over_item-returns-in-Ok-clause-level : goal.over_item-returns-in-Ok-clause-level
over_item-returns-in-Ok-clause-level t c =
    c.in-Ok.ensures.level ∙ bare_alone c.args.parts.now c.args.span.now (level_of c.args.levels.now c.args.child) (level_of c.args.levels.now c.args.h) (none_level c.args.levels.now c.args.child c.in_default.is) c.requires.alone c.requires.level

pub over_item-clip-requires-clause-order : goal.over_item-clip-requires-clause-order
over_item-clip-requires-clause-order t c =
    parts_order c.args.parts.now (level_of c.args.levels.now c.args.h) c.requires.level

pub over_item-fill-requires : goal.over_item-fill-requires
over_item-fill-requires t c =
    let a = c.args.levels.now in
    let one = c.in-Ok-clip.ensures.ok in
    let c1 = stays a _ _ c.requires.ready.owns.sound one c.args.child c.requires.child in (
      omega (arith, c1.size_same, ap level_size c.in-Ok-clip.ensures.level, clipped_size c.args.span.now (level_of a c.args.h), c.decreases),
      (
        cut_ready _ a _ _ _ c.requires.ready one,
        (
          c1.lent,
          (
            given_lent a _ c.in-Ok-clip.within one,
            subst (λ (x : Level). MayFill c.args.parts.now c.args.span.now.lo c.args.span.now.hi (level_of c.clip.new.levels c.args.child) x) (sym c.in-Ok-clip.ensures.level)
                (subst (λ (x : Level). MayFill c.args.parts.now c.args.span.now.lo c.args.span.now.hi x (clipped c.args.span.now (level_of a c.args.h))) (sym c1.level) (item_fits c.args.parts.now c.args.span.now (level_of a c.args.child) (level_of a c.args.h) c.requires.alone c.requires.level)),
          ),
        ),
      ),
    )

pub over_item-returns-in-Ok-fill-clause-level : goal.over_item-returns-in-Ok-fill-clause-level
over_item-returns-in-Ok-fill-clause-level t c =
    cut_filled c.args.levels.now c.clip.new.levels c.fill.new.levels c.free.new.self c.args.parts.now c.args.child c.in-Ok-clip.within c.in-Ok-fill.whole _ c.args.span.now (level_of c.args.levels.now c.args.h) c.requires.ready.owns.sound c.requires.child c.requires.alone
    c.in-Ok-clip.ensures.ok c.in-Ok-clip.ensures.level c.in-Ok-fill.ensures.ok.adds.step c.in-Ok-fill.ensures.level c.free.ensures.step

pub over_item-returns-in-Err-fill-clause-over : goal.over_item-returns-in-Err-fill-clause-over
over_item-returns-in-Err-fill-clause-over t c e =
    let a = c.args.levels.now in
    let one = c.in-Ok-clip.ensures.ok in
    let c1 = stays a _ _ c.requires.ready.owns.sound one c.args.child c.requires.child in
    over_later c.args.limit _ _ _ (c.in-Err-fill.ensures.over e) (ap₂ (filled c.args.parts.now c.args.span.now.lo c.args.span.now.hi) c1.level c.in-Ok-clip.ensures.level ∙ item_filled c.args.parts.now c.args.span.now (level_of a c.args.child) (level_of a c.args.h) c.requires.alone) (omega arith)

pub unite_level-returns-in-Ok-clause-level : goal.unite_level-returns-in-Ok-clause-level
unite_level-returns-in-Ok-clause-level t c =
    c.in-Ok.ensures.level ∙ same_either c.args.levels.now c.args.parts.now c.args.g c.args.h (c.is_same_link.ensures c.if-is_same_link.true) c.requires.first

pub unite_level-returns-in-Err-clause-over : goal.unite_level-returns-in-Err-clause-over
unite_level-returns-in-Err-clause-over t c e =
    over_later c.args.limit _ _ _ (c.in-Err.ensures.over e) (same_either c.args.levels.now c.args.parts.now c.args.g c.args.h (c.is_same_link.ensures c.if-is_same_link.true) c.requires.first) (omega arith)

pub unite_level-returns-in-Ok-walk-clause-level : goal.unite_level-returns-in-Ok-walk-clause-level
unite_level-returns-in-Ok-walk-clause-level t c =
    c.in-Ok-walk.ensures.level ∙ either_turn c.args.parts.now (level_of c.args.levels.now c.args.h) (level_of c.args.levels.now c.args.g) c.requires.second c.requires.first

pub unite_level-returns-in-Err-walk-clause-over : goal.unite_level-returns-in-Err-walk-clause-over
unite_level-returns-in-Err-walk-clause-over t c e =
    over_later c.args.limit _ _ _ (c.in-Err-walk.ensures.over e) (either_turn c.args.parts.now (level_of c.args.levels.now c.args.h) (level_of c.args.levels.now c.args.g) c.requires.second c.requires.first) (omega arith)

pub unite_ahead-ahead-requires-clause-order : goal.unite_ahead-ahead-requires-clause-order
unite_ahead-ahead-requires-clause-order t c =
    parts_order c.args.parts.now (level_of c.args.levels.now c.args.h) c.requires.second

pub unite_ahead-unite_level-requires : goal.unite_ahead-unite_level-requires
unite_ahead-unite_level-requires t c =
    let a = c.args.levels.now in
    let one = c.in-Ok.ensures.ok in
    let s1 = stays a _ _ c.requires.ready.owns.sound one c.args.side c.requires.side in (
      omega (arith, s1.size_same, ap level_size c.in-Ok.ensures.level, before_size c.args.edge.now (level_of a c.args.h), c.decreases),
      (cut_ready _ a _ _ _ c.requires.ready one, (s1.lent, (given_lent a _ c.in-Ok.cut one, (placed_later a _ c.args.parts.now c.args.side s1 c.requires.first, subst (ArePlaced c.args.parts.now) (sym c.in-Ok.ensures.level) (ahead_placed c.args.parts.now c.args.edge.now (level_of a c.args.h) c.requires.second))))),
    )

pub unite_ahead-returns-in-Ok-unite_level-clause-level : goal.unite_ahead-returns-in-Ok-unite_level-clause-level
unite_ahead-returns-in-Ok-unite_level-clause-level t c =
    cut_either c.args.levels.now c.ahead.new.levels c.unite_level.new.levels c.free.new.self c.args.parts.now c.args.side c.in-Ok.cut c.in-Ok-unite_level.whole _ (before c.args.edge.now (level_of c.args.levels.now c.args.h)) c.requires.ready.owns.sound c.requires.side
    c.in-Ok.ensures.ok c.in-Ok.ensures.level c.in-Ok-unite_level.ensures.ok.adds.step c.in-Ok-unite_level.ensures.level c.free.ensures.step

pub unite_ahead-returns-in-Err-clause-over : goal.unite_ahead-returns-in-Err-clause-over
unite_ahead-returns-in-Err-clause-over t c e =
    let a = c.args.levels.now in
    let one = c.in-Ok.ensures.ok in
    let s1 = stays a _ _ c.requires.ready.owns.sound one c.args.side c.requires.side in
    over_later c.args.limit _ _ _ (c.in-Err.ensures.over e) (ap₂ (either c.args.parts.now) s1.level c.in-Ok.ensures.level) (omega arith)

pub unite_behind-behind-requires-clause-order : goal.unite_behind-behind-requires-clause-order
unite_behind-behind-requires-clause-order t c =
    parts_order c.args.parts.now (level_of c.args.levels.now c.args.h) c.requires.second

pub unite_behind-unite_level-requires : goal.unite_behind-unite_level-requires
unite_behind-unite_level-requires t c =
    let a = c.args.levels.now in
    let one = c.in-Ok.ensures.ok in
    let s1 = stays a _ _ c.requires.ready.owns.sound one c.args.side c.requires.side in (
      omega (arith, s1.size_same, ap level_size c.in-Ok.ensures.level, after_size c.args.edge.now (level_of a c.args.h), c.decreases),
      (cut_ready _ a _ _ _ c.requires.ready one, (s1.lent, (given_lent a _ c.in-Ok.cut one, (placed_later a _ c.args.parts.now c.args.side s1 c.requires.first, subst (ArePlaced c.args.parts.now) (sym c.in-Ok.ensures.level) (behind_placed c.args.parts.now c.args.edge.now (level_of a c.args.h) c.requires.second))))),
    )

pub unite_behind-returns-in-Ok-unite_level-clause-level : goal.unite_behind-returns-in-Ok-unite_level-clause-level
unite_behind-returns-in-Ok-unite_level-clause-level t c =
    cut_either c.args.levels.now c.behind.new.levels c.unite_level.new.levels c.free.new.self c.args.parts.now c.args.side c.in-Ok.cut c.in-Ok-unite_level.whole _ (after c.args.edge.now (level_of c.args.levels.now c.args.h)) c.requires.ready.owns.sound c.requires.side
    c.in-Ok.ensures.ok c.in-Ok.ensures.level c.in-Ok-unite_level.ensures.ok.adds.step c.in-Ok-unite_level.ensures.level c.free.ensures.step

pub unite_behind-returns-in-Err-clause-over : goal.unite_behind-returns-in-Err-clause-over
unite_behind-returns-in-Err-clause-over t c e =
    let a = c.args.levels.now in
    let one = c.in-Ok.ensures.ok in
    let s1 = stays a _ _ c.requires.ready.owns.sound one c.args.side c.requires.side in
    over_later c.args.limit _ _ _ (c.in-Err.ensures.over e) (ap₂ (either c.args.parts.now) s1.level c.in-Ok.ensures.level) (omega arith)

pub unite_below-returns-then-count-eq0-clause-level : goal.unite_below-returns-then-count-eq0-clause-level
unite_below-returns-then-count-eq0-clause-level t c =
    elim c.then-count-eq0.branch [
      | unite_below-then-count-eq0-via-then-count-eq0 w ↦ below_first c.args.parts.now (level_of c.args.levels.now c.args.c) (level_of c.args.levels.now c.args.d) (omega (arith, w.if-count-eq0.true, c.count.ensures))
      | unite_below-then-count-eq0-via-else-count-eq0+then-count-eq0-2 w ↦ below_second c.args.parts.now (level_of c.args.levels.now c.args.c) (level_of c.args.levels.now c.args.d) (omega (arith, w.if-count-eq0-2.true, w.count-else-count-eq0.ensures))
    ]

pub unite_below-returns-in-Err-clause-over : goal.unite_below-returns-in-Err-clause-over
unite_below-returns-in-Err-clause-over t c e =
    let below : List Bool = take (length c.args.parts.now - 1) (drop 1 c.args.parts.now) in
    let is_parts : c.args.parts.now ≡ get_or c.args.parts.now 0 false ∷ below = first_and_rest c.args.parts.now c.in-len1-up.len_at_least in
    let is_below : below ≡ get_or below 0 false ∷ drop 1 below = first_and_drop below c.in-len1-up-below.len_at_least in
    let some : length_of (level_of c.args.levels.now c.args.c) ≡ 0 → ⊥ = (λ none. omega (arith, c.if-count-eq0.false, c.count.ensures, none)) in
    let other : length_of (level_of c.args.levels.now c.args.d) ≡ 0 → ⊥ = (λ none. omega (arith, c.if-count-eq0-2.false, c.count-else-count-eq0.ensures, none)) in
    omega (arith, c.in-Err.ensures.over e, below_size c.args.parts.now below (drop 1 below) (get_or c.args.parts.now 0 false) (get_or below 0 false) (level_of c.args.levels.now c.args.c) (level_of c.args.levels.now c.args.d) is_parts is_below some other)

pub unite_below-is_all-requires : goal.unite_below-is_all-requires
unite_below-is_all-requires t c =
    given_lent c.args.levels.now c.unite.new.levels c.in-Ok.whole c.in-Ok.ensures.ok

pub unite_below-returns-then-is_all-clause-level : goal.unite_below-returns-then-is_all-clause-level
unite_below-returns-then-is_all-clause-level t c =
    let below : List Bool = take (length c.args.parts.now - 1) (drop 1 c.args.parts.now) in
    let is_parts : c.args.parts.now ≡ get_or c.args.parts.now 0 false ∷ below = first_and_rest c.args.parts.now c.in-len1-up.len_at_least in
    let is_below : below ≡ get_or below 0 false ∷ drop 1 below = first_and_drop below c.in-len1-up-below.len_at_least in
    let some : length_of (level_of c.args.levels.now c.args.c) ≡ 0 → ⊥ = (λ none. omega (arith, c.if-count-eq0.false, c.count.ensures, none)) in
    let other : length_of (level_of c.args.levels.now c.args.d) ≡ 0 → ⊥ = (λ none. omega (arith, c.if-count-eq0-2.false, c.count-else-count-eq0.ensures, none)) in
    let both = below_some c.args.parts.now below (drop 1 below) (get_or c.args.parts.now 0 false) (get_or below 0 false) (level_of c.args.levels.now c.args.c) (level_of c.args.levels.now c.args.d) (level_of c.unite.new.levels c.in-Ok.whole) is_parts is_below some other c.in-Ok.ensures.level in
    all_below (get_or below 0 false) (level_of c.unite.new.levels c.in-Ok.whole) (union_below c.args.parts.now (level_of c.args.levels.now c.args.c) (level_of c.args.levels.now c.args.d)) c.is_all.result c.is_all.ensures c.if-is_all.true both

pub unite_below-returns-clause-level : goal.unite_below-returns-clause-level
unite_below-returns-clause-level t c =
    let below : List Bool = take (length c.args.parts.now - 1) (drop 1 c.args.parts.now) in
    let is_parts : c.args.parts.now ≡ get_or c.args.parts.now 0 false ∷ below = first_and_rest c.args.parts.now c.in-len1-up.len_at_least in
    let is_below : below ≡ get_or below 0 false ∷ drop 1 below = first_and_drop below c.in-len1-up-below.len_at_least in
    let some : length_of (level_of c.args.levels.now c.args.c) ≡ 0 → ⊥ = (λ none. omega (arith, c.if-count-eq0.false, c.count.ensures, none)) in
    let other : length_of (level_of c.args.levels.now c.args.d) ≡ 0 → ⊥ = (λ none. omega (arith, c.if-count-eq0-2.false, c.count-else-count-eq0.ensures, none)) in
    let both = below_some c.args.parts.now below (drop 1 below) (get_or c.args.parts.now 0 false) (get_or below 0 false) (level_of c.args.levels.now c.args.c) (level_of c.args.levels.now c.args.d) (level_of c.unite.new.levels c.in-Ok.whole) is_parts is_below some other c.in-Ok.ensures.level in
    some_below (get_or below 0 false) (level_of c.unite.new.levels c.in-Ok.whole) (union_below c.args.parts.now (level_of c.args.levels.now c.args.c) (level_of c.args.levels.now c.args.d)) c.is_all.result c.is_all.ensures c.if-is_all.false both

pub walk-returns-in-Ok-clause-level : goal.walk-returns-in-Ok-clause-level
walk-returns-in-Ok-clause-level t c =
    c.in-Ok.ensures.level ∙ none_first c.args.levels.now c.args.parts.now c.args.g c.args.h c.in_default.ensures.none c.requires.second

pub walk-returns-in-Err-clause-over : goal.walk-returns-in-Err-clause-over
walk-returns-in-Err-clause-over t c e =
    over_later c.args.limit _ _ _ (c.in-Err.ensures.over e) (none_first c.args.levels.now c.args.parts.now c.args.g c.args.h c.in_default.ensures.none c.requires.second) (omega arith)

pub walk-over_item-requires : goal.walk-over_item-requires
walk-over_item-requires t c =
    let o = c.in-Some.seen in
    let less = smaller _ _ _ _ o.span.now c.in-Some.ensures.level in
    let p = apart c.args.parts.now (level_of c.args.levels.now c.args.g) (level_of c.args.levels.now o.left) o.span.now c.in-Ok-copy.span (level_of c.args.levels.now o.child) (level_of c.args.levels.now o.right) c.in-Some.ensures.level c.in-Ok-copy.ensures c.requires.first in
    (omega (arith, less.child, c.decreases), (c.requires.ready, (c.in-Some.ensures.child, (c.requires.h, (p.alone, c.requires.second)))))

pub walk-returns-in-Err-over_item-clause-over : goal.walk-returns-in-Err-over_item-clause-over
walk-returns-in-Err-over_item-clause-over t c e =
    let o = c.in-Some.seen in
    let a = c.args.levels.now in
    let w = parts_within c.args.parts.now (level_of a c.args.g) (level_of a o.left) o.span.now c.in-Ok-copy.span (level_of a o.child) (level_of a o.right) (level_of a c.args.h) c.in-Some.ensures.level c.in-Ok-copy.ensures c.requires.first c.requires.second in
    omega (arith, w.second, c.in-Err-over_item.ensures.over e)

pub walk-unite_ahead-requires : goal.walk-unite_ahead-requires
walk-unite_ahead-requires t c =
    let o = c.in-Some.seen in
    let a = c.args.levels.now in
    let one = c.in-Ok-over_item.ensures.ok in
    let less = smaller _ _ _ _ o.span.now c.in-Some.ensures.level in
    let p = apart c.args.parts.now (level_of c.args.levels.now c.args.g) (level_of c.args.levels.now o.left) o.span.now c.in-Ok-copy.span (level_of c.args.levels.now o.child) (level_of c.args.levels.now o.right) c.in-Some.ensures.level c.in-Ok-copy.ensures c.requires.first in
    let l1 = stays a _ _ c.requires.ready.owns.sound one.adds.step o.left c.in-Some.ensures.left in
    let h1 = stays a _ _ c.requires.ready.owns.sound one.adds.step c.args.h c.requires.h in
    (omega (arith, less.left, l1.size_same, h1.size_same, c.decreases), (ready_after _ a _ _ _ _ c.requires.ready one, (l1.lent, (h1.lent, (placed_later a _ c.args.parts.now o.left l1 p.left, placed_later a _ c.args.parts.now c.args.h h1 c.requires.second)))))

pub walk-returns-in-Err-unite_ahead-clause-over : goal.walk-returns-in-Err-unite_ahead-clause-over
walk-returns-in-Err-unite_ahead-clause-over t c e =
    let o = c.in-Some.seen in
    let a = c.args.levels.now in
    let one = c.in-Ok-over_item.ensures.ok in
    let w = parts_within c.args.parts.now (level_of a c.args.g) (level_of a o.left) o.span.now c.in-Ok-copy.span (level_of a o.child) (level_of a o.right) (level_of a c.args.h) c.in-Some.ensures.level c.in-Ok-copy.ensures c.requires.first c.requires.second in
    let l1 = stays a _ _ c.requires.ready.owns.sound one.adds.step o.left c.in-Some.ensures.left in
    let h1 = stays a _ _ c.requires.ready.owns.sound one.adds.step c.args.h c.requires.h in
    over_later c.args.limit _ _ _ (c.in-Err-unite_ahead.ensures.over e) (ahead_later a _ c.args.parts.now o.left c.args.h c.in-Ok-copy.span.lo l1 h1) w.first

pub walk-unite_behind-requires : goal.walk-unite_behind-requires
walk-unite_behind-requires t c =
    let o = c.in-Some.seen in
    let a = c.args.levels.now in
    let one = c.in-Ok-over_item.ensures.ok in
    let two = c.in-Ok-unite_ahead.ensures.ok in
    let less = smaller _ _ _ _ o.span.now c.in-Some.ensures.level in
    let p = apart c.args.parts.now (level_of c.args.levels.now c.args.g) (level_of c.args.levels.now o.left) o.span.now c.in-Ok-copy.span (level_of c.args.levels.now o.child) (level_of c.args.levels.now o.right) c.in-Some.ensures.level c.in-Ok-copy.ensures c.requires.first in
    let r2 = stays_two a _ _ _ _ c.requires.ready.owns.sound one.adds.step two.adds.step o.right c.in-Some.ensures.right in
    let h2 = stays_two a _ _ _ _ c.requires.ready.owns.sound one.adds.step two.adds.step c.args.h c.requires.h in
    (omega (arith, less.right, r2.size_same, h2.size_same, c.decreases), (ready_after _ _ _ _ _ _ (ready_after _ a _ _ _ _ c.requires.ready one) two, (r2.lent, (h2.lent, (placed_later a _ c.args.parts.now o.right r2 p.right, placed_later a _ c.args.parts.now c.args.h h2 c.requires.second)))))

pub walk-returns-in-Err-unite_behind-clause-over : goal.walk-returns-in-Err-unite_behind-clause-over
walk-returns-in-Err-unite_behind-clause-over t c e =
    let o = c.in-Some.seen in
    let a = c.args.levels.now in
    let one = c.in-Ok-over_item.ensures.ok in
    let two = c.in-Ok-unite_ahead.ensures.ok in
    let w = parts_within c.args.parts.now (level_of a c.args.g) (level_of a o.left) o.span.now c.in-Ok-copy.span (level_of a o.child) (level_of a o.right) (level_of a c.args.h) c.in-Some.ensures.level c.in-Ok-copy.ensures c.requires.first c.requires.second in
    let r2 = stays_two a _ _ _ _ c.requires.ready.owns.sound one.adds.step two.adds.step o.right c.in-Some.ensures.right in
    let h2 = stays_two a _ _ _ _ c.requires.ready.owns.sound one.adds.step two.adds.step c.args.h c.requires.h in
    over_later c.args.limit _ _ _ (c.in-Err-unite_behind.ensures.over e) (behind_later a _ c.args.parts.now o.right c.args.h c.in-Ok-copy.span.hi r2 h2) w.third

pub walk-glue_three-requires-clause-left : goal.walk-glue_three-requires-clause-left
walk-glue_three-requires-clause-left t c =
    let o = c.in-Some.seen in
    let a = c.args.levels.now in
    (united a c.over_item.new.levels c.unite_ahead.new.levels c.unite_behind.new.levels c.args.parts.now c.args.g c.args.h o.child o.left o.right c.in-Ok-over_item.middle c.in-Ok-unite_ahead.front c.in-Ok-unite_behind.back _ _ _ c.in-Ok-copy.span o.span.now
    c.requires.ready.owns.sound c.requires.h c.in-Some.ensures.left c.in-Some.ensures.right c.in-Some.ensures.level c.in-Ok-copy.ensures c.requires.first c.requires.second
    c.in-Ok-over_item.ensures.ok.adds.step c.in-Ok-over_item.ensures.level c.in-Ok-unite_ahead.ensures.ok.adds.step c.in-Ok-unite_ahead.ensures.level c.in-Ok-unite_behind.ensures.ok.adds.step c.in-Ok-unite_behind.ensures.level).front_apart

pub walk-glue_three-requires-clause-middle : goal.walk-glue_three-requires-clause-middle
walk-glue_three-requires-clause-middle t c =
    let o = c.in-Some.seen in
    let a = c.args.levels.now in
    (united a c.over_item.new.levels c.unite_ahead.new.levels c.unite_behind.new.levels c.args.parts.now c.args.g c.args.h o.child o.left o.right c.in-Ok-over_item.middle c.in-Ok-unite_ahead.front c.in-Ok-unite_behind.back _ _ _ c.in-Ok-copy.span o.span.now
    c.requires.ready.owns.sound c.requires.h c.in-Some.ensures.left c.in-Some.ensures.right c.in-Some.ensures.level c.in-Ok-copy.ensures c.requires.first c.requires.second
    c.in-Ok-over_item.ensures.ok.adds.step c.in-Ok-over_item.ensures.level c.in-Ok-unite_ahead.ensures.ok.adds.step c.in-Ok-unite_ahead.ensures.level c.in-Ok-unite_behind.ensures.ok.adds.step c.in-Ok-unite_behind.ensures.level).middle_apart

pub walk-returns-in-Ok-glue_three-clause-level : goal.walk-returns-in-Ok-glue_three-clause-level
walk-returns-in-Ok-glue_three-clause-level t c =
    let o = c.in-Some.seen in
    let a = c.args.levels.now in
    c.in-Ok-glue_three.ensures.level
    ∙ (united a c.over_item.new.levels c.unite_ahead.new.levels c.unite_behind.new.levels c.args.parts.now c.args.g c.args.h o.child o.left o.right c.in-Ok-over_item.middle c.in-Ok-unite_ahead.front c.in-Ok-unite_behind.back _ _ _ c.in-Ok-copy.span o.span.now
    c.requires.ready.owns.sound c.requires.h c.in-Some.ensures.left c.in-Some.ensures.right c.in-Some.ensures.level c.in-Ok-copy.ensures c.requires.first c.requires.second
    c.in-Ok-over_item.ensures.ok.adds.step c.in-Ok-over_item.ensures.level c.in-Ok-unite_ahead.ensures.ok.adds.step c.in-Ok-unite_ahead.ensures.level c.in-Ok-unite_behind.ensures.ok.adds.step c.in-Ok-unite_behind.ensures.level).is

pub walk-returns-clause-over : goal.walk-returns-clause-over
walk-returns-clause-over t c e =
    let o = c.in-Some.seen in
    let a = c.args.levels.now in
    let is = ap level_size (united a c.over_item.new.levels c.unite_ahead.new.levels c.unite_behind.new.levels c.args.parts.now c.args.g c.args.h o.child o.left o.right c.in-Ok-over_item.middle c.in-Ok-unite_ahead.front c.in-Ok-unite_behind.back _ _ _ c.in-Ok-copy.span o.span.now
    c.requires.ready.owns.sound c.requires.h c.in-Some.ensures.left c.in-Some.ensures.right c.in-Some.ensures.level c.in-Ok-copy.ensures c.requires.first c.requires.second
    c.in-Ok-over_item.ensures.ok.adds.step c.in-Ok-over_item.ensures.level c.in-Ok-unite_ahead.ensures.ok.adds.step c.in-Ok-unite_ahead.ensures.level c.in-Ok-unite_behind.ensures.ok.adds.step c.in-Ok-unite_behind.ensures.level).is in
    omega (arith, is, c.in-Err-glue_three.ensures.over e)

pub fill-returns-in-Err-fill-clause-err : goal.fill-returns-in-Err-fill-clause-err
fill-returns-in-Err-fill-clause-err t c = freed_one _ _ _ _ _ _ _ _ c.in-Ok-item_over.ensures.ok.adds c.in-Err-fill.ensures.err c.free.ensures.step

pub fill-returns-in-Err-fill-2-clause-err : goal.fill-returns-in-Err-fill-2-clause-err
fill-returns-in-Err-fill-2-clause-err t c = freed_two _ _ _ _ _ _ _ _ _ _ _ _ c.in-Ok-item_over.ensures.ok.adds c.in-Ok-fill.ensures.ok.adds c.in-Err-fill-2.ensures.err c.free-in-Err-fill-2.ensures.step c.free-in-Err-fill-2-2.ensures.step

pub fill-returns-in-Ok-glue_three-clause-ok : goal.fill-returns-in-Ok-glue_three-clause-ok
fill-returns-in-Ok-glue_three-clause-ok t c = three_spent _ _ _ _ _ _ _ _ _ _ _ _ _ _ c.requires.ready c.in-Ok-item_over.ensures.ok c.in-Ok-fill.ensures.ok c.in-Ok-fill-2.ensures.ok c.in-Ok-glue_three.ensures.ok

pub fill-returns-clause-err : goal.fill-returns-clause-err
fill-returns-clause-err t c = three_adds _ _ _ _ _ _ _ _ _ _ _ _ _ c.in-Ok-item_over.ensures.ok c.in-Ok-fill.ensures.ok c.in-Ok-fill-2.ensures.ok c.in-Err-glue_three.ensures.err

pub walk-returns-in-Err-unite_ahead-clause-err : goal.walk-returns-in-Err-unite_ahead-clause-err
walk-returns-in-Err-unite_ahead-clause-err t c = freed_one _ _ _ _ _ _ _ _ c.in-Ok-over_item.ensures.ok.adds c.in-Err-unite_ahead.ensures.err c.free.ensures.step

pub walk-returns-in-Err-unite_behind-clause-err : goal.walk-returns-in-Err-unite_behind-clause-err
walk-returns-in-Err-unite_behind-clause-err t c = freed_two _ _ _ _ _ _ _ _ _ _ _ _ c.in-Ok-over_item.ensures.ok.adds c.in-Ok-unite_ahead.ensures.ok.adds c.in-Err-unite_behind.ensures.err c.free-in-Err-unite_behind.ensures.step c.free-in-Err-unite_behind-2.ensures.step

pub walk-returns-in-Ok-glue_three-clause-ok : goal.walk-returns-in-Ok-glue_three-clause-ok
walk-returns-in-Ok-glue_three-clause-ok t c = three_spent _ _ _ _ _ _ _ _ _ _ _ _ _ _ c.requires.ready c.in-Ok-over_item.ensures.ok c.in-Ok-unite_ahead.ensures.ok c.in-Ok-unite_behind.ensures.ok c.in-Ok-glue_three.ensures.ok

pub walk-returns-clause-err : goal.walk-returns-clause-err
walk-returns-clause-err t c = three_adds _ _ _ _ _ _ _ _ _ _ _ _ _ c.in-Ok-over_item.ensures.ok c.in-Ok-unite_ahead.ensures.ok c.in-Ok-unite_behind.ensures.ok c.in-Err-glue_three.ensures.err

pub over_item-returns-in-Ok-fill-clause-ok : goal.over_item-returns-in-Ok-fill-clause-ok
over_item-returns-in-Ok-fill-clause-ok t c = cut_keeps _ _ _ _ _ _ _ _ _ c.requires.ready c.in-Ok-clip.ensures.ok c.in-Ok-fill.ensures.ok c.free.ensures.step

pub unite_ahead-returns-in-Ok-unite_level-clause-ok : goal.unite_ahead-returns-in-Ok-unite_level-clause-ok
unite_ahead-returns-in-Ok-unite_level-clause-ok t c = cut_keeps _ _ _ _ _ _ _ _ _ c.requires.ready c.in-Ok.ensures.ok c.in-Ok-unite_level.ensures.ok c.free.ensures.step

pub unite_behind-returns-in-Ok-unite_level-clause-ok : goal.unite_behind-returns-in-Ok-unite_level-clause-ok
unite_behind-returns-in-Ok-unite_level-clause-ok t c = cut_keeps _ _ _ _ _ _ _ _ _ c.requires.ready c.in-Ok.ensures.ok c.in-Ok-unite_level.ensures.ok c.free.ensures.step

pub below_once-hold-requires : goal.below_once-hold-requires
below_once-hold-requires t c = known_lent _ _ _ c.args.c c.args.d c.in-Some.known c.requires.ready c.in-Some.ensures.some

pub below_once-returns-clause-level : goal.below_once-returns-clause-level
below_once-returns-clause-level t c = known_level c.args.parts.now c.args.levels.now c.hold.new.self c.args.memory.now c.args.c c.args.d c.in-Some.known c.requires.ready c.in-Some.ensures.some c.in-Ok-hold.ensures.ok

pub below_once-returns-clause-ok : goal.below_once-returns-clause-ok
below_once-returns-clause-ok t c = keeps_given _ _ _ _ _ c.requires.ready c.in-Ok-hold.ensures.ok

pub below_once-remember-requires-clause-first : goal.below_once-remember-requires-clause-first
below_once-remember-requires-clause-first t c = (stays c.args.levels.now _ _ c.requires.ready.owns.sound c.in-Ok.ensures.ok (Some c.args.c) c.requires.c).lent

pub below_once-remember-requires-clause-second : goal.below_once-remember-requires-clause-second
below_once-remember-requires-clause-second t c = (stays c.args.levels.now _ _ c.requires.ready.owns.sound c.in-Ok.ensures.ok (Some c.args.d) c.requires.d).lent

pub below_once-remember-requires-clause-made : goal.below_once-remember-requires-clause-made
below_once-remember-requires-clause-made t c = given_lent c.args.levels.now c.unite_below.new.levels c.in-Ok.whole c.in-Ok.ensures.ok

pub below_once-returns-in_default-remember-clause-err : goal.below_once-returns-in_default-remember-clause-err
below_once-returns-in_default-remember-clause-err t c =
    forgotten (IsUnionBelow c.args.parts.now) c.args.levels.now c.unite_below.new.levels c.remember.new.levels c.free.new.self c.args.memory.now c.remember.new.memory c.in-Ok.whole c.requires.ready
    c.in-Ok.ensures.ok c.in_default-remember.ensures.err c.free.ensures.step c.in_default-remember.ensures.unknown

pub below_once-returns-in_default-clause-ok : goal.below_once-returns-in_default-clause-ok
below_once-returns-in_default-clause-ok t c =
    new_pair c.args.parts.now c.args.levels.now c.unite_below.new.levels c.remember.new.levels c.args.memory.now c.remember.new.memory c.args.c c.args.d c.in-Ok.whole c.requires.ready
    c.in-Ok.ensures.ok c.in-Ok.ensures.level c.in-Ok-remember.ensures.ok c.in-Ok-remember.ensures.noted c.requires.c c.requires.d

pub below_pair-returns-in_default-clause-level : goal.below_pair-returns-in_default-clause-level
below_pair-returns-in_default-clause-level t c =
    below_first c.args.parts.now (level_of c.args.levels.now c.args.c) (level_of c.args.levels.now c.args.d) (ap (λ x. length_of (level_of c.args.levels.now x)) c.in_default.is)

pub below_pair-returns-in_default-d-clause-level : goal.below_pair-returns-in_default-d-clause-level
below_pair-returns-in_default-d-clause-level t c =
    below_second c.args.parts.now (level_of c.args.levels.now c.args.c) (level_of c.args.levels.now c.args.d) (ap (λ x. length_of (level_of c.args.levels.now x)) c.in_default-d.is)

pub below_pair-returns-in-Ok-below_once-clause-level : goal.below_pair-returns-in-Ok-below_once-clause-level
below_pair-returns-in-Ok-below_once-clause-level t c =
    c.in-Ok-below_once.ensures.level ∙ pair_turned c.args.parts.now c.args.levels.now c.args.c c.args.d c.in-Some.first c.in-Some-d.next c.in-Some.is c.in-Some-d.is c.requires.first c.requires.second

pub below_pair-returns-in-Err-below_once-clause-over : goal.below_pair-returns-in-Err-below_once-clause-over
below_pair-returns-in-Err-below_once-clause-over t c e =
    let is = ap level_size (pair_turned c.args.parts.now c.args.levels.now c.args.c c.args.d c.in-Some.first c.in-Some-d.next c.in-Some.is c.in-Some-d.is c.requires.first c.requires.second) in
    omega (arith, is, c.in-Err-below_once.ensures.over e)

pub fill-returns-in-Ok-clause-ok : goal.fill-returns-in-Ok-clause-ok
fill-returns-in-Ok-clause-ok t c = keeps_given _ _ _ _ _ c.requires.ready c.in-Ok.ensures.ok

pub fill-glue_three-requires-clause-middle : goal.fill-glue_three-requires-clause-middle
fill-glue_three-requires-clause-middle t c =
    let o = c.in-Some.seen in
    let a = c.args.levels.now in
    (filled_up a c.item_over.new.levels c.fill.new.levels c.fill-2.new.levels c.args.parts.now c.args.within c.args.child o.child o.left o.right c.in-Ok-item_over.middle c.in-Ok-fill.front c.in-Ok-fill-2.back _ _ _ c.args.lo.now c.args.hi.now c.in-Ok-copy.span o.span.now
    c.requires.ready.owns.sound c.requires.child c.in-Some.ensures.left c.in-Some.ensures.right c.in-Some.ensures.level c.in-Ok-copy.ensures c.requires.fits
    c.in-Ok-item_over.ensures.ok.adds.step c.in-Ok-item_over.ensures.level c.in-Ok-fill.ensures.ok.adds.step c.in-Ok-fill.ensures.level c.in-Ok-fill-2.ensures.ok.adds.step c.in-Ok-fill-2.ensures.level).middle_apart

pub item_over-returns-clause-ok : goal.item_over-returns-clause-ok
item_over-returns-clause-ok t c =
    keeps_spent _ _ _ _ _ _ _ _ _ _ c.requires.ready c.in-Ok-below_pair.ensures.ok.adds c.in-Ok-below_pair.ensures.ok.known c.in_Ok-whole.ensures.ok (λ m. omega arith) (λ m. omega arith)

pub over_item-returns-in-Ok-clause-ok : goal.over_item-returns-in-Ok-clause-ok
over_item-returns-in-Ok-clause-ok t c = keeps_given _ _ _ _ _ c.requires.ready c.in-Ok.ensures.ok

pub unite_level-returns-in-Ok-clause-ok : goal.unite_level-returns-in-Ok-clause-ok
unite_level-returns-in-Ok-clause-ok t c = keeps_given _ _ _ _ _ c.requires.ready c.in-Ok.ensures.ok

pub unite_level-returns-in-Ok-unite_points-clause-ok : goal.unite_level-returns-in-Ok-unite_points-clause-ok
unite_level-returns-in-Ok-unite_points-clause-ok t c = keeps_given _ _ _ _ _ c.requires.ready c.in-Ok-unite_points.ensures.ok

pub walk-returns-in-Ok-clause-ok : goal.walk-returns-in-Ok-clause-ok
walk-returns-in-Ok-clause-ok t c = keeps_given _ _ _ _ _ c.requires.ready c.in-Ok.ensures.ok
