use Rattle.std.proofs.Common.{◌<◌, ◌+◌, ◌∷◌, [], Some, arith, refl, ap, sym, ◌∙◌, subst}
use Rattle.rx_value.specs.Spans.{IsSpan}
use Rattle.rx_tree.specs.Tree.{level_size}
use Rattle.rx_tree.specs.Meet.{across as across_level}
use Rattle.rx_tree.specs.Meet.{both as both_level}
use Rattle.rx_level.specs.Step.{level_of}
use Rattle.rx_and.specs.MetPairs.{IsMet, Meets, sizes_of}
use Rattle.rx_pairs.proofs.Remembered.{freed_one, freed_two, known_lent, owned_lent, adds_owned}
use Rattle.rx_and.proofs.Reached.{keeps_before, keeps_after}
use Rattle.rx_and.proofs.Narrowed.{front_side, back_side, order_of}
use Rattle.rx_and.proofs.Fellows.{both_turn, both_one, turned, split, split_below, fellows_later, hangs_later, hung_order, bare_met}
use Rattle.rx_cut.proofs.Staying.{stays, stays_two}
use Rattle.rx_and.proofs.Meets.{smaller, across_within, both_within, across_kept, both_later, over_later, crossed, met, piece_over, piece_none, piece_some}
use Rattle.rx_and.proofs.MetPairs.{meets_absent, ready_next, meets_given, meets_more, meets_spent, meets_three, adds_three, not_met_yet, meets_remembered, met_before}
use Rattle.rx_and.proofs.meeting.+meet.Goals as goal

pub across-piece-requires : goal.across-piece-requires
across-piece-requires t c =
    let o = c.in-Some.seen in
    let a = c.args.levels.now in
    let sound = c.requires.ready.owns.sound in
    let less = smaller _ _ _ _ o.span.now c.in-Some.ensures.level in
    let parts = split_below (level_of a (Some c.args.c)) _ _ o.span.now _ _ c.in-Some.ensures.level c.requires.fits in
    (omega (arith, less.child, c.decreases), (c.requires.ready, (c.requires.c, (c.in-Some.ensures.child, parts.child))))

pub across-returns-in-Err-clause-over : goal.across-returns-in-Err-clause-over
across-returns-in-Err-clause-over t c e =
    let o = c.in-Some.seen in
    let a = c.args.levels.now in
    let sound = c.requires.ready.owns.sound in
    let w = across_within (both_level (level_of a (Some c.args.c))) (level_of a (Some c.args.c)) c.args.span.now o.span.now c.in-Ok.part _ _ _ _ c.in-Some.ensures.level c.in-Ok.ensures in
    over_later c.args.limit _ _ _ (c.in-Err.ensures.over e) refl w.second

pub across-across-requires : goal.across-across-requires
across-across-requires t c =
    let o = c.in-Some.seen in
    let a = c.args.levels.now in
    let sound = c.requires.ready.owns.sound in
    let one = c.in-Ok-piece.ensures.ok in
    let less = smaller _ _ _ _ o.span.now c.in-Some.ensures.level in
    let c1 = stays a _ _ sound one.keeps.adds.step (Some c.args.c) c.requires.c in
    let low = keeps_before a c.args.span.now o.span.now c.args.h o.child o.left o.right c.reached_left-left.result c.in-Some.ensures.level (hung_order (level_of a (Some c.args.c)) (level_of a c.args.h) c.requires.fits) c.in-Some.ensures.left c.reached_left-left.ensures in
    let l1 = stays a _ _ sound one.keeps.adds.step c.reached_left-left.result low.lent in
    let ready1 = ready_next _ a _ _ _ _ c.requires.ready one in
    (omega (arith, less.left, low.few, c1.size_same, l1.size_same, c.decreases), (ready1, (c1.lent, (l1.lent, hangs_later _ _ (Some c.args.c) o.left _ low.placed c1 l1 (split_below (level_of a (Some c.args.c)) _ _ o.span.now _ _ c.in-Some.ensures.level c.requires.fits).left))))

pub across-returns-in-Err-across-clause-over : goal.across-returns-in-Err-across-clause-over
across-returns-in-Err-across-clause-over t c e =
    let o = c.in-Some.seen in
    let a = c.args.levels.now in
    let sound = c.requires.ready.owns.sound in
    let one = c.in-Ok-piece.ensures.ok in
    let w = across_within (both_level (level_of a (Some c.args.c))) (level_of a (Some c.args.c)) c.args.span.now o.span.now c.in-Ok.part _ _ _ _ c.in-Some.ensures.level c.in-Ok.ensures in
    let low = keeps_before a c.args.span.now o.span.now c.args.h o.child o.left o.right c.reached_left-left.result c.in-Some.ensures.level (hung_order (level_of a (Some c.args.c)) (level_of a c.args.h) c.requires.fits) c.in-Some.ensures.left c.reached_left-left.ensures in
    let c1 = stays a _ _ sound one.keeps.adds.step (Some c.args.c) c.requires.c in
    let l1 = stays a _ _ sound one.keeps.adds.step c.reached_left-left.result low.lent in
    over_later c.args.limit _ _ _ (c.in-Err-across.ensures.over e)
    (across_kept a c.piece.new.levels (Some c.args.c) o.left c.reached_left-left.result c.args.span.now low c1 l1)
    w.first

pub across-returns-in-Err-across-clause-err : goal.across-returns-in-Err-across-clause-err
across-returns-in-Err-across-clause-err t c = freed_one _ _ _ _ _ _ _ _ c.in-Ok-piece.ensures.ok.keeps.adds c.in-Err-across.ensures.err c.free.ensures.step

pub across-across-requires-2 : goal.across-across-requires-2
across-across-requires-2 t c =
    let o = c.in-Some.seen in
    let a = c.args.levels.now in
    let sound = c.requires.ready.owns.sound in
    let one = c.in-Ok-piece.ensures.ok in
    let two = c.in-Ok-across.ensures.ok in
    let less = smaller _ _ _ _ o.span.now c.in-Some.ensures.level in
    let c2 = stays_two a _ _ _ _ sound one.keeps.adds.step two.keeps.adds.step (Some c.args.c) c.requires.c in
    let high = keeps_after a c.args.span.now o.span.now c.args.h o.child o.left o.right c.reached_right-right.result c.in-Some.ensures.level (hung_order (level_of a (Some c.args.c)) (level_of a c.args.h) c.requires.fits) c.in-Some.ensures.right c.reached_right-right.ensures in
    let r2 = stays_two a _ _ _ _ sound one.keeps.adds.step two.keeps.adds.step c.reached_right-right.result high.lent in
    let ready1 = ready_next _ a _ _ _ _ c.requires.ready one in
    let ready2 = ready_next _ _ _ _ _ _ ready1 two in
    (omega (arith, less.right, high.few, c2.size_same, r2.size_same, c.decreases), (ready2, (c2.lent, (r2.lent, hangs_later _ _ (Some c.args.c) o.right _ high.placed c2 r2 (split_below (level_of a (Some c.args.c)) _ _ o.span.now _ _ c.in-Some.ensures.level c.requires.fits).right))))

pub across-returns-in-Err-across-2-clause-over : goal.across-returns-in-Err-across-2-clause-over
across-returns-in-Err-across-2-clause-over t c e =
    let o = c.in-Some.seen in
    let a = c.args.levels.now in
    let sound = c.requires.ready.owns.sound in
    let one = c.in-Ok-piece.ensures.ok in
    let two = c.in-Ok-across.ensures.ok in
    let w = across_within (both_level (level_of a (Some c.args.c))) (level_of a (Some c.args.c)) c.args.span.now o.span.now c.in-Ok.part _ _ _ _ c.in-Some.ensures.level c.in-Ok.ensures in
    let high = keeps_after a c.args.span.now o.span.now c.args.h o.child o.left o.right c.reached_right-right.result c.in-Some.ensures.level (hung_order (level_of a (Some c.args.c)) (level_of a c.args.h) c.requires.fits) c.in-Some.ensures.right c.reached_right-right.ensures in
    let c2 = stays_two a _ _ _ _ sound one.keeps.adds.step two.keeps.adds.step (Some c.args.c) c.requires.c in
    let r2 = stays_two a _ _ _ _ sound one.keeps.adds.step two.keeps.adds.step c.reached_right-right.result high.lent in
    over_later c.args.limit _ _ _ (c.in-Err-across-2.ensures.over e)
    (across_kept a c.across.new.levels (Some c.args.c) o.right c.reached_right-right.result c.args.span.now high c2 r2)
    w.third

pub across-returns-in-Err-across-2-clause-err : goal.across-returns-in-Err-across-2-clause-err
across-returns-in-Err-across-2-clause-err t c = freed_two _ _ _ _ _ _ _ _ _ _ _ _ c.in-Ok-piece.ensures.ok.keeps.adds c.in-Ok-across.ensures.ok.keeps.adds c.in-Err-across-2.ensures.err c.free-in-Err-across-2.ensures.step c.free-in-Err-across-2-2.ensures.step

pub across-glue_three-requires-clause-left : goal.across-glue_three-requires-clause-left
across-glue_three-requires-clause-left t c =
    let o = c.in-Some.seen in
    let a = c.args.levels.now in
    let sound = c.requires.ready.owns.sound in
    let one = c.in-Ok-piece.ensures.ok in
    let two = c.in-Ok-across.ensures.ok in
    let low = keeps_before a c.args.span.now o.span.now c.args.h o.child o.left o.right c.reached_left-left.result c.in-Some.ensures.level (hung_order (level_of a (Some c.args.c)) (level_of a c.args.h) c.requires.fits) c.in-Some.ensures.left c.reached_left-left.ensures in
    let high = keeps_after a c.args.span.now o.span.now c.args.h o.child o.left o.right c.reached_right-right.result c.in-Some.ensures.level (hung_order (level_of a (Some c.args.c)) (level_of a c.args.h) c.requires.fits) c.in-Some.ensures.right c.reached_right-right.ensures in
    let three = crossed a c.piece.new.levels c.across.new.levels c.across-2.new.levels c.args.h (Some c.args.c) o.child o.left o.right c.reached_left-left.result c.reached_right-right.result c.in-Ok-piece.middle c.in-Ok-across.front c.in-Ok-across-2.back _ _ _ c.args.span.now o.span.now c.in-Ok.part
    sound c.requires.c low high c.in-Some.ensures.level c.in-Ok.ensures
    one.keeps.adds.step c.in-Ok-piece.ensures.level two.keeps.adds.step c.in-Ok-across.ensures.level c.in-Ok-across-2.ensures.ok.keeps.adds.step c.in-Ok-across-2.ensures.level in
    three.front_apart

pub across-glue_three-requires-clause-middle : goal.across-glue_three-requires-clause-middle
across-glue_three-requires-clause-middle t c =
    let o = c.in-Some.seen in
    let a = c.args.levels.now in
    let sound = c.requires.ready.owns.sound in
    let one = c.in-Ok-piece.ensures.ok in
    let two = c.in-Ok-across.ensures.ok in
    let low = keeps_before a c.args.span.now o.span.now c.args.h o.child o.left o.right c.reached_left-left.result c.in-Some.ensures.level (hung_order (level_of a (Some c.args.c)) (level_of a c.args.h) c.requires.fits) c.in-Some.ensures.left c.reached_left-left.ensures in
    let high = keeps_after a c.args.span.now o.span.now c.args.h o.child o.left o.right c.reached_right-right.result c.in-Some.ensures.level (hung_order (level_of a (Some c.args.c)) (level_of a c.args.h) c.requires.fits) c.in-Some.ensures.right c.reached_right-right.ensures in
    let three = crossed a c.piece.new.levels c.across.new.levels c.across-2.new.levels c.args.h (Some c.args.c) o.child o.left o.right c.reached_left-left.result c.reached_right-right.result c.in-Ok-piece.middle c.in-Ok-across.front c.in-Ok-across-2.back _ _ _ c.args.span.now o.span.now c.in-Ok.part
    sound c.requires.c low high c.in-Some.ensures.level c.in-Ok.ensures
    one.keeps.adds.step c.in-Ok-piece.ensures.level two.keeps.adds.step c.in-Ok-across.ensures.level c.in-Ok-across-2.ensures.ok.keeps.adds.step c.in-Ok-across-2.ensures.level in
    three.middle_apart

pub across-returns-in-Ok-glue_three-clause-level : goal.across-returns-in-Ok-glue_three-clause-level
across-returns-in-Ok-glue_three-clause-level t c =
    let o = c.in-Some.seen in
    let a = c.args.levels.now in
    let sound = c.requires.ready.owns.sound in
    let one = c.in-Ok-piece.ensures.ok in
    let two = c.in-Ok-across.ensures.ok in
    let low = keeps_before a c.args.span.now o.span.now c.args.h o.child o.left o.right c.reached_left-left.result c.in-Some.ensures.level (hung_order (level_of a (Some c.args.c)) (level_of a c.args.h) c.requires.fits) c.in-Some.ensures.left c.reached_left-left.ensures in
    let high = keeps_after a c.args.span.now o.span.now c.args.h o.child o.left o.right c.reached_right-right.result c.in-Some.ensures.level (hung_order (level_of a (Some c.args.c)) (level_of a c.args.h) c.requires.fits) c.in-Some.ensures.right c.reached_right-right.ensures in
    let three = crossed a c.piece.new.levels c.across.new.levels c.across-2.new.levels c.args.h (Some c.args.c) o.child o.left o.right c.reached_left-left.result c.reached_right-right.result c.in-Ok-piece.middle c.in-Ok-across.front c.in-Ok-across-2.back _ _ _ c.args.span.now o.span.now c.in-Ok.part
    sound c.requires.c low high c.in-Some.ensures.level c.in-Ok.ensures
    one.keeps.adds.step c.in-Ok-piece.ensures.level two.keeps.adds.step c.in-Ok-across.ensures.level c.in-Ok-across-2.ensures.ok.keeps.adds.step c.in-Ok-across-2.ensures.level in
    c.in-Ok-glue_three.ensures.level ∙ three.is

pub across-returns-in-Err-glue_three-clause-over : goal.across-returns-in-Err-glue_three-clause-over
across-returns-in-Err-glue_three-clause-over t c e =
    let o = c.in-Some.seen in
    let a = c.args.levels.now in
    let sound = c.requires.ready.owns.sound in
    let one = c.in-Ok-piece.ensures.ok in
    let two = c.in-Ok-across.ensures.ok in
    let low = keeps_before a c.args.span.now o.span.now c.args.h o.child o.left o.right c.reached_left-left.result c.in-Some.ensures.level (hung_order (level_of a (Some c.args.c)) (level_of a c.args.h) c.requires.fits) c.in-Some.ensures.left c.reached_left-left.ensures in
    let high = keeps_after a c.args.span.now o.span.now c.args.h o.child o.left o.right c.reached_right-right.result c.in-Some.ensures.level (hung_order (level_of a (Some c.args.c)) (level_of a c.args.h) c.requires.fits) c.in-Some.ensures.right c.reached_right-right.ensures in
    let three = crossed a c.piece.new.levels c.across.new.levels c.across-2.new.levels c.args.h (Some c.args.c) o.child o.left o.right c.reached_left-left.result c.reached_right-right.result c.in-Ok-piece.middle c.in-Ok-across.front c.in-Ok-across-2.back _ _ _ c.args.span.now o.span.now c.in-Ok.part
    sound c.requires.c low high c.in-Some.ensures.level c.in-Ok.ensures
    one.keeps.adds.step c.in-Ok-piece.ensures.level two.keeps.adds.step c.in-Ok-across.ensures.level c.in-Ok-across-2.ensures.ok.keeps.adds.step c.in-Ok-across-2.ensures.level in
    let is = ap level_size three.is in
    omega (arith, is, c.in-Err-glue_three.ensures.over e)

pub across-returns-in-Ok-glue_three-clause-ok : goal.across-returns-in-Ok-glue_three-clause-ok
across-returns-in-Ok-glue_three-clause-ok t c =
    let o = c.in-Some.seen in
    let a = c.args.levels.now in
    let sound = c.requires.ready.owns.sound in
    let one = c.in-Ok-piece.ensures.ok in
    let two = c.in-Ok-across.ensures.ok in
    let less = smaller _ _ _ _ o.span.now c.in-Some.ensures.level in
    let low = keeps_before a c.args.span.now o.span.now c.args.h o.child o.left o.right c.reached_left-left.result c.in-Some.ensures.level (hung_order (level_of a (Some c.args.c)) (level_of a c.args.h) c.requires.fits) c.in-Some.ensures.left c.reached_left-left.ensures in
    let high = keeps_after a c.args.span.now o.span.now c.args.h o.child o.left o.right c.reached_right-right.result c.in-Some.ensures.level (hung_order (level_of a (Some c.args.c)) (level_of a c.args.h) c.requires.fits) c.in-Some.ensures.right c.reached_right-right.ensures in
    let c1 = stays a _ _ sound one.keeps.adds.step (Some c.args.c) c.requires.c in
    let l1 = stays a _ _ sound one.keeps.adds.step c.reached_left-left.result low.lent in
    let c2 = stays_two a _ _ _ _ sound one.keeps.adds.step two.keeps.adds.step (Some c.args.c) c.requires.c in
    let r2 = stays_two a _ _ _ _ sound one.keeps.adds.step two.keeps.adds.step c.reached_right-right.result high.lent in
    meets_three _ _ _ _ _ _ _ _ _ _ _ _ _ _ _ _ _ c.requires.ready one two c.in-Ok-across-2.ensures.ok c.in-Ok-glue_three.ensures.ok
    (omega (arith, less.child)) (omega (arith, less.left, low.few, c1.size_same, l1.size_same)) (omega (arith, less.right, high.few, c2.size_same, r2.size_same))

pub across-returns-in-Err-glue_three-clause-err : goal.across-returns-in-Err-glue_three-clause-err
across-returns-in-Err-glue_three-clause-err t c = adds_three _ _ _ _ _ _ _ _ _ _ _ _ _ _ _ c.in-Ok-piece.ensures.ok c.in-Ok-across.ensures.ok c.in-Ok-across-2.ensures.ok c.in-Err-glue_three.ensures.err

pub meet_item-clip-requires-clause-order : goal.meet_item-clip-requires-clause-order
meet_item-clip-requires-clause-order t c = hung_order (level_of c.args.levels.now c.args.child) (level_of c.args.levels.now c.args.h) c.requires.fits

pub meet_item-returns-in_default-clause-level : goal.meet_item-returns-in_default-clause-level
meet_item-returns-in_default-clause-level t c =
    c.in-Ok.ensures.level ∙ bare_met c.args.levels.now c.args.child c.args.h c.args.span.now c.in_default.is c.requires.span c.requires.fits

pub meet_item-returns-in_default-clause-ok : goal.meet_item-returns-in_default-clause-ok
meet_item-returns-in_default-clause-ok t c = meets_given _ _ _ _ _ c.requires.ready c.in-Ok.ensures.ok

pub walk-items_behind-behind-requires-clause-order : goal.walk-items_behind-behind-requires-clause-order
walk-items_behind-behind-requires-clause-order t c = order_of c.requires.fellows.parts (level_of c.args.levels.now c.args.h) c.requires.fellows.second

pub walk-meet_item-requires : goal.walk-meet_item-requires
walk-meet_item-requires t c =
    let o = c.in-Some.seen in
    let a = c.args.levels.now in
    let sound = c.requires.ready.owns.sound in
    let less = smaller _ _ _ _ o.span.now c.in-Some.ensures.level in
    let parts = split _ _ o.span.now _ _ (level_of a c.args.h) c.in-Some.ensures.level c.requires.fellows in
    (omega (arith, less.child, c.decreases), (c.requires.ready, (c.in-Some.ensures.child, (c.requires.h, (subst IsSpan (sym c.in-Ok.ensures) parts.span, parts.child)))))

pub walk-returns-in-Err-clause-over : goal.walk-returns-in-Err-clause-over
walk-returns-in-Err-clause-over t c e =
    let o = c.in-Some.seen in
    let a = c.args.levels.now in
    let sound = c.requires.ready.owns.sound in
    let w = both_within o.span.now _ _ _ _ (level_of a c.args.h) c.in-Some.ensures.level in
    over_later c.args.limit _ _ _ (c.in-Err.ensures.over e) (ap (λ x. across_level (both_level (level_of a o.child)) (level_of a o.child) x (level_of a c.args.h)) c.in-Ok.ensures) w.second

pub walk-both-requires : goal.walk-both-requires
walk-both-requires t c =
    let o = c.in-Some.seen in
    let a = c.args.levels.now in
    let sound = c.requires.ready.owns.sound in
    let one = c.in-Ok-meet_item.ensures.ok in
    let less = smaller _ _ _ _ o.span.now c.in-Some.ensures.level in
    let side_l = front_side (level_of a c.args.g) (level_of a o.left) c.in-Ok.span o.span.now (level_of a o.child) (level_of a o.right) (level_of a c.args.h) (level_of a c.items_before-before.result) c.in-Ok.ensures c.in-Some.ensures.level c.requires.fellows c.items_before-before.ensures.front in
    let l1 = stays a _ _ sound one.keeps.adds.step o.left c.in-Some.ensures.left in
    let b1 = stays a _ _ sound one.keeps.adds.step c.items_before-before.result c.items_before-before.ensures.lent in
    let ready1 = ready_next _ a _ _ _ _ c.requires.ready one in
    (omega (arith, less.left, side_l.few, l1.size_same, b1.size_same, c.decreases), (ready1, (l1.lent, (b1.lent, fellows_later _ _ o.left _ l1 b1 side_l.fellows))))

pub walk-returns-in-Err-both-clause-over : goal.walk-returns-in-Err-both-clause-over
walk-returns-in-Err-both-clause-over t c e =
    let o = c.in-Some.seen in
    let a = c.args.levels.now in
    let sound = c.requires.ready.owns.sound in
    let one = c.in-Ok-meet_item.ensures.ok in
    let w = both_within o.span.now _ _ _ _ (level_of a c.args.h) c.in-Some.ensures.level in
    let side_l = front_side (level_of a c.args.g) (level_of a o.left) c.in-Ok.span o.span.now (level_of a o.child) (level_of a o.right) (level_of a c.args.h) (level_of a c.items_before-before.result) c.in-Ok.ensures c.in-Some.ensures.level c.requires.fellows c.items_before-before.ensures.front in
    let l1 = stays a _ _ sound one.keeps.adds.step o.left c.in-Some.ensures.left in
    let b1 = stays a _ _ sound one.keeps.adds.step c.items_before-before.result c.items_before-before.ensures.lent in
    over_later c.args.limit _ _ _ (c.in-Err-both.ensures.over e) (both_later a c.meet_item.new.levels o.left c.items_before-before.result l1 b1 ∙ side_l.same) w.first

pub walk-returns-in-Err-both-clause-err : goal.walk-returns-in-Err-both-clause-err
walk-returns-in-Err-both-clause-err t c = freed_one _ _ _ _ _ _ _ _ c.in-Ok-meet_item.ensures.ok.keeps.adds c.in-Err-both.ensures.err c.free.ensures.step

pub walk-both-requires-2 : goal.walk-both-requires-2
walk-both-requires-2 t c =
    let o = c.in-Some.seen in
    let a = c.args.levels.now in
    let sound = c.requires.ready.owns.sound in
    let one = c.in-Ok-meet_item.ensures.ok in
    let two = c.in-Ok-both.ensures.ok in
    let less = smaller _ _ _ _ o.span.now c.in-Some.ensures.level in
    let side_r = back_side (level_of a c.args.g) (level_of a o.left) c.in-Ok.span o.span.now (level_of a o.child) (level_of a o.right) (level_of a c.args.h) (level_of a c.items_behind-behind.result) c.in-Ok.ensures c.in-Some.ensures.level c.requires.fellows c.items_behind-behind.ensures.back in
    let r2 = stays_two a _ _ _ _ sound one.keeps.adds.step two.keeps.adds.step o.right c.in-Some.ensures.right in
    let b2 = stays_two a _ _ _ _ sound one.keeps.adds.step two.keeps.adds.step c.items_behind-behind.result c.items_behind-behind.ensures.lent in
    let ready1 = ready_next _ a _ _ _ _ c.requires.ready one in
    let ready2 = ready_next _ _ _ _ _ _ ready1 two in
    (omega (arith, less.right, side_r.few, r2.size_same, b2.size_same, c.decreases), (ready2, (r2.lent, (b2.lent, fellows_later _ _ o.right _ r2 b2 side_r.fellows))))

pub walk-returns-in-Err-both-2-clause-over : goal.walk-returns-in-Err-both-2-clause-over
walk-returns-in-Err-both-2-clause-over t c e =
    let o = c.in-Some.seen in
    let a = c.args.levels.now in
    let sound = c.requires.ready.owns.sound in
    let one = c.in-Ok-meet_item.ensures.ok in
    let two = c.in-Ok-both.ensures.ok in
    let w = both_within o.span.now _ _ _ _ (level_of a c.args.h) c.in-Some.ensures.level in
    let side_r = back_side (level_of a c.args.g) (level_of a o.left) c.in-Ok.span o.span.now (level_of a o.child) (level_of a o.right) (level_of a c.args.h) (level_of a c.items_behind-behind.result) c.in-Ok.ensures c.in-Some.ensures.level c.requires.fellows c.items_behind-behind.ensures.back in
    let r2 = stays_two a _ _ _ _ sound one.keeps.adds.step two.keeps.adds.step o.right c.in-Some.ensures.right in
    let b2 = stays_two a _ _ _ _ sound one.keeps.adds.step two.keeps.adds.step c.items_behind-behind.result c.items_behind-behind.ensures.lent in
    over_later c.args.limit _ _ _ (c.in-Err-both-2.ensures.over e) (both_later a c.both.new.levels o.right c.items_behind-behind.result r2 b2 ∙ side_r.same) w.third

pub walk-returns-in-Err-both-2-clause-err : goal.walk-returns-in-Err-both-2-clause-err
walk-returns-in-Err-both-2-clause-err t c = freed_two _ _ _ _ _ _ _ _ _ _ _ _ c.in-Ok-meet_item.ensures.ok.keeps.adds c.in-Ok-both.ensures.ok.keeps.adds c.in-Err-both-2.ensures.err c.free-in-Err-both-2.ensures.step c.free-in-Err-both-2-2.ensures.step

pub walk-glue_three-requires-clause-left : goal.walk-glue_three-requires-clause-left
walk-glue_three-requires-clause-left t c =
    let o = c.in-Some.seen in
    let a = c.args.levels.now in
    let sound = c.requires.ready.owns.sound in
    let one = c.in-Ok-meet_item.ensures.ok in
    let two = c.in-Ok-both.ensures.ok in
    let side_l = front_side (level_of a c.args.g) (level_of a o.left) c.in-Ok.span o.span.now (level_of a o.child) (level_of a o.right) (level_of a c.args.h) (level_of a c.items_before-before.result) c.in-Ok.ensures c.in-Some.ensures.level c.requires.fellows c.items_before-before.ensures.front in
    let side_r = back_side (level_of a c.args.g) (level_of a o.left) c.in-Ok.span o.span.now (level_of a o.child) (level_of a o.right) (level_of a c.args.h) (level_of a c.items_behind-behind.result) c.in-Ok.ensures c.in-Some.ensures.level c.requires.fellows c.items_behind-behind.ensures.back in
    let three = met a c.meet_item.new.levels c.both.new.levels c.both-2.new.levels c.args.g c.args.h o.child o.left o.right c.items_before-before.result c.items_behind-behind.result c.in-Ok-meet_item.middle c.in-Ok-both.front c.in-Ok-both-2.back _ _ _ c.in-Ok.span o.span.now
    sound c.in-Some.ensures.left c.in-Some.ensures.right c.items_before-before.ensures.lent c.items_behind-behind.ensures.lent side_l side_r c.in-Some.ensures.level c.in-Ok.ensures
    one.keeps.adds.step c.in-Ok-meet_item.ensures.level two.keeps.adds.step c.in-Ok-both.ensures.level c.in-Ok-both-2.ensures.ok.keeps.adds.step c.in-Ok-both-2.ensures.level in
    three.front_apart

pub walk-glue_three-requires-clause-middle : goal.walk-glue_three-requires-clause-middle
walk-glue_three-requires-clause-middle t c =
    let o = c.in-Some.seen in
    let a = c.args.levels.now in
    let sound = c.requires.ready.owns.sound in
    let one = c.in-Ok-meet_item.ensures.ok in
    let two = c.in-Ok-both.ensures.ok in
    let side_l = front_side (level_of a c.args.g) (level_of a o.left) c.in-Ok.span o.span.now (level_of a o.child) (level_of a o.right) (level_of a c.args.h) (level_of a c.items_before-before.result) c.in-Ok.ensures c.in-Some.ensures.level c.requires.fellows c.items_before-before.ensures.front in
    let side_r = back_side (level_of a c.args.g) (level_of a o.left) c.in-Ok.span o.span.now (level_of a o.child) (level_of a o.right) (level_of a c.args.h) (level_of a c.items_behind-behind.result) c.in-Ok.ensures c.in-Some.ensures.level c.requires.fellows c.items_behind-behind.ensures.back in
    let three = met a c.meet_item.new.levels c.both.new.levels c.both-2.new.levels c.args.g c.args.h o.child o.left o.right c.items_before-before.result c.items_behind-behind.result c.in-Ok-meet_item.middle c.in-Ok-both.front c.in-Ok-both-2.back _ _ _ c.in-Ok.span o.span.now
    sound c.in-Some.ensures.left c.in-Some.ensures.right c.items_before-before.ensures.lent c.items_behind-behind.ensures.lent side_l side_r c.in-Some.ensures.level c.in-Ok.ensures
    one.keeps.adds.step c.in-Ok-meet_item.ensures.level two.keeps.adds.step c.in-Ok-both.ensures.level c.in-Ok-both-2.ensures.ok.keeps.adds.step c.in-Ok-both-2.ensures.level in
    three.middle_apart

pub walk-returns-in-Ok-glue_three-clause-level : goal.walk-returns-in-Ok-glue_three-clause-level
walk-returns-in-Ok-glue_three-clause-level t c =
    let o = c.in-Some.seen in
    let a = c.args.levels.now in
    let sound = c.requires.ready.owns.sound in
    let one = c.in-Ok-meet_item.ensures.ok in
    let two = c.in-Ok-both.ensures.ok in
    let side_l = front_side (level_of a c.args.g) (level_of a o.left) c.in-Ok.span o.span.now (level_of a o.child) (level_of a o.right) (level_of a c.args.h) (level_of a c.items_before-before.result) c.in-Ok.ensures c.in-Some.ensures.level c.requires.fellows c.items_before-before.ensures.front in
    let side_r = back_side (level_of a c.args.g) (level_of a o.left) c.in-Ok.span o.span.now (level_of a o.child) (level_of a o.right) (level_of a c.args.h) (level_of a c.items_behind-behind.result) c.in-Ok.ensures c.in-Some.ensures.level c.requires.fellows c.items_behind-behind.ensures.back in
    let three = met a c.meet_item.new.levels c.both.new.levels c.both-2.new.levels c.args.g c.args.h o.child o.left o.right c.items_before-before.result c.items_behind-behind.result c.in-Ok-meet_item.middle c.in-Ok-both.front c.in-Ok-both-2.back _ _ _ c.in-Ok.span o.span.now
    sound c.in-Some.ensures.left c.in-Some.ensures.right c.items_before-before.ensures.lent c.items_behind-behind.ensures.lent side_l side_r c.in-Some.ensures.level c.in-Ok.ensures
    one.keeps.adds.step c.in-Ok-meet_item.ensures.level two.keeps.adds.step c.in-Ok-both.ensures.level c.in-Ok-both-2.ensures.ok.keeps.adds.step c.in-Ok-both-2.ensures.level in
    c.in-Ok-glue_three.ensures.level ∙ three.is

pub walk-returns-clause-over : goal.walk-returns-clause-over
walk-returns-clause-over t c e =
    let o = c.in-Some.seen in
    let a = c.args.levels.now in
    let sound = c.requires.ready.owns.sound in
    let one = c.in-Ok-meet_item.ensures.ok in
    let two = c.in-Ok-both.ensures.ok in
    let side_l = front_side (level_of a c.args.g) (level_of a o.left) c.in-Ok.span o.span.now (level_of a o.child) (level_of a o.right) (level_of a c.args.h) (level_of a c.items_before-before.result) c.in-Ok.ensures c.in-Some.ensures.level c.requires.fellows c.items_before-before.ensures.front in
    let side_r = back_side (level_of a c.args.g) (level_of a o.left) c.in-Ok.span o.span.now (level_of a o.child) (level_of a o.right) (level_of a c.args.h) (level_of a c.items_behind-behind.result) c.in-Ok.ensures c.in-Some.ensures.level c.requires.fellows c.items_behind-behind.ensures.back in
    let three = met a c.meet_item.new.levels c.both.new.levels c.both-2.new.levels c.args.g c.args.h o.child o.left o.right c.items_before-before.result c.items_behind-behind.result c.in-Ok-meet_item.middle c.in-Ok-both.front c.in-Ok-both-2.back _ _ _ c.in-Ok.span o.span.now
    sound c.in-Some.ensures.left c.in-Some.ensures.right c.items_before-before.ensures.lent c.items_behind-behind.ensures.lent side_l side_r c.in-Some.ensures.level c.in-Ok.ensures
    one.keeps.adds.step c.in-Ok-meet_item.ensures.level two.keeps.adds.step c.in-Ok-both.ensures.level c.in-Ok-both-2.ensures.ok.keeps.adds.step c.in-Ok-both-2.ensures.level in
    let is = ap level_size three.is in
    omega (arith, is, c.in-Err-glue_three.ensures.over e)

pub walk-returns-in-Ok-glue_three-clause-ok : goal.walk-returns-in-Ok-glue_three-clause-ok
walk-returns-in-Ok-glue_three-clause-ok t c =
    let o = c.in-Some.seen in
    let a = c.args.levels.now in
    let sound = c.requires.ready.owns.sound in
    let one = c.in-Ok-meet_item.ensures.ok in
    let two = c.in-Ok-both.ensures.ok in
    let less = smaller _ _ _ _ o.span.now c.in-Some.ensures.level in
    let side_l = front_side (level_of a c.args.g) (level_of a o.left) c.in-Ok.span o.span.now (level_of a o.child) (level_of a o.right) (level_of a c.args.h) (level_of a c.items_before-before.result) c.in-Ok.ensures c.in-Some.ensures.level c.requires.fellows c.items_before-before.ensures.front in
    let side_r = back_side (level_of a c.args.g) (level_of a o.left) c.in-Ok.span o.span.now (level_of a o.child) (level_of a o.right) (level_of a c.args.h) (level_of a c.items_behind-behind.result) c.in-Ok.ensures c.in-Some.ensures.level c.requires.fellows c.items_behind-behind.ensures.back in
    let l1 = stays a _ _ sound one.keeps.adds.step o.left c.in-Some.ensures.left in
    let b1 = stays a _ _ sound one.keeps.adds.step c.items_before-before.result c.items_before-before.ensures.lent in
    let r2 = stays_two a _ _ _ _ sound one.keeps.adds.step two.keeps.adds.step o.right c.in-Some.ensures.right in
    let b2 = stays_two a _ _ _ _ sound one.keeps.adds.step two.keeps.adds.step c.items_behind-behind.result c.items_behind-behind.ensures.lent in
    meets_three _ _ _ _ _ _ _ _ _ _ _ _ _ _ _ _ _ c.requires.ready one two c.in-Ok-both-2.ensures.ok c.in-Ok-glue_three.ensures.ok
    (omega (arith, less.child)) (omega (arith, less.left, side_l.few, l1.size_same, b1.size_same)) (omega (arith, less.right, side_r.few, r2.size_same, b2.size_same))

pub walk-returns-clause-err : goal.walk-returns-clause-err
walk-returns-clause-err t c = adds_three _ _ _ _ _ _ _ _ _ _ _ _ _ _ _ c.in-Ok-meet_item.ensures.ok c.in-Ok-both.ensures.ok c.in-Ok-both-2.ensures.ok c.in-Err-glue_three.ensures.err

pub piece-returns-in-Err-clause-over : goal.piece-returns-in-Err-clause-over
piece-returns-in-Err-clause-over t c e =
    piece_over c.args.levels.now (Some c.args.c) c.args.d _ _ c.args.limit c.args.part c.in-Some.span c.requires.ready.owns.sound c.in-Some.is refl c.requires.c c.in-Some-d.is c.requires.d
    (subst (λ x. c.args.limit < level_size (both_level (level_of c.args.levels.now (Some c.args.c)) (level_of c.args.levels.now x))) (sym c.in-Some-d.is) (c.in-Err.ensures.over e))

pub piece-returns-in-Err-clause-err : goal.piece-returns-in-Err-clause-err
piece-returns-in-Err-clause-err t c = c.in-Err.ensures.err

pub piece-returns-in_default-child-clause-level : goal.piece-returns-in_default-child-clause-level
piece-returns-in_default-child-clause-level t c =
    piece_none c.args.levels.now c.meet_pair.new.levels (Some c.args.c) c.args.d c.in-Ok-meet_pair.child _ _ c.args.part c.in-Some.span c.requires.ready.owns.sound c.in-Some.is refl c.requires.c c.in-Some-d.is c.requires.d c.in_default-child.is
    (c.in-Ok-meet_pair.ensures.level ∙ ap (λ x. both_level (level_of c.args.levels.now (Some c.args.c)) (level_of c.args.levels.now x)) (sym c.in-Some-d.is))

pub piece-returns-in_default-child-clause-ok : goal.piece-returns-in_default-child-clause-ok
piece-returns-in_default-child-clause-ok t c =
    meets_absent _ _ _ _ _ _ c.in_default-child.is (subst (λ x. Meets (sizes_of c.args.levels.now (Some c.args.c) x + 1) c.args.levels.now c.meet_pair.new.levels c.args.memory.now c.meet_pair.new.memory (c.in-Ok-meet_pair.child ∷ [])) (sym c.in-Some-d.is) c.in-Ok-meet_pair.ensures.ok)

pub piece-returns-clause-level : goal.piece-returns-clause-level
piece-returns-clause-level t c =
    c.in_Ok-whole.ensures.level
    ∙ piece_some c.args.levels.now c.meet_pair.new.levels (Some c.args.c) c.args.d c.in-Ok-meet_pair.child _ _ _ _ c.args.part c.in-Some.span c.requires.ready.owns.sound c.in-Some.is refl c.requires.c c.in-Some-d.is c.requires.d c.in-Some-child.is c.in-Ok-meet_pair.ensures.ok.keeps.adds.step
    (c.in-Ok-meet_pair.ensures.level ∙ ap (λ x. both_level (level_of c.args.levels.now (Some c.args.c)) (level_of c.args.levels.now x)) (sym c.in-Some-d.is))

pub piece-returns-clause-ok : goal.piece-returns-clause-ok
piece-returns-clause-ok t c =
    meets_spent _ _ _ _ _ _ _ _ _ _ c.requires.ready (subst (λ x. Meets (sizes_of c.args.levels.now (Some c.args.c) x + 1) c.args.levels.now c.meet_pair.new.levels c.args.memory.now c.meet_pair.new.memory (c.in-Ok-meet_pair.child ∷ [])) (sym c.in-Some-d.is) c.in-Ok-meet_pair.ensures.ok)
    c.in_Ok-whole.ensures.ok (λ m. omega arith) (λ m. omega arith)

pub meet_once-returns-clause-ok : goal.meet_once-returns-clause-ok
meet_once-returns-clause-ok t c = meets_given _ _ _ _ _ c.requires.ready c.in-Ok-hold.ensures.ok

pub meet_once-hold-requires : goal.meet_once-hold-requires
meet_once-hold-requires t c = known_lent IsMet _ _ c.args.c c.args.d c.in-Some.known c.requires.ready c.in-Some.ensures.some

pub meet_once-returns-clause-level : goal.meet_once-returns-clause-level
meet_once-returns-clause-level t c = met_before c.args.levels.now c.hold.new.self c.args.memory.now c.args.c c.args.d c.in-Some.known c.requires.ready c.in-Some.ensures.some c.in-Ok-hold.ensures.ok

pub meet_pair-meet_once-requires-then-d-c : goal.meet_pair-meet_once-requires-then-d-c
meet_pair-meet_once-requires-then-d-c t c =
    (omega (arith, c.decreases), (c.requires.ready, (c.requires.d, (c.requires.c, turned (level_of c.args.levels.now (Some c.args.c)) (level_of c.args.levels.now (Some c.args.d)) c.requires.fellows))))

pub both-returns-in-Ok-clause-ok : goal.both-returns-in-Ok-clause-ok
both-returns-in-Ok-clause-ok t c = meets_given _ _ _ _ _ c.requires.ready c.in-Ok.ensures.ok

pub both-walk-requires : goal.both-walk-requires
both-walk-requires t c =
    (omega (arith, c.decreases), (c.requires.ready, (c.requires.h, (c.requires.g, turned (level_of c.args.levels.now c.args.g) (level_of c.args.levels.now c.args.h) c.requires.fellows))))

pub both-returns-in-Ok-clause-level : goal.both-returns-in-Ok-clause-level
both-returns-in-Ok-clause-level t c =
    c.in-Ok.ensures.level ∙ both_one _ _ (ap (level_of c.args.levels.now) (c.is_same_link.ensures c.if-is_same_link.true)) c.requires.fellows

pub both-returns-in-Err-clause-over : goal.both-returns-in-Err-clause-over
both-returns-in-Err-clause-over t c e =
    let one = ap level_size (both_one _ _ (ap (level_of c.args.levels.now) (c.is_same_link.ensures c.if-is_same_link.true)) c.requires.fellows) in
    omega (arith, one, c.in-Err.ensures.over e)

pub both-returns-in-Ok-walk-clause-level : goal.both-returns-in-Ok-walk-clause-level
both-returns-in-Ok-walk-clause-level t c =
    c.in-Ok-walk.ensures.level ∙ both_turn (level_of c.args.levels.now c.args.g) (level_of c.args.levels.now c.args.h) c.requires.fellows

pub both-returns-in-Ok-walk-clause-ok : goal.both-returns-in-Ok-walk-clause-ok
both-returns-in-Ok-walk-clause-ok t c = meets_more _ _ _ _ _ _ _ (omega arith) c.in-Ok-walk.ensures.ok

pub both-returns-in-Err-walk-clause-over : goal.both-returns-in-Err-walk-clause-over
both-returns-in-Err-walk-clause-over t c e =
    let turn = ap level_size (both_turn (level_of c.args.levels.now c.args.g) (level_of c.args.levels.now c.args.h) c.requires.fellows) in
    omega (arith, turn, c.in-Err-walk.ensures.over e)

pub meet_once-remember-requires-clause-made : goal.meet_once-remember-requires-clause-made
meet_once-remember-requires-clause-made t c = owned_lent c.both.new.levels (c.in-Ok.whole ∷ []) c.in-Ok.whole (adds_owned c.args.levels.now c.both.new.levels c.args.memory.now c.both.new.memory (c.in-Ok.whole ∷ []) (c.in-Ok.whole ∷ []) c.in-Ok.ensures.ok.keeps.adds (λ m. omega arith)) (λ m. omega arith)

pub meet_once-remember-requires-clause-first : goal.meet_once-remember-requires-clause-first
meet_once-remember-requires-clause-first t c =
    let a = c.args.levels.now in
    let sound = c.requires.ready.owns.sound in
    let one = c.in-Ok.ensures.ok in
    let first = stays a _ _ sound one.keeps.adds.step (Some c.args.c) c.requires.c in
    let second = stays a _ _ sound one.keeps.adds.step (Some c.args.d) c.requires.d in
    first.lent

pub meet_once-remember-requires-clause-second : goal.meet_once-remember-requires-clause-second
meet_once-remember-requires-clause-second t c =
    let a = c.args.levels.now in
    let sound = c.requires.ready.owns.sound in
    let one = c.in-Ok.ensures.ok in
    let first = stays a _ _ sound one.keeps.adds.step (Some c.args.c) c.requires.c in
    let second = stays a _ _ sound one.keeps.adds.step (Some c.args.d) c.requires.d in
    second.lent

pub meet_once-remember-requires-clause-lacks : goal.meet_once-remember-requires-clause-lacks
meet_once-remember-requires-clause-lacks t c =
    let a = c.args.levels.now in
    let sound = c.requires.ready.owns.sound in
    let one = c.in-Ok.ensures.ok in
    let first = stays a _ _ sound one.keeps.adds.step (Some c.args.c) c.requires.c in
    let second = stays a _ _ sound one.keeps.adds.step (Some c.args.d) c.requires.d in
    not_met_yet _ a _ _ _ c.args.c c.args.d _ one c.in_default.ensures.none (omega (arith, first.size_same, second.size_same))

pub meet_once-returns-in_default-clause-ok : goal.meet_once-returns-in_default-clause-ok
meet_once-returns-in_default-clause-ok t c =
    let a = c.args.levels.now in
    let sound = c.requires.ready.owns.sound in
    let one = c.in-Ok.ensures.ok in
    let first = stays a _ _ sound one.keeps.adds.step (Some c.args.c) c.requires.c in
    let second = stays a _ _ sound one.keeps.adds.step (Some c.args.d) c.requires.d in
    meets_remembered _ a c.both.new.levels c.remember.new.levels _ _ _ c.args.c c.args.d c.in-Ok.whole c.requires.ready one c.in-Ok-remember.ensures.ok c.in-Ok-remember.ensures.noted
    (c.in-Ok.ensures.level ∙ sym (both_later a c.both.new.levels (Some c.args.c) (Some c.args.d) first second)) first.lent second.lent
    (owned_lent c.both.new.levels (c.in-Ok.whole ∷ []) c.in-Ok.whole (adds_owned a c.both.new.levels c.args.memory.now c.both.new.memory (c.in-Ok.whole ∷ []) (c.in-Ok.whole ∷ []) one.keeps.adds (λ m. omega arith)) (λ m. omega arith))
    (omega (arith, first.size_same, second.size_same))

pub meet_pair-returns-in-Ok-meet_once-clause-level : goal.meet_pair-returns-in-Ok-meet_once-clause-level
meet_pair-returns-in-Ok-meet_once-clause-level t c =
    c.in-Ok-meet_once.ensures.level ∙ both_turn (level_of c.args.levels.now (Some c.args.c)) (level_of c.args.levels.now (Some c.args.d)) c.requires.fellows

pub meet_pair-returns-in-Err-meet_once-clause-over : goal.meet_pair-returns-in-Err-meet_once-clause-over
meet_pair-returns-in-Err-meet_once-clause-over t c e =
    let turn = ap level_size (both_turn (level_of c.args.levels.now (Some c.args.c)) (level_of c.args.levels.now (Some c.args.d)) c.requires.fellows) in
    omega (arith, turn, c.in-Err-meet_once.ensures.over e)

pub meet_pair-returns-in-Ok-hold_within-clause-ok : goal.meet_pair-returns-in-Ok-hold_within-clause-ok
meet_pair-returns-in-Ok-hold_within-clause-ok t c = meets_given _ _ _ _ _ c.requires.ready c.in-Ok-hold_within.ensures.ok

pub meet_pair-returns-in-Ok-hold_within-clause-level : goal.meet_pair-returns-in-Ok-hold_within-clause-level
meet_pair-returns-in-Ok-hold_within-clause-level t c =
    let same = both_one (level_of c.args.levels.now (Some c.args.c)) (level_of c.args.levels.now (Some c.args.d)) (ap (λ k. level_of c.args.levels.now (Some k)) (omega (arith, c.if-c-d.false, c.if-d-c.false))) c.requires.fellows in
    c.in-Ok-hold_within.ensures.level ∙ same

pub meet_pair-returns-in-Err-hold_within-clause-over : goal.meet_pair-returns-in-Err-hold_within-clause-over
meet_pair-returns-in-Err-hold_within-clause-over t c e =
    let same = both_one (level_of c.args.levels.now (Some c.args.c)) (level_of c.args.levels.now (Some c.args.d)) (ap (λ k. level_of c.args.levels.now (Some k)) (omega (arith, c.if-c-d.false, c.if-d-c.false))) c.requires.fellows in
    omega (arith, ap level_size same, c.in-Err-hold_within.ensures.over e)

pub piece-returns-in_default-d-clause-ok : goal.piece-returns-in_default-d-clause-ok
piece-returns-in_default-d-clause-ok t c = meets_given _ _ _ _ _ c.requires.ready c.in-Ok.ensures.ok
