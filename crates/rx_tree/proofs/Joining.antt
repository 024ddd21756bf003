-- A level that is taken apart at an item, and what each part holds.
use Rattle.std.proofs.Common.{◌≡◌, ◌&&◌, ◌||◌, ◌+◌, Bool, false, List, ◌∷◌, Option, Some, None, refl, ap, ap₂, sym, ◌∙◌, arith}
use Rattle.std.proofs.Math.Bool.{or_assoc, or-false}
use Rattle.rx_value.specs.declared.order.End.{End}
use Rattle.rx_value.specs.declared.order.Span.{Span}
use Rattle.rx_value.specs.Spans.{IsAtMost, IsBelow, is_inside, meet_span}
use Rattle.rx_value.proofs.Ends.{at_most-same, at_most-trans, below-at_most}
use Rattle.rx_value.proofs.Meeting.{outside_above}
use Rattle.rx_tree.specs.Tree.{Level, level_size}
use Rattle.rx_tree.specs.Tree.Level.{end, item}
use Rattle.rx_tree.specs.Member.{level_holds, child_holds}
use Rattle.rx_tree.specs.Canonical.{BeginsFrom, Differs, ArePlaced}
use Rattle.rx_tree.specs.Weld.{weld, glue, EndsBy}
use Rattle.rx_tree.specs.Meet.{put_piece, piece_of, Piece, meet_child, across, both}
use Rattle.rx_tree.specs.Join.{join_level, length_of}
use Rattle.rx_tree.proofs.Places.{nothing_before, held_inside}
use Rattle.rx_tree.proofs.Welding.{weld_apart, glue-weld, glue_assoc}

-- levels one after another hold what either holds
pub holds-join : (a b : Level) (p : End) (ps : List End) → level_holds (join_level a b) (p ∷ ps) ≡ (level_holds a (p ∷ ps) || level_holds b (p ∷ ps))
holds-join end b p ps = refl
holds-join (item s c rest) b p ps =
    ap (λ x. (is_inside s p && child_holds c ps) || x) (holds-join rest b p ps)
    ∙ sym (or_assoc (is_inside s p && child_holds c ps) (level_holds rest (p ∷ ps)) (level_holds b (p ∷ ps)))

pub size-join : (a b : Level) → level_size (join_level a b) ≡ level_size a + level_size b
size-join end b = omega arith
size-join (item s c rest) b = let e = size-join rest b in omega (arith, e)

pub length-join : (a b : Level) → length_of (join_level a b) ≡ length_of a + length_of b
length-join end b = omega arith
length-join (item s c rest) b = let e = length-join rest b in omega (arith, e)

-- a level in place, taken apart at one of its items
pub record Parted (n : Bool) (ns : List Bool) (l : Level) (s : Span) (c r : Level) : Type 0 where
  pub left : ArePlaced (n ∷ ns) l
  pub on : ArePlaced (n ∷ ns) (item s c r)
  pub ends : EndsBy s.lo l

pub ends_later : (e f : End) (l : Level) → IsAtMost e f → EndsBy e l → EndsBy f l
ends_later e f end low by = tt
ends_later e f (item s c rest) low by = (at_most-trans s.hi e f by.0 low, ends_later e f rest low by.1)

pub begins_first : (e : End) (a : Level) (s : Span) (c r : Level) → BeginsFrom e (join_level a (item s c r)) → BeginsFrom e a
begins_first e end s c r begins = tt
begins_first e (item t d rest) s c r begins = begins

differs_first : (t : Span) (d a : Level) (s : Span) (c r : Level) → Differs t d (join_level a (item s c r)) → Differs t d a
differs_first t d end s c r differs = tt
differs_first t d (item u e rest) s c r differs = differs

-- the item that stands behind others begins from where they do
pub begins_behind : (n : Bool) (ns : List Bool) (e : End) (a : Level) (s : Span) (c r : Level) → ArePlaced (n ∷ ns) (join_level a (item s c r)) → BeginsFrom e (join_level a (item s c r)) → IsAtMost e s.lo
begins_behind n ns e end s c r placed begins = begins
begins_behind n ns e (item t d rest) s c r placed begins =
    at_most-trans e t.hi s.lo (at_most-trans e t.lo t.hi begins (below-at_most t.lo t.hi placed.0.span)) (begins_behind n ns t.hi rest s c r placed.3 placed.0.rises)

pub parted : (n : Bool) (ns : List Bool) (l : Level) (s : Span) (c r : Level) → ArePlaced (n ∷ ns) (join_level l (item s c r)) → Parted n ns l s c r
parted n ns end s c r placed = record { left = tt; on = placed; ends = tt }
parted n ns (item t d rest) s c r placed =
    let after = parted n ns rest s c r placed.3 in
    record {
      left = (
        record { span = placed.0.span; from = placed.0.from; rises = begins_first t.hi rest s c r placed.0.rises; differs = differs_first t d rest s c r placed.0.differs },
        placed.1,
        placed.2,
        after.left,
      );
      on = after.on;
      ends = (begins_behind n ns t.hi rest s c r placed.3 placed.0.rises, after.ends);
    }

-- nothing is held behind the last item
pub nothing_after : (e p : End) (ps : List End) (l : Level) → EndsBy e l → IsAtMost e p → level_holds l (p ∷ ps) ≡ false
nothing_after e p ps end by low = refl
nothing_after e p ps (item s c rest) by low =
    rw (outside_above s p (at_most-trans s.hi e p by.0 low)) (nothing_after e p ps rest by.1 low)

-- below an item the level before it decides
pub held_left : (n : Bool) (ns : List Bool) (l : Level) (s : Span) (c r : Level) (p : End) (ps : List End) → ArePlaced (n ∷ ns) (join_level l (item s c r)) → IsBelow p s.lo → level_holds (join_level l (item s c r)) (p ∷ ps) ≡ level_holds l (p ∷ ps)
held_left n ns l s c r p ps placed low =
    let x = parted n ns l s c r placed in
    holds-join l (item s c r) p ps
    ∙ ap (λ y. level_holds l (p ∷ ps) || y) (nothing_before n ns (item s c r) s.lo p ps x.on (at_most-same s.lo) low)
    ∙ or-false (level_holds l (p ∷ ps))

-- in its span its child does
pub held_middle : (n : Bool) (ns : List Bool) (l : Level) (s : Span) (c r : Level) (p : End) (ps : List End) → ArePlaced (n ∷ ns) (join_level l (item s c r)) → IsAtMost s.lo p → IsBelow p s.hi → level_holds (join_level l (item s c r)) (p ∷ ps) ≡ child_holds c ps
held_middle n ns l s c r p ps placed from to =
    let x = parted n ns l s c r placed in
    holds-join l (item s c r) p ps
    ∙ ap₂ (λ y z. y || z) (nothing_after s.lo p ps l x.ends from) (held_inside n ns s c r p ps x.on from to)

-- and behind it the level after it
pub held_right : (n : Bool) (ns : List Bool) (l : Level) (s : Span) (c r : Level) (p : End) (ps : List End) → ArePlaced (n ∷ ns) (join_level l (item s c r)) → IsAtMost s.hi p → level_holds (join_level l (item s c r)) (p ∷ ps) ≡ level_holds r (p ∷ ps)
held_right n ns l s c r p ps placed past =
    let x = parted n ns l s c r placed in
    let from = at_most-trans s.lo s.hi p (below-at_most s.lo s.hi x.on.0.span) past in
    holds-join l (item s c r) p ps
    ∙ ap₂ (λ y z. y || ((z && child_holds c ps) || level_holds r (p ∷ ps))) (nothing_after s.lo p ps l x.ends from) (outside_above s p past)

-- levels that are in place one after the other are glued by joining them
pub glue-join : (n : Bool) (ns : List Bool) (a b : Level) → ArePlaced (n ∷ ns) (join_level a b) → glue a b ≡ join_level a b
glue-join n ns end b placed = refl
glue-join n ns (item s c rest) b placed =
    ap (weld s c) (glue-join n ns rest b placed.3) ∙ weld_apart s c (join_level rest b) placed.0.differs

put-glue : (p : Option Piece) (a b : Level) → put_piece p (glue a b) ≡ glue (put_piece p a) b
put-glue None a b = refl
put-glue (Some p) a b = sym (glue-weld p.span p.below a b)

-- what an item has in common with levels one after another
pub across-join : (f : Level → Level) (c : Level) (s : Span) (a b : Level) → across f c s (join_level a b) ≡ glue (across f c s a) (across f c s b)
across-join f c s end b = refl
across-join f c s (item t d rest) b =
    ap (put_piece (piece_of (meet_span s t) (meet_child f c d))) (across-join f c s rest b)
    ∙ put-glue (piece_of (meet_span s t) (meet_child f c d)) (across f c s rest) (across f c s b)

-- what levels one after another have in common with a level
pub both-join : (a b h : Level) → both (join_level a b) h ≡ glue (both a h) (both b h)
both-join end b h = refl
both-join (item s c rest) b h =
    ap (glue (across (both c) c s h)) (both-join rest b h)
    ∙ sym (glue_assoc (across (both c) c s h) (both rest h) (both b h))
