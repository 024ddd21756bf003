-- An item laid over a level: items stay in their places, and what the item or the level holds is held.
use Rattle.std.proofs.Common.{◌≡◌, ◌&&◌, ◌||◌, Bool, true, false, not, List, ◌∷◌, Some, None, refl, ap, ap₂, sym, ◌∙◌}
use Rattle.std.specs.declared.cmp.Ordering.{Ordering}
use Rattle.std.specs.declared.cmp.Ordering.TheVariants.{Less, Equal, Greater}
use Rattle.rx_value.specs.declared.order.End.{End}
use Rattle.rx_value.specs.declared.order.Span.{Span}
use Rattle.rx_value.specs.Order.{end_cmp, is_at_most}
use Rattle.rx_value.specs.Spans.{IsAtMost, IsBelow, IsSpan, is_inside, later, earlier, first_end}
use Rattle.rx_value.proofs.Ends.{at_most-same, at_most-trans, below-at_most, below-from_less, at_most-from_equal, at_most-from_greater, end_cmp-equal}
use Rattle.rx_tree.specs.Tree.{Level}
use Rattle.rx_tree.specs.Member.{level_holds, child_holds}
use Rattle.rx_tree.specs.Canonical.{BeginsFrom, ArePlaced}
use Rattle.rx_tree.specs.Meet.{piece_of, put_piece}
use Rattle.rx_tree.specs.Union.{piece_between, overlaid}
use Rattle.rx_value.proofs.Meeting.{later_at_most, earlier_at_most}
use Rattle.rx_tree.proofs.Bools.{spans_over, and_parts, no_gap}
use Rattle.rx_tree.proofs.Welding.{Fits, weld_placed, weld_begins, weld_holds, begins_later}
use Rattle.rx_tree.proofs.Intersection.{IsChild}

-- What may stand between two ends before a level.
pub record MayStand (n : Bool) (ns : List Bool) (lo hi : End) (c rest : Level) : Type 0 where
  pub from : IsAtMost (first_end n) lo
  pub rises : BeginsFrom hi rest
  pub child : IsChild ns c
  pub after : ArePlaced (n ∷ ns) rest

may_fit : (n : Bool) (ns : List Bool) (lo hi : End) (c rest : Level) → MayStand n ns lo hi c rest → IsBelow lo hi → Fits n ns (record { lo = lo; hi = hi }) c rest
may_fit n ns lo hi c rest m low = record { span = low; from = m.from; rises = m.rises; not_all = m.child.not_all; child = m.child.placed; after = m.after }

abbrev put_at : End → End → Level → Level → Ordering → Level
put_at lo hi c rest o = put_piece (piece_of (elim o [ Less ↦ Some (record { lo = lo; hi = hi }) | _ ↦ None ]) (Some c)) rest

placed_by : (n : Bool) (ns : List Bool) (lo hi : End) (c rest : Level) (o : Ordering) → end_cmp lo hi ≡ o → MayStand n ns lo hi c rest → ArePlaced (n ∷ ns) (put_at lo hi c rest o)
placed_by n ns lo hi c rest Less e m = weld_placed n ns (record { lo = lo; hi = hi }) c rest (may_fit n ns lo hi c rest m (below-from_less lo hi e))
placed_by n ns lo hi c rest Equal e m = m.after
placed_by n ns lo hi c rest Greater e m = m.after

pub between_placed : (n : Bool) (ns : List Bool) (lo hi : End) (c rest : Level) → MayStand n ns lo hi c rest → ArePlaced (n ∷ ns) (piece_between lo hi c rest)
between_placed n ns lo hi c rest m = placed_by n ns lo hi c rest (end_cmp lo hi) refl m

begins_by : (e lo hi : End) (c rest : Level) (o : Ordering) → IsAtMost e lo → BeginsFrom e rest → BeginsFrom e (put_at lo hi c rest o)
begins_by e lo hi c rest Less from later = weld_begins e (record { lo = lo; hi = hi }) c rest from
begins_by e lo hi c rest Equal from later = later
begins_by e lo hi c rest Greater from later = later

pub between_begins : (e lo hi : End) (c rest : Level) → IsAtMost e lo → BeginsFrom e rest → BeginsFrom e (piece_between lo hi c rest)
between_begins e lo hi c rest from later = begins_by e lo hi c rest (end_cmp lo hi) from later

holds_by : (n : Bool) (ns : List Bool) (lo hi : End) (c rest : Level) (p : End) (ps : List End) (o : Ordering) → end_cmp lo hi ≡ o → MayStand n ns lo hi c rest
    → level_holds (put_at lo hi c rest o) (p ∷ ps) ≡ (((is_at_most lo p && not (is_at_most hi p)) && child_holds c ps) || level_holds rest (p ∷ ps))
holds_by n ns lo hi c rest p ps Less e m = weld_holds n ns (record { lo = lo; hi = hi }) c rest p ps (may_fit n ns lo hi c rest m (below-from_less lo hi e))
holds_by n ns lo hi c rest p ps Equal e m =
    ap (λ x. (x && child_holds c ps) || level_holds rest (p ∷ ps))
    (sym (no_gap (is_at_most lo p) (is_at_most hi p) (λ h. at_most-trans hi lo p (at_most-from_equal hi lo (sym (end_cmp-equal lo hi e))) h)))
holds_by n ns lo hi c rest p ps Greater e m =
    ap (λ x. (x && child_holds c ps) || level_holds rest (p ∷ ps))
    (sym (no_gap (is_at_most lo p) (is_at_most hi p) (λ h. at_most-trans hi lo p (at_most-from_greater lo hi e) h)))

pub between_holds : (n : Bool) (ns : List Bool) (lo hi : End) (c rest : Level) (p : End) (ps : List End) → MayStand n ns lo hi c rest
    → level_holds (piece_between lo hi c rest) (p ∷ ps) ≡ (((is_at_most lo p && not (is_at_most hi p)) && child_holds c ps) || level_holds rest (p ∷ ps))
between_holds n ns lo hi c rest p ps m = holds_by n ns lo hi c rest p ps (end_cmp lo hi) refl m

-- two spans that overlap, over children that may stand in a level
pub record Overlap (n : Bool) (ns : List Bool) (s t : Span) (c d : Level) : Type 0 where
  pub first : IsSpan s
  pub second : IsSpan t
  pub reaches : IsBelow s.lo t.hi
  pub reached : IsBelow t.lo s.hi
  pub from : IsAtMost (first_end n) s.lo
  pub from_second : IsAtMost (first_end n) t.lo
  pub child : IsChild ns c
  pub below : IsChild ns d

-- a level in place that begins from an end
pub record Stands (n : Bool) (ns : List Bool) (e : End) (l : Level) : Type 0 where
  pub placed : ArePlaced (n ∷ ns) l
  pub begins : BeginsFrom e l

later_first : (a b : End) → IsAtMost a (later a b)
later_first a b = (and_parts (is_at_most a (later a b)) (is_at_most b (later a b)) (sym (later_at_most a b (later a b)) ∙ at_most-same (later a b))).0

later_second : (a b : End) → IsAtMost b (later a b)
later_second a b = (and_parts (is_at_most a (later a b)) (is_at_most b (later a b)) (sym (later_at_most a b (later a b)) ∙ at_most-same (later a b))).1

or_right : (a b : Bool) → b ≡ true → (a || b) ≡ true
or_right true b e = refl
or_right false b e = e

earlier_first : (a b : End) → IsAtMost (earlier a b) a
earlier_first a b = earlier_at_most a b a ∙ ap (λ x. x || is_at_most b a) (at_most-same a)

earlier_second : (a b : End) → IsAtMost (earlier a b) b
earlier_second a b = earlier_at_most a b b ∙ or_right (is_at_most a b) (is_at_most b b) (at_most-same b)

behind_stands : (n : Bool) (ns : List Bool) (s t : Span) (c d rest : Level) → Overlap n ns s t c d → Stands n ns t.hi rest → MayStand n ns s.hi t.hi d rest
behind_stands n ns s t c d rest o r = record {
  from = at_most-trans (first_end n) s.lo s.hi o.from (below-at_most s.lo s.hi o.first);
  rises = r.begins;
  child = o.below;
  after = r.placed;
}

-- the part that the second span has alone behind the first
abbrev pub behind : Span → Span → Level → Level → Level
behind s t d rest = piece_between s.hi t.hi d rest

behind_begins : (n : Bool) (ns : List Bool) (s t : Span) (d rest : Level) → Stands n ns t.hi rest → BeginsFrom (earlier s.hi t.hi) (behind s t d rest)
behind_begins n ns s t d rest r =
    between_begins (earlier s.hi t.hi) s.hi t.hi d rest (earlier_first s.hi t.hi)
    (begins_later (earlier s.hi t.hi) t.hi rest (earlier_second s.hi t.hi) r.begins)

middle_stands : (n : Bool) (ns : List Bool) (s t : Span) (c d e rest : Level) → Overlap n ns s t c d → IsChild ns e → Stands n ns t.hi rest → MayStand n ns (later s.lo t.lo) (earlier s.hi t.hi) e (behind s t d rest)
middle_stands n ns s t c d e rest o child r = record {
  from = at_most-trans (first_end n) s.lo (later s.lo t.lo) o.from (later_first s.lo t.lo);
  rises = behind_begins n ns s t d rest r;
  child = child;
  after = between_placed n ns s.hi t.hi d rest (behind_stands n ns s t c d rest o r);
}

-- the part that both spans have, and what follows
abbrev pub middle : Span → Span → Level → Level → Level → Level
middle s t d e rest = piece_between (later s.lo t.lo) (earlier s.hi t.hi) e (behind s t d rest)

-- each of these ends is at most where the parts of both begin and end
middle_begins : (n : Bool) (ns : List Bool) (low : End) (s t : Span) (d e rest : Level) → IsAtMost low (later s.lo t.lo) → IsAtMost low (earlier s.hi t.hi) → Stands n ns t.hi rest → BeginsFrom low (middle s t d e rest)
middle_begins n ns low s t d e rest from to r =
    between_begins low (later s.lo t.lo) (earlier s.hi t.hi) e (behind s t d rest) from
    (begins_later low (earlier s.hi t.hi) (behind s t d rest) to (behind_begins n ns s t d rest r))

earlier_above : (e a b : End) → IsAtMost e a → IsAtMost e b → (o : Ordering) → IsAtMost e (elim o [ Greater ↦ b | _ ↦ a ])
earlier_above e a b f g Less = f
earlier_above e a b f g Equal = f
earlier_above e a b f g Greater = g

-- both lower ends are below both upper ones
first_low : (n : Bool) (ns : List Bool) (s t : Span) (c d : Level) → Overlap n ns s t c d → IsAtMost s.lo (earlier s.hi t.hi)
first_low n ns s t c d o = earlier_above s.lo s.hi t.hi (below-at_most s.lo s.hi o.first) (below-at_most s.lo t.hi o.reaches) (end_cmp s.hi t.hi)

second_low : (n : Bool) (ns : List Bool) (s t : Span) (c d : Level) → Overlap n ns s t c d → IsAtMost t.lo (earlier s.hi t.hi)
second_low n ns s t c d o = earlier_above t.lo s.hi t.hi (below-at_most t.lo s.hi o.reached) (below-at_most t.lo t.hi o.second) (end_cmp s.hi t.hi)

second_stands : (n : Bool) (ns : List Bool) (s t : Span) (c d e rest : Level) → Overlap n ns s t c d → IsChild ns e → Stands n ns t.hi rest → MayStand n ns t.lo s.lo d (middle s t d e rest)
second_stands n ns s t c d e rest o child r = record {
  from = o.from_second;
  rises = middle_begins n ns s.lo s t d e rest (later_first s.lo t.lo) (first_low n ns s t c d o) r;
  child = o.below;
  after = between_placed n ns (later s.lo t.lo) (earlier s.hi t.hi) e (behind s t d rest) (middle_stands n ns s t c d e rest o child r);
}

first_stands : (n : Bool) (ns : List Bool) (s t : Span) (c d e rest : Level) → Overlap n ns s t c d → IsChild ns e → Stands n ns t.hi rest → MayStand n ns s.lo t.lo c (piece_between t.lo s.lo d (middle s t d e rest))
first_stands n ns s t c d e rest o child r = record {
  from = o.from;
  rises = between_begins t.lo t.lo s.lo d (middle s t d e rest) (at_most-same t.lo)
      (middle_begins n ns t.lo s t d e rest (later_second s.lo t.lo) (second_low n ns s t c d o) r);
  child = o.child;
  after = between_placed n ns t.lo s.lo d (middle s t d e rest) (second_stands n ns s t c d e rest o child r);
}

-- the parts of two spans that overlap are in place
pub overlaid_placed : (f : Level → Level → Level) (n : Bool) (ns : List Bool) (s t : Span) (c d rest : Level) → Overlap n ns s t c d → IsChild ns (f c d) → Stands n ns t.hi rest → ArePlaced (n ∷ ns) (overlaid f s c t d rest)
overlaid_placed f n ns s t c d rest o child r =
    between_placed n ns s.lo t.lo c (piece_between t.lo s.lo d (middle s t d (f c d) rest)) (first_stands n ns s t c d (f c d) rest o child r)

-- they begin where either begins
pub overlaid_begins : (f : Level → Level → Level) (n : Bool) (ns : List Bool) (e : End) (s t : Span) (c d rest : Level) → Overlap n ns s t c d → Stands n ns t.hi rest → IsAtMost e s.lo → IsAtMost e t.lo → BeginsFrom e (overlaid f s c t d rest)
overlaid_begins f n ns e s t c d rest o r from on =
    between_begins e s.lo t.lo c (piece_between t.lo s.lo d (middle s t d (f c d) rest)) from
    (between_begins e t.lo s.lo d (middle s t d (f c d) rest) on
    (middle_begins n ns e s t d (f c d) rest
    (at_most-trans e s.lo (later s.lo t.lo) from (later_first s.lo t.lo))
    (at_most-trans e s.lo (earlier s.hi t.hi) from (first_low n ns s t c d o)) r))

-- what follows two spans that overlap holds this much more than the items after the second
abbrev pub beyond : Span → Span → Level → Level → End → List End → Bool
beyond s t c rest p ps = ((is_at_most t.hi p && not (is_at_most s.hi p)) && child_holds c ps) || level_holds rest (p ∷ ps)

-- the parts of two spans hold what either holds, where what follows holds what the first has beyond the second
pub overlaid_holds : (f : Level → Level → Level) (n : Bool) (ns : List Bool) (s t : Span) (c d rest more : Level) (p : End) (ps : List End) → Overlap n ns s t c d → IsChild ns (f c d) → Stands n ns t.hi rest
    → child_holds (f c d) ps ≡ (child_holds c ps || child_holds d ps)
    → level_holds rest (p ∷ ps) ≡ beyond s t c more p ps
    → level_holds (overlaid f s c t d rest) (p ∷ ps) ≡ ((is_inside s p && child_holds c ps) || ((is_inside t p && child_holds d ps) || level_holds more (p ∷ ps)))
overlaid_holds f n ns s t c d rest more p ps o child r both after =
    let a = is_at_most s.lo p in
    let b = is_at_most t.lo p in
    let x = is_at_most s.hi p in
    let y = is_at_most t.hi p in
    let C = child_holds c ps in
    let D = child_holds d ps in
    between_holds n ns s.lo t.lo c (piece_between t.lo s.lo d (middle s t d (f c d) rest)) p ps (first_stands n ns s t c d (f c d) rest o child r)
    ∙ ap (λ z. ((a && not b) && C) || z) (between_holds n ns t.lo s.lo d (middle s t d (f c d) rest) p ps (second_stands n ns s t c d (f c d) rest o child r))
    ∙ ap (λ z. ((a && not b) && C) || (((b && not a) && D) || z))
    (between_holds n ns (later s.lo t.lo) (earlier s.hi t.hi) (f c d) (behind s t d rest) p ps (middle_stands n ns s t c d (f c d) rest o child r)
    ∙ ap₂ (λ z w. (z && w) || level_holds (behind s t d rest) (p ∷ ps)) (ap₂ (λ z w. z && not w) (later_at_most s.lo t.lo p) (earlier_at_most s.hi t.hi p)) both
    ∙ ap (λ z. (((a && b) && not (x || y)) && (C || D)) || z) (between_holds n ns s.hi t.hi d rest p ps (behind_stands n ns s t c d rest o r) ∙ ap (λ z. ((x && not y) && D) || z) after))
    ∙ spans_over a b x y C D (level_holds more (p ∷ ps))
    (λ h. at_most-trans s.lo s.hi p (below-at_most s.lo s.hi o.first) h)
    (λ h. at_most-trans t.lo s.hi p (below-at_most t.lo s.hi o.reached) h)
    (λ h. at_most-trans s.lo t.hi p (below-at_most s.lo t.hi o.reaches) h)
    (λ h. at_most-trans t.lo t.hi p (below-at_most t.lo t.hi o.second) h)
