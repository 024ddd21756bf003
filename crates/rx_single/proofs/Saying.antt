-- What is said of the regions of one value, as spans, and what comparisons say of them.
use Rattle.std.proofs.Common.{arith, ◌≡◌, ◌&&◌, ◌||◌, Bool, true, false, not, List, [], ◌∷◌, ◌++◌, append_assoc, refl, ap, sym, ◌∙◌, subst}
use Rattle.std.specs.Prelude.{if◌then◌else◌}
use Rattle.std.proofs.Math.Bool.{or-false}
use Rattle.std.specs.Ordering.{is_eq, ordering_then}
use Rattle.std.specs.declared.cmp.Ordering.TheVariants.{Less, Equal, Greater}
use Rattle.rx_value.specs.declared.values.Value.{Value}
use Rattle.rx_value.specs.declared.values.Value.TheVariants.{Null, Int, Text}
use Rattle.rx_value.specs.declared.order.End.{End}
use Rattle.rx_value.specs.declared.order.End.TheVariants.{Last}
use Rattle.rx_value.specs.declared.order.Span.{Span}
use Rattle.rx_value.specs.Order.{is_at_most, below, above}
use Rattle.rx_value.specs.Spans.{IsAtMost, IsBelow, IsSpan, is_inside, first_end}
use Rattle.rx_value.specs.Keys.{point_span}
use Rattle.rx_value.proofs.Ends.{at_most-same, at_most-trans, below-at_most, least_end}
use Rattle.rx_value.proofs.Equal.{value_cmp-same}
use Rattle.rx_tree.specs.Member.{IsPosition}
use Rattle.rx_tree.specs.Points.{AreSpans, is_inside_any}
use Rattle.rx_spans.specs.Spans.{AreRising, AreApartFrom, AreUnited}
use Rattle.rx_cond.specs.Test.{is_null_value}
use Rattle.rx_single.specs.declared.regions.Flags.{Flags}
use Rattle.rx_single.specs.Single.{AreSpansOf, pick, says, listed, regions}

-- a list grows by what is listed
pub listed_more : (old : List Span) (x : Bool) (s : Span) (rest : List Span) → (old ++ listed x s []) ++ rest ≡ old ++ listed x s rest
listed_more old true s rest = append_assoc old (s ∷ []) rest
listed_more old false s rest = append_assoc old [] rest

-- a position is among listed spans
listed_holds : (x : Bool) (s : Span) (rest : List Span) (p : End) → is_inside_any (listed x s rest) p ≡ ((x && is_inside s p) || is_inside_any rest p)
listed_holds true s rest p = refl
listed_holds false s rest p = refl

-- spans that rise from another's begin rise from any end that isn't above
rising_from : (e f : End) (spans : List Span) → IsAtMost e f → AreRising f spans → AreRising e spans
rising_from e f [] low rising = tt
rising_from e f (s ∷ rest) low rising = (at_most-trans e f s.lo low rising.0, rising.1, rising.2)

listed_rises : (x : Bool) (e : End) (s : Span) (rest : List Span) → IsAtMost e s.lo → IsSpan s → AreRising s.lo rest → AreRising e (listed x s rest)
listed_rises true e s rest low span rising = (low, span, rising)
listed_rises false e s rest low span rising = rising_from e s.lo rest low rising

pub point_is_span : (v : Value) → IsSpan (point_span v)
point_is_span v = ap (λ o. elim (ordering_then o Greater) [ Greater ↦ false | _ ↦ true ]) (value_cmp-same v)

rising_not : (e : End) (x : Bool) (s : Span) (rest : List Span) → AreRising e rest → AreRising e (listed (x && false) s rest)
rising_not e true s rest rising = rising
rising_not e false s rest rising = rising

pub null_below : (v : Value) → is_null_value v ≡ false → IsBelow (above Null) (below v)
null_below Null e = absurd (cc e)
null_below (Int n) e = refl
null_below (Text t) e = refl

from_first : (nullable : Bool) (v : Value) → is_null_value v ≡ false → IsAtMost (first_end nullable) (above Null)
from_first true v e = refl
from_first false v e = refl

above_below : (v w : Value) → IsBelow (above v) (below w) → IsAtMost (above v) (below w)
above_below v w low = below-at_most (above v) (below w) low

regions_rise : (nullable : Bool) (v : Value) (f : Flags) → is_null_value v ≡ false → AreRising (first_end nullable) (regions nullable v f)
regions_rise true v f some =
    let gap = null_below v some in
    listed_rises (f.null && true) (below Null) (point_span Null) _ (at_most-same (below Null)) (point_is_span Null)
    (listed_rises f.low (below Null) (record { lo = above Null; hi = below v }) _ (least_end (above Null)) gap
    (listed_rises f.at (above Null) (point_span v) _ (above_below Null v gap) (point_is_span v)
    (listed_rises f.high (below v) (record { lo = above v; hi = Last }) [] (below-at_most (below v) (above v) (point_is_span v)) refl tt)))
regions_rise false v f some =
    let gap = null_below v some in
    rising_not (first_end false) f.null (point_span Null) _
    (listed_rises f.low (above Null) (record { lo = above Null; hi = below v }) _ (at_most-same (above Null)) gap
    (listed_rises f.at (above Null) (point_span v) _ (above_below Null v gap) (point_is_span v)
    (listed_rises f.high (below v) (record { lo = above v; hi = Last }) [] (below-at_most (below v) (above v) (point_is_span v)) refl tt)))

-- a position stands to NULL (z, a), to a value (b, c) and to the end of all (l), and a part may be NULL (n)
decided : (f : Flags) (n z a b c l : Bool) → z ≡ true → l ≡ false → (b ≡ true → a ≡ true) → (c ≡ true → b ≡ true) → (n ≡ false → a ≡ true)
    → (((f.null && n) && (z && not a)) || ((f.low && (a && not b)) || ((f.at && (b && not c)) || ((f.high && (c && not l)) || false))))
    ≡ (if is_eq (if a then Greater else if z then Equal else Less) then f.null else pick f (if c then Greater else if b then Equal else Less))
decided f n z a b c l = grind arith

pub is_position_null : (n : Bool) (p : End) → IsPosition n p → n ≡ false → is_at_most (above Null) p ≡ true
is_position_null true p at e = absurd (cc e)
is_position_null false p at e = at.from

regions_hold : (n : Bool) (v : Value) (f : Flags) (p : End) → is_null_value v ≡ false → IsPosition n p → is_inside_any (regions n v f) p ≡ says f v p
regions_hold n v f p some at =
    let low : Span = record { lo = above Null; hi = below v } in
    let high : Span = record { lo = above v; hi = Last } in
    let gap = null_below v some in
    listed_holds (f.null && n) (point_span Null) _ p
    ∙ ap (λ x. ((f.null && n) && is_inside (point_span Null) p) || x)
    (listed_holds f.low low _ p
    ∙ ap (λ x. (f.low && is_inside low p) || x)
    (listed_holds f.at (point_span v) _ p
    ∙ ap (λ x. (f.at && is_inside (point_span v) p) || x) (listed_holds f.high high [] p)))
    ∙ decided f n (is_at_most (below Null) p) (is_at_most (above Null) p) (is_at_most (below v) p) (is_at_most (above v) p) (is_at_most Last p)
    (least_end p) at.cut
    (λ h. at_most-trans (above Null) (below v) p (below-at_most (above Null) (below v) gap) h)
    (λ h. at_most-trans (below v) (above v) p (below-at_most (below v) (above v) (point_is_span v)) h)
    (is_position_null n p at)

pub spans_from : (n : Bool) (spans : List Span) → AreApartFrom (first_end n) spans → AreSpans n spans
spans_from n [] apart = tt
spans_from n (s ∷ rest) apart = apart

-- rising spans made one hold what they held
pub united_spans : (n : Bool) (a u : List Span) (test : End → Bool) → AreRising (first_end n) a → AreUnited a [] u
    → ((p : End) → IsPosition n p → is_inside_any a p ≡ test p) → AreSpansOf n u test
united_spans n a u test rising united held = record {
  apart = spans_from n u (united.apart (first_end n) rising tt);
  positions = λ p at. united.positions p ∙ or-false (is_inside_any a p) ∙ held p at;
}

rises_from_least : (n : Bool) (a : List Span) → AreRising (first_end n) a → AreRising (below Null) a
rises_from_least n [] rising = tt
rises_from_least n (s ∷ rest) rising = (least_end s.lo, rising.1, rising.2)

pub regions_begin : (n : Bool) (v : Value) (f : Flags) (a : List Span) → is_null_value v ≡ false → a ≡ regions n v f → AreRising (below Null) a
regions_begin n v f a some is = subst (AreRising (below Null)) (sym is) (rises_from_least n (regions n v f) (regions_rise n v f some))

-- the regions of which something is said, made one
pub said_spans : (n : Bool) (v : Value) (f : Flags) (a u : List Span) → is_null_value v ≡ false → a ≡ regions n v f → AreUnited a [] u → AreSpansOf n u (says f v)
said_spans n v f a u some is united =
    united_spans n a u (says f v) (subst (AreRising (first_end n)) (sym is) (regions_rise n v f some)) united
    (λ p at. ap (λ x. is_inside_any x p) is ∙ regions_hold n v f p some at)
