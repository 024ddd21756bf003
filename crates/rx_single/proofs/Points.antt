-- The points of a list's values.
use Rattle.std.proofs.Common.{arith, ◌≡◌, ◌&&◌, ◌||◌, ◌+◌, ℕ, suc, Bool, true, false, not, List, [], ◌∷◌, Option, None, refl, ap, ap₂, sym, ◌∙◌, subst, get_or}
use Rattle.std.specs.Prelude.{if◌then◌else◌, map}
use Rattle.std.specs.List.{list_any}
use Rattle.std.specs.List.Sorted.{IsSorted}
use Rattle.std.specs.Ordering.{is_eq, is_lt, ordering_then, ordering_reverse}
use Rattle.std.specs.declared.cmp.Ordering.{Ordering}
use Rattle.std.specs.declared.cmp.Ordering.TheVariants.{Less, Equal, Greater}
use Rattle.std.proofs.Math.Bool.{or-false}
use Rattle.std.proofs.lemmas.List.Sorted.{list_any-IsPermutation}
use Rattle.rx_value.specs.declared.values.Value.{Value}
use Rattle.rx_value.specs.declared.values.Value.TheVariants.{Null}
use Rattle.rx_value.specs.declared.keys.PartValue.{PartValue}
use Rattle.rx_value.specs.declared.order.End.{End}
use Rattle.rx_value.specs.declared.order.End.TheVariants.{Last}
use Rattle.rx_value.specs.declared.order.Span.{Span}
use Rattle.rx_value.specs.Order.{value_cmp, is_at_most, below, above}
use Rattle.rx_value.specs.Spans.{IsAtMost, IsBelow, is_inside}
use Rattle.rx_value.specs.Keys.{cut_value, point_span}
use Rattle.rx_value.specs.Parts.{borrowed}
use Rattle.rx_value.proofs.Ends.{value_cmp_total, at_most-same, least_end, below-at_most-trans}
use Rattle.rx_tree.specs.Points.{AreApart, AreSpans, is_inside_any}
use Rattle.rx_spans.specs.Spans.{AreRising, AreApartFrom, AreUnited}
use Rattle.rx_cond.specs.declared.conds.Tri.TheVariants.{T, F, N}
use Rattle.rx_cond.specs.Test.{is_null_value}
use Rattle.rx_regions.specs.Places.{is_at, is_at_some}
use Rattle.rx_regions.specs.Cans.{is_so, lists}
use Rattle.rx_single.specs.Single.{AreSpansOf}
use Rattle.rx_single.specs.Listing.{cut_values, IsByValue, points_of, ArePointsOf}
use Rattle.rx_single.proofs.Saying.{null_below, point_is_span}
use Rattle.rx_single.proofs.Comparisons.{cut_some, at_null}

-- an end isn't above the first of the points
abbrev IsFrom : End → List PartValue → Type 0
IsFrom e [] = Unit {0}
IsFrom e (x ∷ xs) = IsAtMost e (below (borrowed x))

abbrev by_value : PartValue → PartValue → Ordering
by_value u v = value_cmp (borrowed u) (borrowed v)

not_behind : (o p : Ordering) → o ≡ ordering_reverse p → is_lt p ≡ false → elim (ordering_then o Equal) [ Greater ↦ false | _ ↦ true ] ≡ true
not_behind o Less e low = absurd (cc low)
not_behind o Equal e low = rw e refl
not_behind o Greater e low = rw e refl

next_from : (x : PartValue) (xs : List PartValue) → IsSorted by_value (x ∷ xs) → IsFrom (below (borrowed x)) xs
next_from x [] sorted = tt
next_from x (y ∷ ys) sorted =
    not_behind (value_cmp (borrowed x) (borrowed y)) (value_cmp (borrowed y) (borrowed x)) (value_cmp_total.antisymm (borrowed x) (borrowed y))
    (sorted 0 x (omega arith) (omega arith))

sorted_tail : (x : PartValue) (xs : List PartValue) → IsSorted by_value (x ∷ xs) → IsSorted by_value xs
sorted_tail x xs sorted k d low lt =
    let one : suc k + 1 ≡ suc (k + 1) = omega arith in
    subst (λ (n : ℕ). is_lt (by_value (get_or (x ∷ xs) n d) (get_or xs k d)) ≡ false) one (sorted (suc k) d (omega arith) (omega (arith, lt)))

-- the points of values from the lowest on rise
points_rise : (e : End) (xs : List PartValue) → IsSorted by_value xs → IsFrom e xs → AreRising e (points_of xs)
points_rise e [] sorted from = tt
points_rise e (x ∷ xs) sorted from = (from, point_is_span (borrowed x), points_rise (below (borrowed x)) xs (sorted_tail x xs sorted) (next_from x xs sorted))

from_least : (xs : List PartValue) → IsFrom (below Null) xs
from_least [] = tt
from_least (x ∷ xs) = least_end (below (borrowed x))

pub points_begin : (a : List Span) (values sorted : List PartValue) → IsByValue values sorted → a ≡ points_of sorted → AreRising (below Null) a
points_begin a values sorted by is = subst (AreRising (below Null)) (sym is) (points_rise (below Null) sorted by.rising (from_least sorted))

any_mapped : (test : Value → Bool) (xs : List PartValue) → list_any test (map borrowed xs) ≡ list_any (λ x. test (borrowed x)) xs
any_mapped test [] = refl
any_mapped test (x ∷ xs) = ap (λ b. test (borrowed x) || b) (any_mapped test xs)

-- a test that some of the values pass, in either order
any_by_value : (test : Value → Bool) (chars : Option ℕ) (list : List Value) (values sorted : List PartValue) → map borrowed values ≡ cut_values chars list → IsByValue values sorted
    → list_any (λ x. test (borrowed x)) sorted ≡ list_any test (cut_values chars list)
any_by_value test chars list values sorted cut by =
    sym (list_any-IsPermutation (λ x. test (borrowed x)) values sorted by.same) ∙ sym (any_mapped test values) ∙ ap (list_any test) cut

no_null_by : (chars : Option ℕ) (v : Value) (vs : List Value) (x : Bool) → is_null_value v ≡ x → list_any is_null_value (cut_values chars vs) ≡ false
    → list_any is_null_value (if x then cut_values chars vs else cut_value chars v ∷ cut_values chars vs) ≡ false
no_null_by chars v vs true e none = none
no_null_by chars v vs false e none = ap₂ (λ a b. a || b) (cut_some chars v ∙ e) none

-- no cut value is NULL
no_null : (chars : Option ℕ) (list : List Value) → list_any is_null_value (cut_values chars list) ≡ false
no_null chars [] = refl
no_null chars (v ∷ vs) = no_null_by chars v vs (is_null_value v) refl (no_null chars vs)

at_cut_by : (chars : Option ℕ) (p : End) (v : Value) (vs : List Value) (x : Bool) → is_null_value v ≡ x
    → list_any (is_at p) (cut_values chars vs) ≡ list_any (λ v. is_at_some p (cut_value chars v)) vs
    → list_any (is_at p) (if x then cut_values chars vs else cut_value chars v ∷ cut_values chars vs) ≡ (is_at_some p (cut_value chars v) || list_any (λ v. is_at_some p (cut_value chars v)) vs)
at_cut_by chars p v vs true e rest = rest ∙ sym (ap (λ b. (not b && is_at p (cut_value chars v)) || list_any (λ v. is_at_some p (cut_value chars v)) vs) (cut_some chars v ∙ e))
at_cut_by chars p v vs false e rest =
    ap (λ b. is_at p (cut_value chars v) || b) rest
    ∙ sym (ap (λ b. (not b && is_at p (cut_value chars v)) || list_any (λ v. is_at_some p (cut_value chars v)) vs) (cut_some chars v ∙ e))

-- a position is at one of the cut values
at_cut : (chars : Option ℕ) (p : End) (list : List Value) → list_any (is_at p) (cut_values chars list) ≡ list_any (λ v. is_at_some p (cut_value chars v)) list
at_cut chars p [] = refl
at_cut chars p (v ∷ vs) = at_cut_by chars p v vs (is_null_value v) refl (at_cut chars p vs)

-- a position stands to a value (b, a: not below its point, behind it)
in_point_by : (b a : Bool) → (b && not a) ≡ is_eq (if a then Greater else if b then Equal else Less)
in_point_by true true = refl
in_point_by true false = refl
in_point_by false true = refl
in_point_by false false = refl

pub in_point : (p : End) (v : Value) → is_inside (point_span v) p ≡ is_at p v
in_point p v = in_point_by (is_at_most (below v) p) (is_at_most (above v) p)

in_points : (p : End) (xs : List PartValue) → is_inside_any (points_of xs) p ≡ list_any (λ x. is_at p (borrowed x)) xs
in_points p [] = refl
in_points p (x ∷ xs) = ap₂ (λ a b. a || b) (in_point p (borrowed x)) (in_points p xs)

-- spans that rise from an end above another are apart from that
apart_above : (d e : End) (u : List Span) → IsBelow d e → AreApartFrom e u → AreApart d u
apart_above d e [] low apart = tt
apart_above d e (s ∷ rest) low apart = (below-at_most-trans d e s.lo low apart.0, apart.1, apart.2)

nor_first : (a b : Bool) → (a || b) ≡ false → a ≡ false
nor_first true b e = absurd (cc e)
nor_first false b e = refl

nothing_below : (u : List Span) → AreApartFrom Last u → AreApart (above Null) u
nothing_below u apart = apart_above (above Null) Last u refl apart

above_null : (xs : List PartValue) (u : List Span) → IsSorted by_value xs → list_any (λ x. is_null_value (borrowed x)) xs ≡ false → AreUnited (points_of xs) [] u → AreApart (above Null) u
above_null [] u sorted none united = nothing_below u (united.apart Last tt tt)
above_null (x ∷ xs) u sorted none united =
    let some = nor_first (is_null_value (borrowed x)) (list_any (λ x. is_null_value (borrowed x)) xs) none in
    apart_above (above Null) (below (borrowed x)) u (null_below (borrowed x) some)
    (united.apart (below (borrowed x)) (points_rise (below (borrowed x)) (x ∷ xs) sorted (at_most-same (below (borrowed x)))) tt)

-- the points of sorted values, made one
pub points_said : (chars : Option ℕ) (list : List Value) (values sorted : List PartValue) (a u : List Span)
    → map borrowed values ≡ cut_values chars list → IsByValue values sorted → a ≡ points_of sorted → AreUnited a [] u → ArePointsOf chars list u
points_said chars list values sorted a u cut by is united =
    let made : AreUnited (points_of sorted) [] u = subst (λ (x : List Span). AreUnited x [] u) is united in
    record {
      apart = above_null sorted u by.rising (any_by_value is_null_value chars list values sorted cut by ∙ no_null chars list) made;
      positions = λ p.
          made.positions p ∙ or-false (is_inside_any (points_of sorted) p) ∙ in_points p sorted
          ∙ any_by_value (is_at p) chars list values sorted cut by ∙ at_cut chars p list;
    }

spans_from : (n : Bool) (spans : List Span) → AreApartFrom (above Null) spans → AreSpans n spans
spans_from n [] apart = tt
spans_from true (s ∷ rest) apart = (least_end s.lo, apart.1, apart.2)
spans_from false (s ∷ rest) apart = apart

-- a position is at one of the values (a), or above NULL (b)
false_by : (a b c z : Bool) → c ≡ false → z ≡ not b → (b && not a) ≡ is_so false (if a then T else if z || c then N else F)
false_by true true c z e f = refl
false_by true false c z e f = refl
false_by false true c z e f = rw (e, f) refl
false_by false false c z e f = rw (e, f) refl

-- on a whole part it is false between the points
pub list_false : (n : Bool) (list : List Value) (points a spans : List Span) (from : End) → list_any is_null_value list ≡ false → ArePointsOf None list points → a ≡ points → from ≡ above Null → AreApartFrom from spans
    → ((p : End) → is_at_most Last p ≡ false → is_inside_any spans p ≡ (is_at_most from p && not (is_inside_any a p))) → AreSpansOf n spans (lists false list None)
list_false n list points a spans from none are same first apart positions = record {
  apart = spans_from n spans (subst (λ (e : End). AreApartFrom e spans) first apart);
  positions = λ p at.
      positions p at.cut
      ∙ ap (λ e. is_at_most e p && not (is_inside_any a p)) first
      ∙ ap (λ x. is_at_most (above Null) p && not (is_inside_any x p)) same
      ∙ ap (λ x. is_at_most (above Null) p && not x) (are.positions p)
      ∙ false_by (list_any (is_at_some p) list) (is_at_most (above Null) p) (list_any is_null_value list) (is_at p Null) none (at_null p);
}
