-- Estimates of ranges, by examples.
use Rattle.std.proofs.Common.{◌≡◌, ℕ, pos, ◌/◌, Bool, true, false, List, [], ◌∷◌, map, Some, None, refl}
use Rattle.std.specs.List.{range_with_len}
use Rattle.rx_value.specs.declared.values.Value.{Value}
use Rattle.rx_value.specs.declared.values.Value.TheVariants.{Null, Int, Text}
use Rattle.rx_value.specs.declared.order.End.{End}
use Rattle.rx_value.specs.declared.order.End.TheVariants.{Last}
use Rattle.rx_value.specs.declared.ranges.KeyRange.{KeyRange}
use Rattle.rx_value.specs.Order.{below, above}
use Rattle.rx_estimate.specs.Estimates.{uses_statistics, records_per_key, estimate_of, dive_seeks}

-- an integer
abbrev i : ℕ → Value
i n = Int (pos n)

-- points alone
abbrev at : List Value → KeyRange
at points = record { points = points; last = None }

-- points, and a span of the next part
abbrev within : List Value → End → End → KeyRange
within points lo hi = record { points = points; last = Some (record { lo = lo; hi = hi }) }

-- integers as points of one part
abbrev points : List ℕ → List KeyRange
points ns = map (λ n. at (i n ∷ [])) ns

-- the estimate, the seeks that it takes, and whether statistics stand in
abbrev told : ℕ → ℕ → List ℕ → List (List Value) → List KeyRange → ℕ × ℕ × Bool
told limit count numbers keys ranges = (estimate_of limit count numbers keys ranges, dive_seeks limit ranges, uses_statistics limit ranges)

-- ---- keys of three parts, of which the first may be NULL

abbrev three : List (List Value)
three = (Null ∷ i 1 ∷ []) ∷ (Null ∷ i 1 ∷ []) ∷ (Null ∷ i 2 ∷ []) ∷ (i 1 ∷ i 1 ∷ []) ∷ (i 1 ∷ i 1 ∷ []) ∷ (i 1 ∷ i 2 ∷ []) ∷ (i 2 ∷ i 1 ∷ []) ∷ []

one_point : told 200 7 (2 ∷ 1 ∷ 1 ∷ []) three (points (1 ∷ [])) ≡ (3, 2, false)
one_point = refl

-- ---- keys of two parts

abbrev two : List (List Value)
two = (i 1 ∷ i 1 ∷ []) ∷ (i 1 ∷ i 2 ∷ []) ∷ (i 3 ∷ i 0 ∷ []) ∷ (i 6 ∷ i 9 ∷ []) ∷ []

-- a = 1 AND b < 2, and a > 5
span_behind_a_point : told 200 4 (1 ∷ 1 ∷ []) two (within (i 1 ∷ []) (above Null) (below (i 2)) ∷ within [] (above (i 5)) Last ∷ []) ≡ (2, 4, false)
span_behind_a_point = refl

-- a < 1, a = 1 AND b = 2, a = 1 AND b = 3, a > 1
four_ranges : told 200 4 (1 ∷ 1 ∷ []) two (within [] (above Null) (below (i 1)) ∷ at (i 1 ∷ i 2 ∷ []) ∷ at (i 1 ∷ i 3 ∷ []) ∷ within [] (above (i 1)) Last ∷ []) ≡ (3, 8, false)
four_ranges = refl

-- as many points as the limit, from statistics: no more rows than there are
many_points : told 200 4 (1 ∷ 1 ∷ []) two (points (range_with_len 1 200)) ≡ (4, 0, true)
many_points = refl

-- one point fewer is dived
fewer_points : told 200 4 (1 ∷ 1 ∷ []) two (points (range_with_len 1 199)) ≡ (4, 398, false)
fewer_points = refl

-- statistics stand in for points alone, and never for spans: two points of both parts, a point of the first, and a span
points_and_a_span : told 3 100 (7 ∷ 2 ∷ []) two (at (i 1 ∷ i 1 ∷ []) ∷ at (i 1 ∷ i 2 ∷ []) ∷ at (i 3 ∷ []) ∷ within [] (above (i 5)) Last ∷ []) ≡ (12, 2, true)
points_and_a_span = refl

-- ---- one part that may be NULL

abbrev one : List (List Value)
one = (Null ∷ []) ∷ (i 2 ∷ []) ∷ (i 5 ∷ []) ∷ (i 9 ∷ []) ∷ []

-- NULL < a < 3, and a > 7
two_spans : told 200 4 (1 ∷ []) one (within [] (above Null) (below (i 3)) ∷ within [] (above (i 7)) Last ∷ []) ≡ (2, 4, false)
two_spans = refl

-- NULL <= a < 5
null_and_a_span : told 200 4 (1 ∷ []) one (within [] (below Null) (below (i 5)) ∷ []) ≡ (2, 2, false)
null_and_a_span = refl

-- 5 < a < 6
gap : told 200 4 (1 ∷ []) one (within [] (above (i 5)) (below (i 6)) ∷ []) ≡ (0, 2, false)
gap = refl

no_range : told 200 4 (1 ∷ []) one [] ≡ (0, 0, false)
no_range = refl

-- ---- texts

-- abc, abcd, abxd, xb
abbrev texts : List (List Value)
texts = map (λ (text : List ℕ). Text text ∷ []) ((97 ∷ 98 ∷ 99 ∷ []) ∷ (97 ∷ 98 ∷ 99 ∷ 100 ∷ []) ∷ (97 ∷ 98 ∷ 120 ∷ 100 ∷ []) ∷ (120 ∷ 98 ∷ []) ∷ [])

-- 'abc' <= s < 'abd'
front_of_three : told 200 4 (1 ∷ []) texts (within [] (below (Text (97 ∷ 98 ∷ 99 ∷ []))) (below (Text (97 ∷ 98 ∷ 100 ∷ []))) ∷ []) ≡ (2, 2, false)
front_of_three = refl

-- 'ab' <= s < 'ac'
front_of_two : told 200 4 (1 ∷ []) texts (within [] (below (Text (97 ∷ 98 ∷ []))) (below (Text (97 ∷ 99 ∷ []))) ∷ []) ≡ (3, 2, false)
front_of_two = refl

-- ---- two rows for each of 50 values, where statistics tell 40

abbrev pairs : List (List Value)
pairs = map (λ n. i (n / 2) ∷ []) (range_with_len 0 100)

-- below the limit, at it, and without one
below_the_limit : told 3 100 (40 ∷ []) pairs (points (1 ∷ 2 ∷ [])) ≡ (4, 4, false)
below_the_limit = refl

at_the_limit : told 3 100 (40 ∷ []) pairs (points (1 ∷ 2 ∷ 3 ∷ [])) ≡ (100, 0, true)
at_the_limit = refl

without_a_limit : told 0 100 (40 ∷ []) pairs (points (1 ∷ 2 ∷ 3 ∷ [])) ≡ (6, 6, false)
without_a_limit = refl

-- of one key on no part, on the first, on both, and on one too many
keys_of_parts : map (records_per_key 100 (7 ∷ 2 ∷ [])) (0 ∷ 1 ∷ 2 ∷ 3 ∷ []) ≡ 100 ∷ 7 ∷ 2 ∷ 0 ∷ []
keys_of_parts = refl
