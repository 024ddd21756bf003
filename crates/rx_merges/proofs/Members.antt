-- The members of a union cost no more than they may.
use Rattle.std.proofs.Common.{◌≤◌, ℕ, max, Bool, true, false, List, [], ◌∷◌, ◌++◌, length, map, take, IfSome, All, if◌then◌else◌, arith}
use Rattle.std.specs.List.{fold, filter}
use Rattle.std.proofs.Math.Nat.{div-le_of_le-mul, mul-le-mul}
use Rattle.std.proofs.lemmas.List.{length-take}
use Rattle.std.proofs.lemmas.List.Elements.{All-nil, All-append, All-take, All-head, All-tail, All-filter, All-map, All-weaker}
use Rattle.std.proofs.lemmas.List.Sums.{sum_by-le}
use Rattle.rx_value.specs.declared.shapes.Schema.{Schema}
use Rattle.rx_cost.specs.declared.candidates.Scan.{Scan}
use Rattle.rx_cost.specs.Costs.{most_counted}
use Rattle.rx_cost.specs.Choice.{chosen_place}
use Rattle.rx_plan.specs.Naming.{is_primary}
use Rattle.rx_merges.specs.Fitting.{IsCounted, AreScans, IsMember, most_ids}
use Rattle.rx_merges.specs.Ordered.{row_ordered, filters_in}
use Rattle.rx_merges.specs.Intersections.{ids_of, rows_left, rows_met, intersection_of, intersections_among}
use Rattle.rx_merges.specs.Unions.{single, members_among, member_of}
use Rattle.rx_merges.proofs.Keeping.{all_ordered, ordered_are, filters_are}
use Rattle.rx_merges.proofs.Ruling.{some_at}

-- scans over a table of so many rows have no more than may be counted
pub all_counted : (count : ℕ) (scans : List Scan) → count ≤ most_counted → All (IsCounted count) scans → All (IsCounted most_counted) scans
all_counted count scans few h = All-weaker (IsCounted count) (IsCounted most_counted) (λ s k. record { rows = omega (arith, k.rows, few); ranges = k.ranges }) scans h

ids_few : (s : Scan) → IsCounted most_counted s → ids_of s ≤ most_ids
ids_few s h = omega (arith, h.rows, h.ranges)

left_few : (count rows : ℕ) (s : Scan) → rows ≤ count → s.rows ≤ count → rows_left count rows s ≤ count
left_few count rows s few h =
    let low : rows ≤ max 1 count = omega arith in
    div-le_of_le-mul (max 1 count) (mul-le-mul low h)

fold_few : (count rows : ℕ) (scans : List Scan) → rows ≤ count → All (IsCounted count) scans → fold (rows_left count) rows scans ≤ count
fold_few count rows [] few h = few
fold_few count rows (s ∷ ss) few h = fold_few count (rows_left count rows s) ss (left_few count rows s few (All-head (IsCounted count) s ss h).rows) (All-tail (IsCounted count) s ss h)

met_few : (count : ℕ) (scans : List Scan) → All (IsCounted count) scans → rows_met count scans ≤ count
met_few count [] h = omega arith
met_few count (s ∷ ss) h = fold_few count s.rows ss (All-head (IsCounted count) s ss h).rows (All-tail (IsCounted count) s ss h)

single_few : (s : Scan) → IsCounted most_counted s → IsMember (single s)
single_few s h = record { rows = h.rows; cost = omega (arith, h.rows, ids_few s h) }

module _ (schema : Schema) (count : ℕ) (few : count ≤ most_counted) (scans : List Scan) (are : AreScans schema count scans) where
  met_member : (n : ℕ) → IsMember (intersection_of false [] schema count (row_ordered schema scans) (filters_in schema scans) n)
  met_member n =
      let ordered = ordered_are schema count scans are in
      let filters = filters_are schema count scans are in
      let front = take n (row_ordered schema scans) in
      let counted = All-take (IsCounted count) n (row_ordered schema scans) ordered.counted in
      let rows = met_few count (front ++ filters_in schema scans) (All-append (IsCounted count) front (filters_in schema scans) counted filters.counted) in
      let ids = sum_by-le ids_of most_ids front (All-weaker (IsCounted most_counted) (λ s. ids_of s ≤ most_ids) ids_few front (all_counted count front few counted)) in
      let ranges = sum_by-le (λ s. length s.ranges) most_counted (filters_in schema scans) (All-weaker (IsCounted count) (λ s. length s.ranges ≤ most_counted) (λ s k. k.ranges) (filters_in schema scans) filters.counted) in
      record {
        rows = omega (arith, rows, few);
        cost = omega (arith, rows, few, ids, ranges, ordered.few, filters.few, length-take n (row_ordered schema scans));
      }

  -- each that may be the member of a disjunct
  members_few : (intersect : Bool) → All IsMember (members_among intersect schema count scans)
  members_few intersect =
      let counted = all_counted count scans few are.counted in
      let primary = filter (λ (s : Scan). is_primary schema s.index) scans in
      let first = take 1 (row_ordered schema scans) in
      let singles = λ (xs : List Scan) (h : All (IsCounted most_counted) xs). All-map IsMember single xs (All-weaker (IsCounted most_counted) (λ s. IsMember (single s)) single_few xs h) in
      All-append IsMember (map single primary) _ (singles primary (All-filter (λ (s : Scan). is_primary schema s.index) (IsCounted most_counted) scans counted))
      (All-append IsMember (map single first) _ (singles first (All-take (IsCounted most_counted) 1 (row_ordered schema scans) (all_ordered (IsCounted most_counted) schema scans counted)))
      (met intersect))
    where
      met : (b : Bool) → All IsMember (if b then intersections_among false [] schema count scans else [])
      met true = All-map IsMember (intersection_of false [] schema count (row_ordered schema scans) (filters_in schema scans)) _ (λ k d h. met_member _)
      met false = All-nil IsMember

  -- the member of a disjunct
  pub member_few : (intersect : Bool) → IfSome (member_of intersect schema count scans) IsMember
  member_few intersect = some_at IsMember (members_among intersect schema count scans) (chosen_place (members_among intersect schema count scans)) (members_few intersect)
