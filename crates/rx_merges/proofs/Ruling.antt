-- Intersections keep the rules, and what holds of each scan of a condition holds of each scan of its intersections and members.
use Rattle.std.proofs.Common.{◌≡◌, ◌≤◌, ◌<◌, ◌+◌, ℕ, zero, suc, Bool, true, false, nat_le, List, [], ◌∷◌, length, map, take, slice_get, IfSome, All, if◌then◌else◌, refl, arith}
use Rattle.std.specs.List.{filter, range_with_len}
use Rattle.std.proofs.lemmas.Bool.{and_parts}
use Rattle.std.proofs.lemmas.List.{length-take, length-append, length-map}
use Rattle.std.proofs.lemmas.List.Elements.{All-nil, All-cons, All-append, All-take, All-head, All-tail, All-filter, All-map, All-weaker, All-from_get_or, filter_passes}
use Rattle.std.proofs.lemmas.List.FromFn.{length-range_with_len, get_or-range_with_len}
use Rattle.rx_value.specs.declared.shapes.Schema.{Schema}
use Rattle.rx_cond.specs.Tree.{Tree}
use Rattle.rx_cost.specs.declared.candidates.Role.TheVariants.{Scan as ScanRole}
use Rattle.rx_cost.specs.declared.candidates.Scan.{Scan}
use Rattle.rx_cost.specs.declared.candidates.Candidate.{Candidate}
use Rattle.rx_plan.specs.Naming.{is_primary}
use Rattle.rx_plan.specs.Plan.{LosesNoRow, KeepsRows}
use Rattle.rx_merges.specs.Ordered.{is_row_ordered, row_ordered, as_filter, filters_in}
use Rattle.rx_merges.specs.Intersections.{do_meet, intersection_of, intersections_among}
use Rattle.rx_merges.specs.Unions.{single, members_among, member_of}
use Rattle.rx_merges.specs.Rules.{AreOfCondition, IsOrderedScan, IsFilter, IsIntersection}
use Rattle.rx_merges.proofs.Keeping.{all_ordered, all_sorted, all_filters}

both : {A : Type 0} (P Q : A → Type 0) (xs : List A) → All P xs → All Q xs → All (λ x. P x × Q x) xs
both P Q xs h k i d within = (h i d within, k i d within)

below_count : (n : ℕ) → All (λ i. i < n) (range_with_len 0 n)
below_count n = All-from_get_or (λ i. i < n) (range_with_len 0 n) 0 (λ i lt.
    let within : i < n = omega (arith, lt, length-range_with_len 0 n) in omega (arith, within, get_or-range_with_len 0 n i 0 within))

at_least : (a b : ℕ) → nat_le a b ≡ true → a ≤ b
at_least a b e = grind (arith, e)

-- a front that meets the filters
record IsFront (ordered filters : List Scan) (n : ℕ) : Type 0 where
  some : 1 ≤ n
  two : 2 ≤ n + length filters
  within : n ≤ length ordered

fronts_are : (ordered filters : List Scan) → All (IsFront ordered filters) (filter (do_meet filters) (range_with_len 0 (length ordered + 1)))
fronts_are ordered filters =
    let numbers = range_with_len 0 (length ordered + 1) in
    All-weaker (λ n. (do_meet filters n ≡ true) × (n < length ordered + 1)) (IsFront ordered filters) front (filter (do_meet filters) numbers)
    (both (λ n. do_meet filters n ≡ true) (λ n. n < length ordered + 1) (filter (do_meet filters) numbers) (filter_passes (do_meet filters) numbers)
    (All-filter (do_meet filters) (λ n. n < length ordered + 1) numbers (below_count (length ordered + 1))))
  where
    front : (n : ℕ) → (do_meet filters n ≡ true) × (n < length ordered + 1) → IsFront ordered filters n
    front n (meets, low) =
        let parts = and_parts (nat_le 1 n) (nat_le 2 (n + length filters)) meets in
        record { some = at_least 1 n parts.0; two = at_least 2 (n + length filters) parts.1; within = omega (arith, low) }

-- what holds of each front that meets holds of each intersection
each_front : (Q : Candidate → Type 0) (entries : Bool) (columns : List ℕ) (schema : Schema) (count : ℕ) (scans : List Scan)
    → ((n : ℕ) → IsFront (row_ordered schema scans) (filters_in schema scans) n → Q (intersection_of entries columns schema count (row_ordered schema scans) (filters_in schema scans) n))
    → All Q (intersections_among entries columns schema count scans)
each_front Q entries columns schema count scans so =
    let ordered = row_ordered schema scans in
    let filters = filters_in schema scans in
    All-map Q (intersection_of entries columns schema count ordered filters) (filter (do_meet filters) (range_with_len 0 (length ordered + 1)))
    (All-weaker (IsFront ordered filters) (λ n. Q (intersection_of entries columns schema count ordered filters n)) so _ (fronts_are ordered filters))

ordered_scans : (schema : Schema) (scans : List Scan) → All (λ s. s.role ≡ ScanRole) scans → All (IsOrderedScan schema) (row_ordered schema scans)
ordered_scans schema scans roles =
    let test = is_row_ordered schema in
    let picked = filter test scans in
    all_sorted (IsOrderedScan schema) picked
    (All-weaker (λ s. (s.role ≡ ScanRole) × (test s ≡ true)) (IsOrderedScan schema) (λ s k. record { role = k.0; ordered = k.1 }) picked
    (both (λ s. s.role ≡ ScanRole) (λ s. test s ≡ true) picked (All-filter test (λ s. s.role ≡ ScanRole) scans roles) (filter_passes test scans)))

filter_scans : (schema : Schema) (scans : List Scan) → All (IsFilter schema) (filters_in schema scans)
filter_scans schema scans =
    let test = λ (s : Scan). is_primary schema s.index in
    All-map (IsFilter schema) as_filter (filter test scans) (All-weaker (λ s. test s ≡ true) (λ s. IsFilter schema (as_filter s)) (λ s k. record { role = refl; primary = k }) (filter test scans) (filter_passes test scans))

-- each intersection keeps the rules
pub intersections_are : (entries : Bool) (columns : List ℕ) (schema : Schema) (count : ℕ) (scans : List Scan) → AreOfCondition schema scans
    → All (IsIntersection schema) (intersections_among entries columns schema count scans)
intersections_are entries columns schema count scans are =
    let ordered = row_ordered schema scans in
    let filters = filters_in schema scans in
    each_front (IsIntersection schema) entries columns schema count scans (λ n front. record {
      kind = refl;
      scans = take n ordered;
      filters = filters;
      is = refl;
      some = omega (arith, front.some, front.within, length-take n ordered);
      one = omega (arith, are.primary, length-map (filter (λ (s : Scan). is_primary schema s.index) scans) as_filter);
      two = omega (arith, front.two, front.within, length-take n ordered, length-append (take n ordered) filters);
      ordered = All-take (IsOrderedScan schema) n ordered (ordered_scans schema scans are.roles);
      filter = filter_scans schema scans;
    })

-- at least one scan, and each is so
pub record AreSome (P : Scan → Type 0) (candidate : Candidate) : Type 0 where
  pub some : 1 ≤ length candidate.scans
  pub each : All P candidate.scans

-- what holds of each scan of a condition, and doesn't look at the role, holds of each scan of its intersections
pub intersections_some : (P : Scan → Type 0) → ((s : Scan) → P s → P (as_filter s)) → (entries : Bool) (columns : List ℕ) (schema : Schema) (count : ℕ) (scans : List Scan) → All P scans
    → All (AreSome P) (intersections_among entries columns schema count scans)
intersections_some P so entries columns schema count scans h =
    let ordered = row_ordered schema scans in
    let filters = filters_in schema scans in
    each_front (AreSome P) entries columns schema count scans (λ n front. record {
      some = omega (arith, front.some, front.within, length-take n ordered, length-append (take n ordered) filters);
      each = All-append P (take n ordered) filters (All-take P n ordered (all_ordered P schema scans h)) (all_filters P schema scans so h);
    })

-- so intersections lose no row
pub intersections_keep : (t : Tree) (entries : Bool) (columns : List ℕ) (schema : Schema) (count : ℕ) (scans : List Scan) → All (LosesNoRow schema t) scans
    → All (KeepsRows schema t) (intersections_among entries columns schema count scans)
intersections_keep t entries columns schema count scans h =
    All-weaker (AreSome (LosesNoRow schema t)) (KeepsRows schema t) (λ c k. k.each) (intersections_among entries columns schema count scans)
    (intersections_some (LosesNoRow schema t) (λ s k. record { each = k.each; rise = k.rise; keep = k.keep }) entries columns schema count scans h)

single_some : (P : Scan → Type 0) (s : Scan) → P s → AreSome P (single s)
single_some P s h = record { some = omega arith; each = All-cons P s [] h (All-nil P) }

singles_some : (P : Scan → Type 0) (xs : List Scan) → All P xs → All (AreSome P) (map single xs)
singles_some P xs h = All-map (AreSome P) single xs (All-weaker P (λ s. AreSome P (single s)) (single_some P) xs h)

members_some : (P : Scan → Type 0) → ((s : Scan) → P s → P (as_filter s)) → (intersect : Bool) (schema : Schema) (count : ℕ) (scans : List Scan) → All P scans
    → All (AreSome P) (members_among intersect schema count scans)
members_some P so intersect schema count scans h =
    let primary = filter (λ (s : Scan). is_primary schema s.index) scans in
    let first = take 1 (row_ordered schema scans) in
    All-append (AreSome P) (map single primary) _ (singles_some P primary (All-filter (λ (s : Scan). is_primary schema s.index) P scans h))
    (All-append (AreSome P) (map single first) _ (singles_some P first (All-take P 1 (row_ordered schema scans) (all_ordered P schema scans h))) (met intersect))
  where
    met : (b : Bool) → All (AreSome P) (if b then intersections_among false [] schema count scans else [])
    met true = intersections_some P so false [] schema count scans h
    met false = All-nil (AreSome P)

-- what is taken of a list, where it is there
pub some_at : {A : Type 0} (Q : A → Type 0) (list : List A) (place : ℕ) → All Q list → IfSome (slice_get list place) Q
some_at Q [] place h = tt
some_at Q (x ∷ xs) zero h = All-head Q x xs h
some_at Q (x ∷ xs) (suc place) h = some_at Q xs place (All-tail Q x xs h)

-- and of each scan of the member of a disjunct
pub member_some : (P : Scan → Type 0) → ((s : Scan) → P s → P (as_filter s)) → (intersect : Bool) (schema : Schema) (count : ℕ) (scans : List Scan) → All P scans
    → IfSome (member_of intersect schema count scans) (AreSome P)
member_some P so intersect schema count scans h = some_at (AreSome P) (members_among intersect schema count scans) _ (members_some P so intersect schema count scans h)
