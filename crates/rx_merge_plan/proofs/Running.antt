-- Merges of scans that can be merged can be run.
use Rattle.std.proofs.Common.{◌≡◌, ◌≤◌, ◌*◌, ℕ, suc, Bool, true, false, List, [], ◌∷◌, ◌++◌, length, map, take, Option, Some, None, IfSome, All, option_map, if◌then◌else◌, refl, ap, subst, arith}
use Rattle.std.specs.List.{filter, flat_map, AllByRecursion}
use Rattle.std.specs.Option.{option_or}
use Rattle.std.proofs.lemmas.List.{length-take, length-append}
use Rattle.std.proofs.lemmas.List.Elements.{All-nil, All-cons, All-append, All-take, All-filter, All-map, All-weaker, recursion_from_All}
use Rattle.rx_value.specs.declared.shapes.Schema.{Schema}
use Rattle.rx_query.specs.declared.settings.Settings.{Settings}
use Rattle.rx_cost.specs.declared.candidates.Scan.{Scan}
use Rattle.rx_cost.specs.declared.candidates.Candidate.{Candidate}
use Rattle.rx_plan.specs.Naming.{is_primary}
use Rattle.rx_merges.specs.Fitting.{AreScans, most_disjuncts}
use Rattle.rx_merges.specs.Ordered.{row_ordered, as_filter, filters_in}
use Rattle.rx_merges.specs.Intersections.{intersection_of, intersections_among}
use Rattle.rx_merges.specs.Unions.{single, members_among, member_of, all_there, union, cheapest, sort_union, union_among, sort_union_among, union_of}
use Rattle.rx_merges.proofs.Keeping.{all_ordered, all_filters, ordered_are, filters_are}
use Rattle.rx_merges.proofs.Ruling.{some_at}
use Rattle.rx_merges.proofs.There.{split_there}
use Rattle.rx_merge_plan.specs.Merges.{CanMeet, CanMerge}
use Rattle.rx_merge_plan.proofs.Counted.{AreReady}

-- no more scans than the members of so many disjuncts have, each of which can be merged
record AreSmall (schema : Schema) (n : ℕ) (scans : List Scan) : Type 0 where
  few : length scans ≤ n * 130
  each : All (CanMeet schema) scans

if_or : {A : Type 0} (P : A → Type 0) (a b : Option A) → IfSome a P → IfSome b P → IfSome (option_or a b) P
if_or P None b h k = k
if_or P (Some x) b h k = h

if_asked : {A : Type 0} (P : A → Type 0) (b : Bool) (o : Option A) → IfSome o P → IfSome (if b then o else None) P
if_asked P true o h = h
if_asked P false o h = tt

ones : (xs : List Scan) → flat_map (λ x. x ∷ []) xs ≡ xs
ones [] = refl
ones (x ∷ xs) = ap (λ l. x ∷ l) (ones xs)

module _ (schema : Schema) where
  module _ (count : ℕ) (scans : List Scan) (are : AreScans schema count scans) (meet : All (CanMeet schema) scans) where
    as_filters : (s : Scan) → CanMeet schema s → CanMeet schema (as_filter s)
    as_filters s k = record { there = k.there; ranges = k.ranges; role = tt }

    small_front : (n : ℕ) → AreSmall schema 1 (take n (row_ordered schema scans) ++ filters_in schema scans)
    small_front n =
        let ordered = row_ordered schema scans in
        let filters = filters_in schema scans in
        record {
          few = omega (
            arith,
            length-append (take n ordered) filters,
            length-take n ordered,
            (ordered_are schema count scans are).few,
            (filters_are schema count scans are).few,
          );
          each = All-append (CanMeet schema) (take n ordered) filters (All-take (CanMeet schema) n ordered (all_ordered (CanMeet schema) schema scans meet))
              (all_filters (CanMeet schema) schema scans as_filters meet);
        }

    small_met : (entries : Bool) (columns : List ℕ) → All (λ c. AreSmall schema 1 c.scans) (intersections_among entries columns schema count scans)
    small_met entries columns =
        All-map (λ (c : Candidate). AreSmall schema 1 c.scans)
        (intersection_of entries columns schema count (row_ordered schema scans) (filters_in schema scans)) _ (λ k d h. small_front _)

    run_front : (entries : Bool) (columns : List ℕ) (n : ℕ) → CanMerge schema
        (intersection_of entries columns schema count (row_ordered schema scans) (filters_in schema scans) n)
    run_front entries columns n =
        let small = small_front n in
        record { kind = tt; few = omega (arith, small.few); scans = small.each }

    -- each intersection
    pub intersections_run : (entries : Bool) (columns : List ℕ) → All (CanMerge schema) (intersections_among entries columns schema count scans)
    intersections_run entries columns =
        All-map (CanMerge schema) (intersection_of entries columns schema count (row_ordered schema scans) (filters_in schema scans)) _
        (λ k d h. run_front entries columns _)

    small_single : (s : Scan) → CanMeet schema s → AreSmall schema 1 (single s).scans
    small_single s k = record { few = omega arith; each = All-cons (CanMeet schema) s [] k (All-nil (CanMeet schema)) }

    small_singles : (xs : List Scan) → All (CanMeet schema) xs → All (λ c. AreSmall schema 1 c.scans) (map single xs)
    small_singles xs k =
        All-map (λ (c : Candidate). AreSmall schema 1 c.scans) single xs
        (All-weaker (CanMeet schema) (λ s. AreSmall schema 1 (single s).scans) small_single xs k)

    small_members : (intersect : Bool) → All (λ c. AreSmall schema 1 c.scans) (members_among intersect schema count scans)
    small_members intersect =
        let P = λ (c : Candidate). AreSmall schema 1 c.scans in
        let primary = filter (λ (s : Scan). is_primary schema s.index) scans in
        let first = take 1 (row_ordered schema scans) in
        All-append P (map single primary) _ (small_singles primary (All-filter (λ (s : Scan). is_primary schema s.index) (CanMeet schema) scans meet))
        (All-append P (map single first) _ (small_singles first
        (All-take (CanMeet schema) 1 (row_ordered schema scans) (all_ordered (CanMeet schema) schema scans meet))) (met intersect))
      where
        met : (b : Bool) → All (λ c. AreSmall schema 1 c.scans) (if b then intersections_among false [] schema count scans else [])
        met true = small_met false []
        met false = All-nil (λ (c : Candidate). AreSmall schema 1 c.scans)

    small_member : (intersect : Bool) → IfSome (member_of intersect schema count scans) (λ c. AreSmall schema 1 c.scans)
    small_member intersect = some_at (λ (c : Candidate). AreSmall schema 1 c.scans) (members_among intersect schema count scans) _ (small_members intersect)

    small_cheapest : IfSome (cheapest scans) (λ s. AreSmall schema 1 (s ∷ []))
    small_cheapest = one (cheapest scans) (some_at (CanMeet schema) scans _ meet)
      where
        one : (o : Option Scan) → IfSome o (CanMeet schema) → IfSome o (λ s. AreSmall schema 1 (s ∷ []))
        one None h = tt
        one (Some s) h = small_single s h

  -- ---- what each disjunct gives, all together

  module _ {B : Type 0} (f : List Scan → Option B) (g : B → List Scan) where
    all_small : (lists : List (List Scan)) (xs : List B) → all_there (map f lists) ≡ Some xs
        → AllByRecursion (λ list. IfSome (f list) (λ x. AreSmall schema 1 (g x))) lists
        → AreSmall schema (length lists) (flat_map g xs)
    all_small [] xs e h = let none : [] ≡ xs = cc e in subst (λ (zs : List B). AreSmall schema 0 (flat_map g zs)) none
        (record { few = omega arith; each = All-nil (CanMeet schema) })
    all_small (list ∷ lists) xs e h =
        let s = split_there (f list) (map f lists) xs e in
        let here = subst (λ (o : Option B). IfSome o (λ x. AreSmall schema 1 (g x))) s.2 h.0 in
        let later = all_small lists s.1 s.3 h.1 in
        subst (λ (zs : List B). AreSmall schema (suc (length lists)) (flat_map g zs)) s.4 (record {
          few = omega (arith, length-append (g s.0) (flat_map g s.1), here.few, later.few);
          each = All-append (CanMeet schema) (g s.0) (flat_map g s.1) here.each later.each;
        })

  module _ (count : ℕ) (lists : List (List Scan)) (few : length lists ≤ most_disjuncts) (all : All (AreReady schema count) lists) where
    ready : AllByRecursion (AreReady schema count) lists
    ready = recursion_from_All (AreReady schema count) lists all

    each_member : (intersect : Bool) (xs : List (List Scan)) → AllByRecursion (AreReady schema count) xs
        → AllByRecursion (λ scans. IfSome (member_of intersect schema count scans) (λ c. AreSmall schema 1 c.scans)) xs
    each_member intersect [] h = tt
    each_member intersect (x ∷ xs) h = (small_member count x h.0.are h.0.each intersect, each_member intersect xs h.1)

    each_cheapest : (xs : List (List Scan)) → AllByRecursion (AreReady schema count) xs
        → AllByRecursion (λ scans. IfSome (cheapest scans) (λ s. AreSmall schema 1 (s ∷ []))) xs
    each_cheapest [] h = tt
    each_cheapest (x ∷ xs) h = (small_cheapest count x h.0.are h.0.each, each_cheapest xs h.1)

    of_union : (intersect : Bool) (o : Option (List Candidate)) → all_there (map (member_of intersect schema count) lists) ≡ o
        → IfSome (option_map union o) (CanMerge schema)
    of_union intersect None e = tt
    of_union intersect (Some ms) e =
        let small = all_small (member_of intersect schema count) (λ m. m.scans) lists ms e (each_member intersect lists ready) in
        record { kind = tt; few = omega (arith, small.few, few); scans = small.each }

    of_sort_union : (o : Option (List Scan)) → all_there (map cheapest lists) ≡ o → IfSome (option_map sort_union o) (CanMerge schema)
    of_sort_union None e = tt
    of_sort_union (Some ss) e =
        let small = subst (AreSmall schema (length lists)) (ones ss) (all_small cheapest (λ s. s ∷ []) lists ss e (each_cheapest lists ready)) in
        record { kind = tt; few = omega (arith, small.few, few); scans = small.each }

    -- the union, where there is one
    pub union_runs : (settings : Settings) → IfSome (union_of settings schema count lists) (CanMerge schema)
    union_runs settings =
        if_or (CanMerge schema) (if settings.union_on then union_among settings.intersection schema count lists else None)
        (if settings.sort_union then sort_union_among lists else None)
        (if_asked (CanMerge schema) settings.union_on (union_among settings.intersection schema count lists) (of_union settings.intersection _ refl))
        (if_asked (CanMerge schema) settings.sort_union (sort_union_among lists) (of_sort_union _ refl))
