-- What is known of indexes by a condition: few indexes that are there, with few ranges.
use Rattle.std.proofs.Common.{◌≡◌, ◌<◌, ◌≤◌, ◌/◌, ℕ, min, nat_eq, Bool, true, false, List, [], ◌∷◌, ◌++◌, length, map, Option, Some, None, All, if◌then◌else◌, refl, ap, arith}
use Rattle.std.specs.List.{range_with_len, AllByRecursion}
use Rattle.std.proofs.lemmas.List.{length-map, length-append}
use Rattle.std.proofs.lemmas.List.Elements.{All-from_recursion, All-from_get_or, recursion_from_All}
use Rattle.std.proofs.lemmas.List.FromFn.{length-range_with_len, get_or-range_with_len}
use Rattle.rx_value.specs.declared.shapes.Schema.{Schema}
use Rattle.rx_value.specs.Shape.{IsSchema}
use Rattle.rx_cond.specs.Tree.{Tree}
use Rattle.rx_query.specs.declared.settings.Settings.{Settings}
use Rattle.rx_query.specs.Steps.{Question}
use Rattle.rx_index.proofs.Making.{few_indexes}
use Rattle.rx_ranges.specs.Answers.{Answer, no_parts, whole, ranges, IsAnswer}
use Rattle.rx_build.specs.Given.{answer_for}
use Rattle.rx_build.proofs.Given.{given_is_answer}
use Rattle.rx_estimate.specs.Estimates.{parts_in}
use Rattle.rx_cost.specs.Costs.{most_counted}
use Rattle.rx_plan.specs.Naming.{is_usable, index_numbers}
use Rattle.rx_plan.specs.Known.{Known, Ranged, items_limit, IsKnown, IsKnownAs, AreKnown, ranged_as, ranged_in, known_at, known_by}
use Rattle.rx_plan.proofs.Few.{few_ranges}
use Rattle.rx_plan.proofs.Once.{one_known}
use Rattle.rx_merges.specs.Fitting.{most_scans}
use Rattle.rx_merge_plan.specs.Disjuncts.{ranged_by}

-- an index is there, and is narrowed to no more ranges than may be counted
pub record IsNarrowed (schema : Schema) (r : Ranged) : Type 0 where
  pub there : r.index < length schema.indexes
  pub few : length r.list ≤ most_counted

limit_within : (b : Bool) (n : ℕ) → (if b then 1000000 else min 1000000 n) ≤ 1000000
limit_within true n = omega arith
limit_within false n = omega arith

range_below : (n : ℕ) → All (λ i. i < n) (range_with_len 0 n)
range_below n = All-from_get_or (λ i. i < n) (range_with_len 0 n) 0 (λ i lt.
    let within : i < n = omega (arith, lt, length-range_with_len 0 n) in omega (arith, within, get_or-range_with_len 0 n i 0 within))

each_append : {X : Type 0} (P : X → Type 0) (xs ys : List X) → AllByRecursion P xs → AllByRecursion P ys → AllByRecursion P (xs ++ ys)
each_append P [] ys h k = k
each_append P (x ∷ xs) ys h k = (h.0, each_append P xs ys h.1 k)

one_as : (index : ℕ) (answer : Option Answer) → length (ranged_as index answer) ≤ 1
one_as index None = omega arith
one_as index (Some no_parts) = omega arith
one_as index (Some whole) = omega arith
one_as index (Some (ranges p list)) = omega arith

as_few : (known : List Known) → length (ranged_in known) ≤ length known
as_few [] = omega arith
as_few (k ∷ known) = omega (arith, length-append (ranged_as k.index k.answer) (ranged_in known), one_as k.index k.answer, as_few known)

module _ (settings : Settings) (q : Question) (schema : Schema) where
  module _ (cond : Tree) where
    few_answer : (index : ℕ) (a : Answer) → index < length schema.indexes
        → IsAnswer schema.columns (parts_in schema index) (items_limit settings.memory) cond a
        → AllByRecursion (IsNarrowed schema) (ranged_as index (Some a))
    few_answer index no_parts there h = tt
    few_answer index whole there h = tt
    few_answer index (ranges p list) there h = (
      record {
        there = there;
        few = few_ranges schema.columns (parts_in schema index) (items_limit settings.memory) 1000000 cond p list
            (limit_within (nat_eq settings.memory 0) (settings.memory / 230)) (omega arith) h;
      },
      tt,
    )

    few_at : (index : ℕ) (b : Bool) → index < length schema.indexes
        → AllByRecursion (IsNarrowed schema)
        (ranged_as index (if b then Some (answer_for schema.columns (parts_in schema index) (items_limit settings.memory) cond) else None))
    few_at index true there =
        few_answer index (answer_for schema.columns (parts_in schema index) (items_limit settings.memory) cond) there
        (given_is_answer schema.columns (parts_in schema index) (items_limit settings.memory) cond)
    few_at index false there = tt

    each_few : (ns : List ℕ) → AllByRecursion (λ n. n < length schema.indexes) ns
        → AllByRecursion (IsNarrowed schema) (ranged_in (map (known_at settings q schema cond) ns))
    each_few [] h = tt
    each_few (n ∷ ns) h =
        each_append (IsNarrowed schema) (ranged_as n (known_at settings q schema cond n).answer) (ranged_in (map (known_at settings q schema cond) ns))
        (few_at n (is_usable q n) h.0) (each_few ns h.1)

    -- each index that a condition narrows is there, and has few ranges
    pub all_narrowed : AllByRecursion (IsNarrowed schema) (ranged_by settings q schema cond)
    all_narrowed =
        each_few (index_numbers schema) (recursion_from_All (λ n. n < length schema.indexes) (index_numbers schema) (range_below (length schema.indexes)))

    -- they are no more than there may be indexes
    pub few_narrowed : IsSchema schema → length (ranged_by settings q schema cond) ≤ most_scans
    few_narrowed is =
        omega (
          arith,
          as_few (known_by settings q schema cond),
          length-map (index_numbers schema) (known_at settings q schema cond),
          length-range_with_len 0 (length schema.indexes),
          few_indexes schema is,
        )

  numbers_known : (ns : List ℕ) → map (λ k. k.index) (map (known_at settings q schema q.cond) ns) ≡ ns
  numbers_known [] = refl
  numbers_known (n ∷ ns) = ap (λ l. n ∷ l) (numbers_known ns)

  known_when : (n : ℕ) (b : Bool) → is_usable q n ≡ b
      → IsKnownAs settings q schema n (if b then Some (answer_for schema.columns (parts_in schema n) (items_limit settings.memory) q.cond) else None)
  known_when n true e = (e, given_is_answer schema.columns (parts_in schema n) (items_limit settings.memory) q.cond)
  known_when n false e = e

  each_known : (ns : List ℕ) → AllByRecursion (IsKnown settings q schema) (map (known_at settings q schema q.cond) ns)
  each_known [] = tt
  each_known (n ∷ ns) = (known_when n (is_usable q n) refl, each_known ns)

  known_are : AreKnown settings q schema (known_by settings q schema q.cond)
  known_are = record {
    numbers = numbers_known (index_numbers schema);
    each = All-from_recursion (IsKnown settings q schema) (known_by settings q schema q.cond) (each_known (index_numbers schema));
  }

  -- what is known of all indexes is what is given as a list
  pub known_same : (known : List Known) → AreKnown settings q schema known → known ≡ known_by settings q schema q.cond
  known_same known are = one_known settings q schema known (known_by settings q schema q.cond) are known_are
