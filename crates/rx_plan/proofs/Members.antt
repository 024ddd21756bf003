-- Each covering scan and each range scan is one.
use Rattle.std.proofs.Common.{◌≡◌, ◌<◌, ℕ, Bool, true, false, not, List, [], ◌∷◌, ◌++◌, length, map, get_or, Option, Some, None, All, cond, refl, sym, ◌∙◌, subst, arith}
use Rattle.std.specs.List.{list_all, filter, range_with_len, AllByRecursion}
use Rattle.std.specs.Option.{is_none}
use Rattle.std.proofs.lemmas.Bool.{and_parts}
use Rattle.std.proofs.lemmas.List.{map-append}
use Rattle.std.proofs.lemmas.List.Elements.{All-from_recursion, All-from_get_or, recursion_from_All}
use Rattle.std.proofs.lemmas.List.FromFn.{length-range_with_len, get_or-range_with_len}
use Rattle.rx_value.specs.declared.ranges.KeyRange.{KeyRange}
use Rattle.rx_value.specs.declared.shapes.Part.{Part}
use Rattle.rx_value.specs.declared.shapes.Schema.{Schema}
use Rattle.rx_query.specs.declared.settings.Settings.{Settings}
use Rattle.rx_query.specs.Steps.{Question}
use Rattle.rx_index.specs.declared.indexed.Indexed.{Indexed}
use Rattle.rx_store.specs.Tables.{Meaning}
use Rattle.rx_ranges.specs.Answers.{Answer, no_parts, whole, ranges}
use Rattle.rx_estimate.specs.Estimates.{parts_in}
use Rattle.rx_cost.specs.declared.candidates.Candidate.{Candidate}
use Rattle.rx_named.specs.Naming.{names}
use Rattle.rx_plan.specs.Naming.{columns_named, are_whole, is_part, covers, is_primary, is_index_only, is_usable}
use Rattle.rx_plan.specs.Known.{Known, Ranged, IsKnown, IsKnownAs, AreKnown, ranged_as, ranged_in}
use Rattle.rx_plan.specs.Candidates.{index_scan, is_covering, covering_scans, range_scan, range_scans, estimated}
use Rattle.rx_plan.specs.Kinds.{Covers, IsCoveringScan, IsScanOfRanges}
use Rattle.rx_plan.proofs.Stages.{used_keeps}

range_below : (n : ℕ) → All (λ i. i < n) (range_with_len 0 n)
range_below n = All-from_get_or (λ i. i < n) (range_with_len 0 n) 0 (λ i lt.
    let within : i < n = omega (arith, lt, length-range_with_len 0 n) in omega (arith, within, get_or-range_with_len 0 n i 0 within))

whole_parts : (parts : List Part) → are_whole parts ≡ true → AllByRecursion (λ part. part.chars ≡ None) parts
whole_parts [] h = tt
whole_parts (part ∷ parts) h =
    let both = and_parts (is_none part.chars) (are_whole parts) h in
    (none part.chars both.0, whole_parts parts both.1)
  where
    none : (o : Option ℕ) → is_none o ≡ true → o ≡ None
    none None e = refl
    none (Some n) e = absurd (cc e)

-- what passes both tests
kept_by : (p q : ℕ → Bool) (xs : List ℕ) → list_all q (filter p xs) ≡ true → AllByRecursion (λ x. p x ≡ true → q x ≡ true) xs
kept_by p q [] h = tt
kept_by p q (x ∷ xs) h = by_test (p x) refl (kept_by p q xs) h
  where
    by_test : (b : Bool) → p x ≡ b → (list_all q (filter p xs) ≡ true → AllByRecursion (λ y. p y ≡ true → q y ≡ true) xs) → list_all q (cond b (x ∷ filter p xs) (filter p xs)) ≡ true
        → (p x ≡ true → q x ≡ true) × AllByRecursion (λ y. p y ≡ true → q y ≡ true) xs
    by_test true e later k = let both = and_parts (q x) (list_all q (filter p xs)) k in (λ _. both.0, later both.1)
    by_test false e later k = (λ f. absurd (cc (e, f)), later k)

kept_at : (p q : ℕ → Bool) (n : ℕ) → list_all q (filter p (range_with_len 0 n)) ≡ true → (i : ℕ) → i < n → p i ≡ true → q i ≡ true
kept_at p q n h i below passes =
    let all = All-from_recursion (λ x. p x ≡ true → q x ≡ true) (range_with_len 0 n) (kept_by p q (range_with_len 0 n) h) in
    let is : get_or (range_with_len 0 n) i 0 ≡ i = get_or-range_with_len 0 n i 0 below ∙ omega arith in
    subst (λ (x : ℕ). p x ≡ true → q x ≡ true) is (all i 0 (omega (arith, below, length-range_with_len 0 n))) passes

-- an index that covers a question has each column that it names
covers_named : (q : Question) (schema : Schema) (index : ℕ) → covers q schema index ≡ true → Covers q (length schema.columns) (parts_in schema index)
covers_named q schema index h =
    let parts = parts_in schema index in
    let both = and_parts (are_whole parts) (list_all (is_part parts) (columns_named q schema)) h in
    record {
      whole = All-from_recursion (λ (part : Part). part.chars ≡ None) parts (whole_parts parts both.0);
      named = kept_at (names q) (is_part parts) (length schema.columns) both.1;
    }

not_true : (b : Bool) → not b ≡ true → b ≡ false
not_true true e = absurd (cc e)
not_true false e = refl

module _ (q : Question) (table : Meaning) where
  covering_is : (index : ℕ) → index < length table.schema.indexes → is_covering q table.schema index ≡ true → IsCoveringScan q table (index_scan table.count index)
  covering_is index there h =
      let both = and_parts (is_usable q index) (is_index_only q table.schema index) h in
      let only = and_parts (not (is_primary table.schema index)) (covers q table.schema index) both.1 in
      record {
        index = index;
        there = there;
        usable = both.0;
        secondary = not_true (is_primary table.schema index) only.0;
        covers = covers_named q table.schema index only.1;
        is = refl;
      }

  covering_are : (xs : List ℕ) → AllByRecursion (λ i. i < length table.schema.indexes) xs
      → AllByRecursion (IsCoveringScan q table) (map (index_scan table.count) (filter (is_covering q table.schema) xs))
  covering_are [] h = tt
  covering_are (x ∷ xs) h = by_test (is_covering q table.schema x) refl (covering_are xs h.1)
    where
      by_test : (b : Bool) → is_covering q table.schema x ≡ b → AllByRecursion (IsCoveringScan q table) (map (index_scan table.count) (filter (is_covering q table.schema) xs))
          → AllByRecursion (IsCoveringScan q table) (map (index_scan table.count) (cond b (x ∷ filter (is_covering q table.schema) xs) (filter (is_covering q table.schema) xs)))
      by_test true e later = (covering_is x h.0 e, later)
      by_test false e later = later

  -- all covering scans are such
  pub coverings_are : All (IsCoveringScan q table) (covering_scans q table)
  coverings_are =
      let count = length table.schema.indexes in
      All-from_recursion (IsCoveringScan q table) (covering_scans q table)
      (covering_are (range_with_len 0 count) (recursion_from_All (λ (i : ℕ). i < count) (range_with_len 0 count) (range_below count)))

module _ (settings : Settings) (q : Question) (table : Meaning) (t : Indexed) where
  ranged_is : (index p : ℕ) (list : List KeyRange) → index < length table.schema.indexes → IsKnownAs settings q table.schema index (Some (ranges p list))
      → IsScanOfRanges settings q table t (range_scan settings q table.schema (record { index = index; list = list }) (estimated settings table t (record { index = index; list = list })))
  ranged_is index p list there known =
      let schema = table.schema in
      let only = λ (h : is_index_only q schema index ≡ true). and_parts (not (is_primary schema index)) (covers q schema index) h in
      record {
        r = record { index = index; list = list };
        there = there;
        usable = known.0;
        parts = p;
        used = known.1.0;
        is = refl;
        keep = used_keeps settings q table index p list (range_scan settings q schema (record { index = index; list = list }) (estimated settings table t (record { index = index; list = list }))) known refl;
        secondary = λ h. not_true (is_primary schema index) (only h).0;
        covers = λ h. covers_named q schema index (only h).1;
      }

  ranged_are : (index : ℕ) (answer : Option Answer) → index < length table.schema.indexes → IsKnownAs settings q table.schema index answer
      → AllByRecursion (IsScanOfRanges settings q table t) (map (λ r. range_scan settings q table.schema r (estimated settings table t r)) (ranged_as index answer))
  ranged_are index None there known = tt
  ranged_are index (Some no_parts) there known = tt
  ranged_are index (Some whole) there known = tt
  ranged_are index (Some (ranges p list)) there known = (ranged_is index p list there known, tt)

  joined : (xs ys : List Candidate) → AllByRecursion (IsScanOfRanges settings q table t) xs → AllByRecursion (IsScanOfRanges settings q table t) ys → AllByRecursion (IsScanOfRanges settings q table t) (xs ++ ys)
  joined [] ys h k = k
  joined (x ∷ xs) ys h k = (h.0, joined xs ys h.1 k)

  ranges_are : (known : List Known) → AllByRecursion (λ i. i < length table.schema.indexes) (map (λ k. k.index) known) → AllByRecursion (IsKnown settings q table.schema) known
      → AllByRecursion (IsScanOfRanges settings q table t) (range_scans settings q table t known)
  ranges_are [] h each = tt
  ranges_are (k ∷ known) h each =
      subst (AllByRecursion (IsScanOfRanges settings q table t))
      (sym (map-append (λ (r : Ranged). range_scan settings q table.schema r (estimated settings table t r)) (ranged_as k.index k.answer) (ranged_in known)))
      (joined (map (λ (r : Ranged). range_scan settings q table.schema r (estimated settings table t r)) (ranged_as k.index k.answer)) (range_scans settings q table t known)
      (ranged_are k.index k.answer h.0 each.0) (ranges_are known h.1 each.1))

  -- all range scans are such
  pub ranges_known : (known : List Known) → AreKnown settings q table.schema known → All (IsScanOfRanges settings q table t) (range_scans settings q table t known)
  ranges_known known are =
      let count = length table.schema.indexes in
      let below = recursion_from_All (λ (i : ℕ). i < count) (range_with_len 0 count) (range_below count) in
      All-from_recursion (IsScanOfRanges settings q table t) (range_scans settings q table t known)
      (ranges_are known (subst (AllByRecursion (λ (i : ℕ). i < count)) (sym are.numbers) below) (recursion_from_All (IsKnown settings q table.schema) known are.each))
