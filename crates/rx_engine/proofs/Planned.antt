-- The plan of a question: what is known of the indexes, and its candidates.
use Rattle.std.proofs.Common.{◌≡◌, ℕ, ◌≤◌, ◌*◌, ◌/◌, min, nat_eq, not, Bool, true, false, List, [], ◌∷◌, ◌++◌, map, length, Option, Some, None, IfSome, All, if◌then◌else◌, refl, ap, ap₂, sym, ◌∙◌, subst, arith}
use Rattle.std.specs.List.{sum_by, range_with_len, AllZip, AllByRecursion}
use Rattle.std.proofs.lemmas.List.{append-nil, length-map}
use Rattle.std.proofs.lemmas.List.FromFn.{length-range_with_len}
use Rattle.std.proofs.lemmas.List.Sums.{sum_by-cons}
use Rattle.std.proofs.lemmas.List.Elements.{All-nil, All-cons, All-append, All-head, All-tail, All-from_recursion, recursion_from_All}
use Rattle.rx_value.specs.declared.ranges.KeyRange.{KeyRange}
use Rattle.rx_value.specs.declared.shapes.Schema.{Schema}
use Rattle.rx_value.specs.Shape.{IsSchema}
use Rattle.rx_query.specs.declared.settings.Settings.{Settings}
use Rattle.rx_query.specs.Steps.{Question}
use Rattle.rx_index.specs.declared.indexed.Indexed.{Indexed}
use Rattle.rx_index.proofs.Making.{few_indexes}
use Rattle.rx_store.specs.declared.tables.Counts.{Counts}
use Rattle.rx_store.specs.Tables.{Meaning, IsMeaning}
use Rattle.rx_ranges.specs.Answers.{Answer, no_parts, whole, ranges}
use Rattle.rx_estimate.specs.Estimates.{parts_in, uses_statistics, is_dived, seeks_for, dive_seeks, with_seeks}
use Rattle.rx_cost.specs.declared.candidates.Role.TheVariants.{Scan as InRanges}
use Rattle.rx_cost.specs.declared.candidates.Scan.{Scan}
use Rattle.rx_cost.specs.declared.candidates.Candidate.{Candidate}
use Rattle.rx_cost.specs.Costs.{most_counted}
use Rattle.rx_build.specs.Given.{answer_for}
use Rattle.rx_build.proofs.Given.{given_is_answer}
use Rattle.rx_plan.specs.declared.plans.OrdinaryPlan.{OrdinaryPlan}
use Rattle.rx_plan.specs.Naming.{is_usable, index_numbers}
use Rattle.rx_plan.specs.Known.{Known, Ranged, items_limit, IsKnown, IsKnownAs, AreKnown, known_at, known_of, reason_of, ranged_as, ranged_in, seeks_known}
use Rattle.rx_plan.specs.Candidates.{table_scan, index_scan, covering_scans, range_scan, range_scans}
use Rattle.rx_candidates.specs.Candidates.{candidates}
use Rattle.rx_plan.specs.Plan.{IsRangeScan, AreRangeScans, LosesNoRow, KeepsRows, IsOrdinary, seeks_taken}
use Rattle.rx_plan.proofs.Few.{few_ranges}
use Rattle.rx_plan.proofs.Once.{known_are, known_same}
use Rattle.rx_scan.specs.Handing.{IsScan, IsScanOfKind}
use Rattle.rx_scan.specs.Visits.{ranges_of}
use Rattle.rx_access.proofs.Runs.{ranges_so, all_run}
use Rattle.rx_engine.specs.declared.plans.Plan.{Plan}
use Rattle.rx_plan.specs.Seeks.{most_told, seeks_of_scan, seeks_of_candidate}
use Rattle.rx_engine.specs.Candidates.{dives_of, candidates_of}
use Rattle.rx_engine.specs.Plan.{HasFewRanges, IsPlan, IsListed}

-- ---- what is known of the indexes

module _ (settings : Settings) (q : Question) (schema : Schema) where
  pub many_known : length (known_of settings q schema) ≡ length schema.indexes
  many_known = length-map (index_numbers schema) (known_at settings q schema q.cond) ∙ length-range_with_len 0 (length schema.indexes)

-- ---- the seeks of the estimates

not_not : (b : Bool) → not (not b) ≡ b
not_not true = refl
not_not false = refl

one_sum : {X : Type 0} (f : X → ℕ) (x : X) → sum_by f (x ∷ []) ≡ f x
one_sum f x = omega (arith, sum_by-cons f x [])

limit_within : (b : Bool) (n : ℕ) → (if b then 1000000 else min 1000000 n) ≤ 1000000
limit_within true n = omega arith
limit_within false n = omega arith

two_at_most : (b : Bool) → (if b then 2 else 0) ≤ 2
two_at_most true = omega arith
two_at_most false = omega arith

-- two seeks for each range at most
seeks_within : (b : Bool) (list : List KeyRange) → sum_by (seeks_for b) list ≤ 2 * length list
seeks_within b [] = omega arith
seeks_within b (r ∷ rs) = omega (arith, sum_by-cons (seeks_for b) r rs, seeks_within b rs, two_at_most (is_dived b r))

module _ (settings : Settings) (q : Question) (table : Meaning) where
  abbrev scan_in : Ranged → Candidate → Scan
  scan_in r c = record { index = r.index; role = InRanges; member = 1; part = 0; ranges = r.list; dives = not (uses_statistics settings.dive_limit r.list); rows = c.rows }

  told_seeks : (r : Ranged) (c : Candidate) → IsRangeScan settings q table r c → seeks_of_candidate c ≡ dive_seeks settings.dive_limit r.list
  told_seeks r c h =
      ap seeks_of_candidate h.is
      ∙ one_sum seeks_of_scan (scan_in r c)
      ∙ ap (λ b. sum_by (seeks_for b) r.list) (not_not (uses_statistics settings.dive_limit r.list))

  seeks_told : (rs : List Ranged) (cs : List Candidate) → AreRangeScans settings q table rs cs → sum_by seeks_of_candidate cs ≡ sum_by (λ r. dive_seeks settings.dive_limit r.list) rs
  seeks_told [] [] h = refl
  seeks_told [] (c ∷ cs) h = absurd h
  seeks_told (r ∷ rs) [] h = absurd h
  seeks_told (r ∷ rs) (c ∷ cs) h =
      omega (arith, sum_by-cons seeks_of_candidate c cs, sum_by-cons (λ (x : Ranged). dive_seeks settings.dive_limit x.list) r rs, told_seeks r c h.0, seeks_told rs cs h.1)

  -- ---- each has few ranges

  few_as : (index : ℕ) (answer : Option Answer) → IsKnownAs settings q table.schema index answer → AllByRecursion (λ (r : Ranged). length r.list ≤ most_counted) (ranged_as index answer)
  few_as index None h = tt
  few_as index (Some no_parts) h = tt
  few_as index (Some whole) h = tt
  few_as index (Some (ranges p list)) h =
      (few_ranges table.schema.columns (parts_in table.schema index) (items_limit settings.memory) 1000000 q.cond p list (limit_within (nat_eq settings.memory 0) (settings.memory / 230)) (omega arith) h.1, tt)

  each_append : {X : Type 0} (P : X → Type 0) (xs ys : List X) → AllByRecursion P xs → AllByRecursion P ys → AllByRecursion P (xs ++ ys)
  each_append P [] ys h k = k
  each_append P (x ∷ xs) ys h k = (h.0, each_append P xs ys h.1 k)

  few_in : (known : List Known) → AllByRecursion (IsKnown settings q table.schema) known → AllByRecursion (λ (r : Ranged). length r.list ≤ most_counted) (ranged_in known)
  few_in [] h = tt
  few_in (k ∷ known) h = each_append (λ (r : Ranged). length r.list ≤ most_counted) (ranged_as k.index k.answer) (ranged_in known) (few_as k.index k.answer h.0) (few_in known h.1)

  one_as : (index : ℕ) (answer : Option Answer) → length (ranged_as index answer) ≤ 1
  one_as index None = omega arith
  one_as index (Some no_parts) = omega arith
  one_as index (Some whole) = omega arith
  one_as index (Some (ranges p list)) = omega arith

  dives_within : (known : List Known) → AllByRecursion (IsKnown settings q table.schema) known → seeks_known settings known ≤ 2000000 * length known
  dives_within [] h = omega arith
  dives_within (k ∷ known) h = by (ranged_as k.index k.answer) (few_as k.index k.answer h.0) (one_as k.index k.answer) (dives_within known h.1)
    where
      f : Ranged → ℕ
      f r = dive_seeks settings.dive_limit r.list

      by : (rs : List Ranged) → AllByRecursion (λ (r : Ranged). length r.list ≤ most_counted) rs → length rs ≤ 1 → sum_by f (ranged_in known) ≤ 2000000 * length known
          → sum_by f (rs ++ ranged_in known) ≤ 2000000 * length (k ∷ known)
      by [] few one later = omega (arith, later)
      by (r ∷ []) few one later = omega (arith, later, few.0, sum_by-cons f r (ranged_in known), seeks_within (uses_statistics settings.dive_limit r.list) r.list)
      by (r ∷ s ∷ rs) few one later = absurd (omega (arith, one))

  -- they are told as they are
  pub dives_exact : IsMeaning table → min most_told (dives_of settings q table.schema) ≡ dives_of settings q table.schema
  dives_exact sound =
      let known = known_of settings q table.schema in
      let within = dives_within known (recursion_from_All (IsKnown settings q table.schema) known (known_are settings q table.schema).each) in
      omega (arith, within, many_known settings q table.schema, few_indexes table.schema sound.limits)

  -- ---- all can be run

  range_runs : (r : Ranged) (c : Candidate) → IsRangeScan settings q table r c → KeepsRows table.schema q.cond c → IsScan table.schema c
  range_runs r c h keep =
      let scan = scan_in r c in
      let one : c.scans ≡ scan ∷ [] = ap (λ (x : Candidate). x.scans) h.is in
      subst (λ k. IsScanOfKind k table.schema c) (sym (ap (λ (x : Candidate). x.kind) h.is)) (record {
        scan = scan;
        one = one;
        role = refl;
        there = h.there;
        ranges = ranges_so table.schema q.cond scan (All-head (LosesNoRow table.schema q.cond) scan [] (subst (All (LosesNoRow table.schema q.cond)) one keep));
      })

  ranges_run : (rs : List Ranged) (cs : List Candidate) → AreRangeScans settings q table rs cs → AllByRecursion (KeepsRows table.schema q.cond) cs → AllByRecursion (IsScan table.schema) cs
  ranges_run [] [] h keep = tt
  ranges_run [] (c ∷ cs) h keep = absurd h
  ranges_run (r ∷ rs) [] h keep = absurd h
  ranges_run (r ∷ rs) (c ∷ cs) h keep = (range_runs r c h.0 keep.0, ranges_run rs cs h.1 keep.1)

  few_scans : (rs : List Ranged) (cs : List Candidate) → AreRangeScans settings q table rs cs → AllByRecursion (λ (r : Ranged). length r.list ≤ most_counted) rs → AllByRecursion HasFewRanges cs
  few_scans [] [] h few = tt
  few_scans [] (c ∷ cs) h few = absurd h
  few_scans (r ∷ rs) [] h few = absurd h
  few_scans (r ∷ rs) (c ∷ cs) h few = (subst HasFewRanges (sym h.0.is) few.0, few_scans rs cs h.1 few.1)

  front : {X : Type 0} (P : X → Type 0) (xs ys : List X) → AllByRecursion P (xs ++ ys) → AllByRecursion P xs
  front P [] ys h = tt
  front P (x ∷ xs) ys h = (h.0, front P xs ys h.1)

  no_table : Indexed
  no_table = record { schema = table.schema; rows = []; orders = []; different = [] }

  scans_run : AllByRecursion (IsScan table.schema) (table_scan table.count ∷ covering_scans q table)
  scans_run =
      let known = known_of settings q table.schema in
      let all = candidates settings q table no_table known in
      front (IsScan table.schema) (table_scan table.count ∷ covering_scans q table) (range_scans settings q table no_table known ++ [])
      (recursion_from_All (IsScan table.schema) all (all_run settings q table no_table known (known_are settings q table.schema)))

  coverings_few : (is : List ℕ) → AllByRecursion HasFewRanges (map (index_scan table.count) is)
  coverings_few [] = tt
  coverings_few (i ∷ is) = (omega arith, coverings_few is)

  joined : (P : Candidate → Type 0) (ordinary : OrdinaryPlan) (plan : Plan) → plan.all ≡ ordinary.scans ++ ordinary.ranges → ordinary.scans ≡ table_scan table.count ∷ covering_scans q table
      → AllByRecursion P (table_scan table.count ∷ covering_scans q table) → AllByRecursion P ordinary.ranges → All P plan.all
  joined P ordinary plan all scans h k =
      subst (All P) (sym all) (All-from_recursion P (ordinary.scans ++ ordinary.ranges) (each_append P ordinary.scans ordinary.ranges (subst (AllByRecursion P) (sym scans) h) k))

  all_candidates : (ordinary : OrdinaryPlan) (plan : Plan) (known : List Known) → plan.all ≡ ordinary.scans ++ ordinary.ranges → ordinary.scans ≡ table_scan table.count ∷ covering_scans q table
      → known ≡ known_of settings q table.schema → (told : Option Indexed) → IfSome told (λ t. ordinary.ranges ≡ range_scans settings q table t known) → IfSome told (λ t. plan.all ≡ candidates_of settings q table t)
  all_candidates ordinary plan known all scans same None h = tt
  all_candidates ordinary plan known all scans same (Some t) h =
      all
      ∙ ap₂ (λ xs ys. xs ++ ys) scans (h ∙ ap (range_scans settings q table t) same ∙ sym (append-nil (range_scans settings q table t (known_of settings q table.schema))))

  -- the plan that is listed of an ordinary one
  pub planned : (ordinary : OrdinaryPlan) (plan : Plan) → IsOrdinary settings q table ordinary → All (KeepsRows table.schema q.cond) ordinary.ranges → IsListed ordinary plan → IsPlan settings q table plan
  planned ordinary plan is keep listed =
      let same = known_same settings q table.schema is.known is.are_known in
      let known = recursion_from_All (IsKnown settings q table.schema) is.known is.are_known.each in
      record {
        reasons = listed.reasons ∙ is.answers ∙ ap (map reason_of) same;
        dives = listed.dives ∙ ap (min most_told) (seeks_told (ranged_in is.known) ordinary.ranges is.ranges ∙ ap (seeks_known settings) same);
        place = listed.place;
        can_run = joined (IsScan table.schema) ordinary plan listed.all is.scans scans_run
            (ranges_run (ranged_in is.known) ordinary.ranges is.ranges (recursion_from_All (KeepsRows table.schema q.cond) ordinary.ranges keep));
        few = joined HasFewRanges ordinary plan listed.all is.scans (omega arith, coverings_few _) (few_scans (ranged_in is.known) ordinary.ranges is.ranges (few_in is.known known));
        told = all_candidates ordinary plan is.known listed.all is.scans same table.told is.told;
      }

  -- the seeks that the ordinary plan made are those of the estimates
  pub dives_made : (ordinary : OrdinaryPlan) (a b : Counts) → IsOrdinary settings q table ordinary → b ≡ with_seeks (seeks_taken settings ordinary.ranges) a → b ≡ with_seeks (dives_of settings q table.schema) a
  dives_made ordinary a b is e = e ∙ ap (λ n. with_seeks n a) (is.seeks ∙ ap (seeks_known settings) (known_same settings q table.schema is.known is.are_known))
