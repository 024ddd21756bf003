-- The plan over the first indexes, one index more, and all of them.
use Rattle.std.proofs.Common.{◌≡◌, ◌≤◌, ◌+◌, ◌/◌, ℕ, min, nat_eq, Bool, true, false, not, List, [], ◌∷◌, ◌++◌, length, map, Option, Some, None, IfSome, if◌then◌else◌, All, refl, ap, ap₂, sym, ◌∙◌, subst, arith}
use Rattle.std.specs.List.{filter, sum_by, range_with_len, AllZip}
use Rattle.std.proofs.lemmas.Grind.{flat_map-append}
use Rattle.std.proofs.lemmas.List.{append-nil, map_push}
use Rattle.std.proofs.lemmas.List.Elements.{All-nil, All-cons, All-push, All-append}
use Rattle.std.proofs.lemmas.List.Sums.{sum_by-cons, sum_by-append}
use Rattle.rx_value.specs.declared.ranges.KeyRange.{KeyRange}
use Rattle.rx_query.specs.declared.settings.Settings.{Settings}
use Rattle.rx_query.specs.Steps.{Question}
use Rattle.rx_index.specs.declared.indexed.Indexed.{Indexed}
use Rattle.rx_store.specs.declared.tables.Counts.{Counts}
use Rattle.rx_store.specs.Tables.{Meaning}
use Rattle.rx_ranges.specs.Answers.{Answer, ranges}
use Rattle.rx_ranges.proofs.Keeping.{ranges_rise, ranges_keep}
use Rattle.rx_estimate.specs.Estimates.{parts_in, uses_statistics, dive_seeks, with_seeks, IsEstimate}
use Rattle.rx_estimate.proofs.Steps.{with_seeks-more}
use Rattle.rx_cost.specs.declared.candidates.Role.TheVariants.{Scan as ScanRole}
use Rattle.rx_cost.specs.declared.candidates.Scan.{Scan}
use Rattle.rx_cost.specs.declared.candidates.Candidate.{Candidate}
use Rattle.rx_build.specs.declared.answers.Answer.{Answer as Found}
use Rattle.rx_build.specs.declared.answers.Answer.TheVariants.{Ranges}
use Rattle.rx_plan.specs.declared.plans.OrdinaryPlan.{OrdinaryPlan}
use Rattle.rx_plan.specs.declared.parts.IndexPlan.{IndexPlan}
use Rattle.rx_plan.specs.Known.{Known, Ranged, IsKnown, IsKnownAs, reason_of, ranged_as, ranged_in, items_limit}
use Rattle.rx_plan.specs.Candidates.{table_scan, index_scan, is_covering, range_scan, range_scans, estimated}
use Rattle.rx_plan.specs.Plan.{IsRangeScan, AreRangeScans, LosesNoRow, KeepsRows, IsOrdinary, seeks_taken}
use Rattle.rx_plan.specs.Parts.{answer_found, listed, IsRangePart, IsIndexPlan, with_part}
use Rattle.rx_plan.proofs.Few.{few_ranges}
use Rattle.rx_plan.proofs.Named.{range_more, filter_map_more}
use Rattle.rx_plan.proofs.Suiting.{ranges_suit}

-- the plan over the first so many indexes
pub record IsPlannedTo (settings : Settings) (q : Question) (table : Meaning) (n : ℕ) (plan : OrdinaryPlan) : Type 0 where
  pub known : List Known
  pub numbers : map (λ k. k.index) known ≡ range_with_len 0 n
  pub each : All (IsKnown settings q table.schema) known
  pub answers : plan.answers ≡ map reason_of known
  pub scans : plan.scans ≡ table_scan table.count ∷ map (index_scan table.count) (filter (is_covering q table.schema) (range_with_len 0 n))
  pub ranges : AreRangeScans settings q table (ranged_in known) plan.ranges
  pub keep : All (KeepsRows table.schema q.cond) plan.ranges

zip_append : {A B : Type 0} (R : A → B → Type 0) (xs us : List A) (ys vs : List B) → AllZip R xs ys → AllZip R us vs → AllZip R (xs ++ us) (ys ++ vs)
zip_append R [] us [] vs h k = k
zip_append R [] us (y ∷ ys) vs h k = absurd h
zip_append R (x ∷ xs) us [] vs h k = absurd h
zip_append R (x ∷ xs) us (y ∷ ys) vs h k = (h.0, zip_append R xs us ys vs h.1 k)

one_sum : {A : Type 0} (f : A → ℕ) (x : A) → sum_by f (x ∷ []) ≡ f x
one_sum f x = omega (arith, sum_by-cons f x [])

limit_within : (b : Bool) (n : ℕ) → (if b then 1000000 else min 1000000 n) ≤ 1000000
limit_within true n = omega arith
limit_within false n = omega arith

ranged_more : (known : List Known) (index : ℕ) (answer : Option Answer) → ranged_in (known ++ record { index = index; answer = answer } ∷ []) ≡ ranged_in known ++ ranged_as index answer
ranged_more known index answer =
    flat_map-append (λ (k : Known). ranged_as k.index k.answer) known (record { index = index; answer = answer } ∷ [])
    ∙ ap (λ l. ranged_in known ++ l) (append-nil (ranged_as index answer))

module _ (settings : Settings) (q : Question) (table : Meaning) where
  -- before any index
  pub planned_none : (plan : OrdinaryPlan) → plan ≡ record { scans = table_scan table.count ∷ []; ranges = []; answers = [] } → IsPlannedTo settings q table 0 plan
  planned_none plan is = record {
    known = [];
    numbers = refl;
    each = All-nil (IsKnown settings q table.schema);
    answers = ap (λ p. p.answers) is;
    scans = ap (λ p. p.scans) is;
    ranges = subst (λ (p : OrdinaryPlan). AreRangeScans settings q table [] p.ranges) (sym is) tt;
    keep = subst (λ (p : OrdinaryPlan). All (KeepsRows table.schema q.cond) p.ranges) (sym is) (All-nil (KeepsRows table.schema q.cond));
  }

  -- one index more
  pub planned_more : (n : ℕ) (plan new : OrdinaryPlan) (part : IndexPlan) → new ≡ with_part plan part → IsPlannedTo settings q table n plan → IsIndexPlan settings q table n part → IsPlannedTo settings q table (n + 1) new
  planned_more n plan new part is to more =
      let k : Known = record { index = n; answer = more.answer } in
      subst (IsPlannedTo settings q table (n + 1)) (sym is) (record {
        known = to.known ++ k ∷ [];
        numbers = map_push (λ (x : Known). x.index) to.known k ∙ ap (λ l. l ++ n ∷ []) to.numbers ∙ sym (range_more n);
        each = All-push (IsKnown settings q table.schema) to.known k to.each more.known;
        answers = ap₂ (λ l r. l ++ r ∷ []) to.answers more.reason ∙ sym (map_push reason_of to.known k);
        scans = ap₂ (λ l r. l ++ r) to.scans more.scan ∙ ap (λ l. table_scan table.count ∷ l) (sym (filter_map_more (index_scan table.count) (is_covering q table.schema) n));
        ranges = subst (λ (l : List Ranged). AreRangeScans settings q table l (plan.ranges ++ listed part.range)) (sym (ranged_more to.known n more.answer))
            (zip_append (IsRangeScan settings q table) (ranged_in to.known) (ranged_as n more.answer) plan.ranges (listed part.range) to.ranges more.range.is);
        keep = All-append (KeepsRows table.schema q.cond) plan.ranges (listed part.range) to.keep more.range.keep;
      })

  -- the seeks for one index more
  pub seeks_more : (plan new : OrdinaryPlan) (part : IndexPlan) (a b d : Counts) → new ≡ with_part plan part → b ≡ with_seeks (seeks_taken settings plan.ranges) a
      → d ≡ with_seeks (seeks_taken settings (listed part.range)) b → d ≡ with_seeks (seeks_taken settings new.ranges) a
  seeks_more plan new part a b d is e f =
      let of : Candidate → ℕ = λ (x : Candidate). sum_by (λ (s : Scan). dive_seeks settings.dive_limit s.ranges) x.scans in
      f ∙ with_seeks-more (seeks_taken settings plan.ranges) (seeks_taken settings (listed part.range)) a b e
      ∙ ap (λ n. with_seeks n a) (sym (ap (λ (p : OrdinaryPlan). seeks_taken settings p.ranges) is ∙ sum_by-append of plan.ranges (listed part.range)))

  estimate_at : (t : Indexed) (r : Ranged) (rows : ℕ) → table.told ≡ Some t → IsEstimate table r.index settings.dive_limit r.list rows → rows ≡ estimated settings table t r
  estimate_at t r rows e h = subst (λ (o : Option Indexed). IfSome o (λ t. rows ≡ estimated settings table t r)) e h

  same_scans : (t : Indexed) (rs : List Ranged) (cs : List Candidate) → table.told ≡ Some t → AreRangeScans settings q table rs cs
      → cs ≡ map (λ r. range_scan settings q table.schema r (estimated settings table t r)) rs
  same_scans t [] [] e h = refl
  same_scans t [] (c ∷ cs) e h = absurd h
  same_scans t (r ∷ rs) [] e h = absurd h
  same_scans t (r ∷ rs) (c ∷ cs) e h =
      ap₂ (λ x l. x ∷ l) (h.0.is ∙ ap (range_scan settings q table.schema r) (estimate_at t r c.rows e h.0.estimate)) (same_scans t rs cs e h.1)

  scans_told : (o : Option Indexed) (known : List Known) (cs : List Candidate) → table.told ≡ o → AreRangeScans settings q table (ranged_in known) cs
      → IfSome o (λ t. cs ≡ range_scans settings q table t known)
  scans_told None known cs e h = tt
  scans_told (Some t) known cs e h = same_scans t (ranged_in known) cs e h

  seeks_of_one : (r : Ranged) (c : Candidate) → IsRangeScan settings q table r c → sum_by (λ (s : Scan). dive_seeks settings.dive_limit s.ranges) c.scans ≡ dive_seeks settings.dive_limit r.list
  seeks_of_one r c h =
      let f : Scan → ℕ = λ (s : Scan). dive_seeks settings.dive_limit s.ranges in
      ap (λ (x : Candidate). sum_by f x.scans) h.is
      ∙ one_sum f (record { index = r.index; role = ScanRole; member = 1; part = 0; ranges = r.list; dives = not (uses_statistics settings.dive_limit r.list); rows = c.rows })

  seeks_same : (rs : List Ranged) (cs : List Candidate) → AreRangeScans settings q table rs cs → seeks_taken settings cs ≡ sum_by (λ r. dive_seeks settings.dive_limit r.list) rs
  seeks_same [] [] h = refl
  seeks_same [] (c ∷ cs) h = absurd h
  seeks_same (r ∷ rs) [] h = absurd h
  seeks_same (r ∷ rs) (c ∷ cs) h =
      omega (
        arith,
        sum_by-cons (λ (x : Candidate). sum_by (λ (s : Scan). dive_seeks settings.dive_limit s.ranges) x.scans) c cs,
        sum_by-cons (λ (x : Ranged). dive_seeks settings.dive_limit x.list) r rs,
        seeks_of_one r c h.0,
        seeks_same rs cs h.1,
      )

  -- over all indexes
  pub planned_all : (plan : OrdinaryPlan) → IsPlannedTo settings q table (length table.schema.indexes) plan → IsOrdinary settings q table plan
  planned_all plan to = record {
    known = to.known;
    are_known = record { numbers = to.numbers; each = to.each };
    answers = to.answers;
    scans = to.scans;
    ranges = to.ranges;
    told = scans_told table.told to.known plan.ranges refl to.ranges;
    seeks = seeks_same (ranged_in to.known) plan.ranges to.ranges;
  }

  -- the range scan of an index where ranges are the answer loses no row
  pub used_keeps : (index p : ℕ) (list : List KeyRange) (c : Candidate) → IsKnownAs settings q table.schema index (Some (ranges p list))
      → c ≡ range_scan settings q table.schema (record { index = index; list = list }) c.rows → KeepsRows table.schema q.cond c
  used_keeps index p list c known is =
      let parts = parts_in table.schema index in
      let limit = items_limit settings.memory in
      subst (KeepsRows table.schema q.cond) (sym is)
      (All-cons (LosesNoRow table.schema q.cond) _ [] (record {
        each = ranges_suit table.schema.columns parts limit q.cond p list known.1.0;
        rise = ranges_rise table.schema.columns parts limit q.cond p list known.1.0;
        keep = λ row compares fits holds. ranges_keep table.schema parts limit q.cond p list row compares known.1.0 fits holds;
      }) (All-nil (LosesNoRow table.schema q.cond)))

  known_ranges : (index p : ℕ) (list : List KeyRange) (found : Option Found) (a : Found) → found ≡ Some a → a ≡ Ranges p list → IsKnownAs settings q table.schema index (answer_found found)
      → IsKnownAs settings q table.schema index (Some (ranges p list))
  known_ranges index p list found a is of known =
      subst (λ (f : Option Found). IsKnownAs settings q table.schema index (answer_found f)) (is ∙ ap Some of) known

  -- where ranges are found, there are no more than may be counted
  pub few_found : (index p : ℕ) (list : List KeyRange) (found : Option Found) (a : Found) → found ≡ Some a → a ≡ Ranges p list → IsKnownAs settings q table.schema index (answer_found found)
      → length list ≤ 1000000
  few_found index p list found a is of known =
      few_ranges table.schema.columns (parts_in table.schema index) (items_limit settings.memory) 1000000 q.cond p list (limit_within (nat_eq settings.memory 0) (settings.memory / 230)) (omega arith)
      (known_ranges index p list found a is of known).1

  -- and their scan is what is to be added
  pub scan_found : (index p : ℕ) (list : List KeyRange) (found : Option Found) (a : Found) (c : Candidate) → found ≡ Some a → a ≡ Ranges p list
      → IsKnownAs settings q table.schema index (answer_found found) → IsRangeScan settings q table (record { index = index; list = list }) c
      → IsRangePart settings q table index (answer_found found) (Some c)
  scan_found index p list found a c is of known h =
      subst (λ (f : Option Found). IsRangePart settings q table index (answer_found f) (Some c)) (sym (is ∙ ap Some of)) (record {
        is = (h, tt);
        keep = All-cons (KeepsRows table.schema q.cond) c [] (used_keeps index p list c (known_ranges index p list found a is of known) h.is) (All-nil (KeepsRows table.schema q.cond));
      })
