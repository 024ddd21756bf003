-- The scans of the range scans of a question, and the intersections that they make.
use Rattle.std.proofs.Common.{◌≡◌, ℕ, Bool, true, false, List, [], ◌∷◌, ◌++◌, map, Option, Some, None, IfSome, All, if◌then◌else◌, refl, ap, sym, ◌∙◌, subst}
use Rattle.rx_value.specs.declared.shapes.Schema.{Schema}
use Rattle.rx_query.specs.declared.settings.Settings.{Settings}
use Rattle.rx_query.specs.Steps.{Question}
use Rattle.rx_index.specs.declared.indexed.Indexed.{Indexed}
use Rattle.rx_store.specs.Tables.{Meaning, IsMeaning}
use Rattle.rx_cost.specs.declared.candidates.Scan.{Scan}
use Rattle.rx_cost.specs.declared.candidates.Candidate.{Candidate}
use Rattle.rx_plan.specs.declared.plans.OrdinaryPlan.{OrdinaryPlan}
use Rattle.rx_plan.specs.Naming.{columns_named}
use Rattle.rx_plan.specs.Known.{Ranged, ranged_in, known_by}
use Rattle.rx_plan.specs.Plan.{AreRangeScans, IsOrdinary}
use Rattle.rx_merges.specs.Fitting.{AreScans}
use Rattle.rx_merges.specs.Intersections.{intersections_among}
use Rattle.rx_merges.specs.Rules.{IsIntersection}
use Rattle.rx_merges.proofs.Ruling.{intersections_are}
use Rattle.rx_merge_plan.specs.Disjuncts.{ranged_by, found_scan, ranged_scan, asks_intersections}
use Rattle.rx_merge_plan.specs.Merges.{intersections_at, intersections, CanMerge}
use Rattle.rx_merge_plan.specs.Lists.{scans_in, AreCounted}
use Rattle.rx_merge_plan.proofs.Narrowed.{known_same}
use Rattle.rx_merge_plan.proofs.Counted.{AreReady, found_are, found_told, ready}
use Rattle.rx_merge_plan.proofs.Running.{intersections_run}
use Rattle.rx_merge_plan.proofs.Primary.{counted_are}

module _ (settings : Settings) (q : Question) (table : Meaning) where
  -- the scans of range scans are those of a condition of its own, after their ranges were counted
  counted_in : (rs : List Ranged) (cs : List Candidate) → AreRangeScans settings q table rs cs
      → AreCounted settings table (map (found_scan 1) rs) (scans_in cs)
  counted_in [] [] h = tt
  counted_in [] (c ∷ cs) h = absurd h
  counted_in (r ∷ rs) [] h = absurd h
  counted_in (r ∷ rs) (c ∷ cs) h =
      let one : c.scans ≡ ranged_scan settings 1 r c.rows ∷ [] = ap (λ (x : Candidate). x.scans) h.0.is in
      subst (λ (l : List Scan). AreCounted settings table (map (found_scan 1) (r ∷ rs)) (l ++ scans_in cs)) (sym one)
      (record { is = refl; within = h.0.within; estimate = h.0.estimate }, counted_in rs cs h.1)

  when : (o : Option Indexed) → table.told ≡ o → (list : List Candidate) (f : Indexed → List Candidate) → ((t : Indexed) → table.told ≡ Some t → list ≡ f t)
      → IfSome o (λ t. list ≡ f t)
  when None e list f h = tt
  when (Some t) e list f h = h t e

  -- none are asked for
  pub not_asked : (list : List Candidate) → asks_intersections settings ≡ false → list ≡ []
      → IfSome table.told (λ t. list ≡ intersections settings q table t (known_by settings q table.schema q.cond))
  not_asked list asked none =
      when table.told refl list (λ t. intersections settings q table t (known_by settings q table.schema q.cond)) (λ t e.
      none ∙ sym (ap (λ (b : Bool). if b then intersections_at settings q table t (ranged_by settings q table.schema q.cond) else []) asked))

  module _ (plan : OrdinaryPlan) (is : IsOrdinary settings q table plan) where
    counted : AreCounted settings table (map (found_scan 1) (ranged_by settings q table.schema q.cond)) (scans_in plan.ranges)
    counted =
        subst (λ rs. AreCounted settings table (map (found_scan 1) rs) (scans_in plan.ranges))
        (ap ranged_in (known_same settings q table.schema is.known is.are_known))
        (counted_in (ranged_in is.known) plan.ranges is.ranges)

    -- they can be merged
    ranges_ready : IsMeaning table → AreReady table.schema table.count (scans_in plan.ranges)
    ranges_ready sound =
        ready settings table (map (found_scan 1) (ranged_by settings q table.schema q.cond)) (scans_in plan.ranges)
        (found_are table.schema settings q q.cond 1 sound.limits) counted

    module _ (schema : Schema) (count : ℕ) (ranges : List Candidate) (p : schema ≡ table.schema) (n : count ≡ table.count) (r : ranges ≡ plan.ranges)
        (sound : IsMeaning table) where
      -- read of the table
      pub ranges_are : AreScans schema count (scans_in ranges)
      ranges_are = rw (p, n, r) (ranges_ready sound).are

      module _ (list : List Candidate) (met : list ≡ intersections_among true (columns_named q schema) schema count (scans_in ranges)) where
        met_by : list ≡ intersections_among true (columns_named q table.schema) table.schema table.count (scans_in plan.ranges)
        met_by = met ∙ (λ i. intersections_among true (columns_named q (p i)) (p i) (n i) (scans_in (r i)))

        -- and their intersections are those of the question
        pub met_told : asks_intersections settings ≡ true
            → IfSome table.told (λ t. list ≡ intersections settings q table t (known_by settings q table.schema q.cond))
        met_told asked =
            when table.told refl list (λ t. intersections settings q table t (known_by settings q table.schema q.cond)) (λ t e.
            met_by
            ∙ ap (intersections_among true (columns_named q table.schema) table.schema table.count)
            (found_told settings table t 1 (ranged_by settings q table.schema q.cond) (scans_in plan.ranges) e counted)
            ∙ sym (ap (λ (b : Bool). if b then intersections_at settings q table t (ranged_by settings q table.schema q.cond) else []) asked))

        pub met_run : All (CanMerge table.schema) list
        met_run =
            let h = ranges_ready sound in
            subst (All (CanMerge table.schema)) (sym met_by) (intersections_run table.schema table.count (scans_in plan.ranges)
            h.are h.each true (columns_named q table.schema))

        -- and keep the rules
        pub met_rules : All (IsIntersection table.schema) list
        met_rules =
            subst (All (IsIntersection table.schema)) (sym met_by)
            (intersections_are true (columns_named q table.schema) table.schema table.count (scans_in plan.ranges)
            (counted_are settings table q q.cond 1 (scans_in plan.ranges) sound.limits counted))
