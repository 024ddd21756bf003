-- Scans before and after their ranges were counted: of one condition, and of each disjunct.
use Rattle.std.proofs.Common.{◌≡◌, ◌+◌, ◌<◌, ℕ, suc, List, [], ◌∷◌, ◌++◌, length, map, Option, Some, IfSome, All, refl, ap, ap₂, sym, ◌∙◌, subst, arith}
use Rattle.std.specs.List.{sum_by, AllZip, AllByRecursion}
use Rattle.std.proofs.lemmas.List.{length-map}
use Rattle.std.proofs.lemmas.List.Elements.{All-from_recursion, All-weaker, recursion_from_All}
use Rattle.std.proofs.lemmas.List.Sums.{sum_by-cons}
use Rattle.std.proofs.lemmas.Slice.Zip.{AllZip-long}
use Rattle.rx_value.specs.declared.shapes.Schema.{Schema}
use Rattle.rx_value.specs.Shape.{IsSchema}
use Rattle.rx_cond.specs.Tree.{Tree}
use Rattle.rx_query.specs.declared.settings.Settings.{Settings}
use Rattle.rx_query.specs.Steps.{Question}
use Rattle.rx_index.specs.declared.indexed.Indexed.{Indexed}
use Rattle.rx_store.specs.Tables.{Meaning, HasIndex}
use Rattle.rx_estimate.specs.Estimates.{dive_seeks}
use Rattle.rx_cost.specs.declared.candidates.Scan.{Scan}
use Rattle.rx_plan.specs.Known.{Ranged}
use Rattle.rx_plan.specs.Candidates.{estimated}
use Rattle.rx_merges.specs.Fitting.{IsCounted, AreScans}
use Rattle.rx_merge_plan.specs.Disjuncts.{ranged_by, found_scan, scans_of, scan_lists, seeks_of, IsCountedScan}
use Rattle.rx_merge_plan.specs.Merges.{CanMeet}
use Rattle.rx_merge_plan.specs.Lists.{found_lists, AreFound, AreCounted, counted_scan, counted_lists, scan_seeks}
use Rattle.rx_merge_plan.proofs.Narrowed.{IsNarrowed, all_narrowed, few_narrowed}

-- ---- before

module _ (schema : Schema) where
  meeting : (member : ℕ) (rs : List Ranged) → AllByRecursion (IsNarrowed schema) rs → AllByRecursion (CanMeet schema) (map (found_scan member) rs)
  meeting member [] h = tt
  meeting member (r ∷ rs) h = (record { there = h.0.there; ranges = h.0.few; role = tt }, meeting member rs h.1)

  -- the scans that a condition gives
  pub found_are : (settings : Settings) (q : Question) (cond : Tree) (member : ℕ) → IsSchema schema
      → AreFound schema (map (found_scan member) (ranged_by settings q schema cond))
  found_are settings q cond member is =
      let rs = ranged_by settings q schema cond in
      record {
        each = All-from_recursion (CanMeet schema) (map (found_scan member) rs) (meeting member rs (all_narrowed settings q schema cond));
        few = omega (arith, few_narrowed settings q schema cond is, length-map rs (found_scan member));
      }

  each_found : (settings : Settings) (q : Question) (member : ℕ) (conds : List Tree) → IsSchema schema
      → AllByRecursion (AreFound schema) (found_lists member (map (ranged_by settings q schema) conds))
  each_found settings q member [] is = tt
  each_found settings q member (cond ∷ conds) is = (found_are settings q cond member is, each_found settings q (member + 1) conds is)

  -- and those that each disjunct gives
  pub lists_are : (settings : Settings) (q : Question) (member : ℕ) (conds : List Tree) → IsSchema schema
      → All (AreFound schema) (found_lists member (map (ranged_by settings q schema) conds))
  lists_are settings q member conds is = All-from_recursion (AreFound schema) _ (each_found settings q member conds is)

pub as_many : (member : ℕ) (lists : List (List Ranged)) → length (found_lists member lists) ≡ length lists
as_many member [] = refl
as_many member (list ∷ lists) = ap suc (as_many (member + 1) lists)

-- one disjunct more
pub found_push : (member : ℕ) (lists : List (List Ranged)) (list : List Ranged)
    → found_lists member (lists ++ list ∷ []) ≡ found_lists member lists ++ map (found_scan (member + length lists)) list ∷ []
found_push member [] list = let e : member ≡ member + 0 = omega arith in ap (λ (m : ℕ). map (found_scan m) list ∷ []) e
found_push member (first ∷ lists) list =
    let e : (member + 1) + length lists ≡ member + suc (length lists) = omega arith in
    ap (λ l. map (found_scan member) first ∷ l) (found_push (member + 1) lists list
    ∙ ap (λ (m : ℕ). found_lists (member + 1) lists ++ map (found_scan m) list ∷ []) e)

-- ---- the seeks

module _ (settings : Settings) where
  seeks_found : (member : ℕ) (rs : List Ranged) → scan_seeks settings (map (found_scan member) rs) ≡ seeks_of settings rs
  seeks_found member [] = refl
  seeks_found member (r ∷ rs) =
      omega (
        arith,
        sum_by-cons (λ (s : Scan). dive_seeks settings.dive_limit s.ranges) (found_scan member r) (map (found_scan member) rs),
        sum_by-cons (λ (x : Ranged). dive_seeks settings.dive_limit x.list) r rs,
        seeks_found member rs,
      )

  pub seeks_lists : (member : ℕ) (lists : List (List Ranged)) → sum_by (scan_seeks settings) (found_lists member lists) ≡ sum_by (seeks_of settings) lists
  seeks_lists member [] = refl
  seeks_lists member (list ∷ lists) =
      omega (
        arith,
        sum_by-cons (scan_seeks settings) (map (found_scan member) list) (found_lists (member + 1) lists),
        sum_by-cons (seeks_of settings) list lists,
        seeks_found member list,
        seeks_lists (member + 1) lists,
      )

-- ---- after

-- scans over a table that merges are made of
pub record AreReady (schema : Schema) (count : ℕ) (scans : List Scan) : Type 0 where
  pub are : AreScans schema count scans
  pub each : All (CanMeet schema) scans

module _ (settings : Settings) (table : Meaning) where
  module _ (t : Indexed) where
    counted_found : (member : ℕ) (rs : List Ranged) → map (counted_scan settings table t) (map (found_scan member) rs) ≡ scans_of settings table t member rs
    counted_found member [] = refl
    counted_found member (r ∷ rs) = ap (λ l. counted_scan settings table t (found_scan member r) ∷ l) (counted_found member rs)

    -- the scans of each disjunct, by the rows that the table tells
    pub lists_counted : (member : ℕ) (lists : List (List Ranged))
        → counted_lists settings table t (found_lists member lists) ≡ scan_lists settings table t member lists
    lists_counted member [] = refl
    lists_counted member (list ∷ lists) = ap₂ (λ x l. x ∷ l) (counted_found member list) (lists_counted (member + 1) lists)

    rows_told : (scan counted : Scan) → table.told ≡ Some t → IsCountedScan settings table scan counted
        → counted.rows ≡ estimated settings table t (record { index = scan.index; list = scan.ranges })
    rows_told scan counted e h =
        subst (λ (o : Option Indexed). IfSome o (λ t. counted.rows ≡ estimated settings table t (record { index = scan.index; list = scan.ranges }))) e
        h.estimate

    scan_told : (scan counted : Scan) → table.told ≡ Some t → IsCountedScan settings table scan counted → counted ≡ counted_scan settings table t scan
    scan_told scan counted e h =
        h.is ∙ ap (λ (n : ℕ). record scan { dives = (counted_scan settings table t scan).dives; rows = n }) (rows_told scan counted e h)

    pub scans_told : (scans counted : List Scan) → table.told ≡ Some t → AreCounted settings table scans counted
        → counted ≡ map (counted_scan settings table t) scans
    scans_told [] [] e h = refl
    scans_told [] (y ∷ ys) e h = absurd h
    scans_told (x ∷ xs) [] e h = absurd h
    scans_told (x ∷ xs) (y ∷ ys) e h = ap₂ (λ z l. z ∷ l) (scan_told x y e h.0) (scans_told xs ys e h.1)

    pub lists_told : (lists counted : List (List Scan)) → table.told ≡ Some t → AllZip (AreCounted settings table) lists counted
        → counted ≡ counted_lists settings table t lists
    lists_told [] [] e h = refl
    lists_told [] (y ∷ ys) e h = absurd h
    lists_told (x ∷ xs) [] e h = absurd h
    lists_told (x ∷ xs) (y ∷ ys) e h = ap₂ (λ z l. z ∷ l) (scans_told x y e h.0) (lists_told xs ys e h.1)

    -- the scans of one condition
    pub found_told : (member : ℕ) (rs : List Ranged) (counted : List Scan) → table.told ≡ Some t
        → AreCounted settings table (map (found_scan member) rs) counted
        → counted ≡ scans_of settings table t member rs
    found_told member rs counted e h = scans_told (map (found_scan member) rs) counted e h ∙ counted_found member rs

  -- told or not, they can be merged
  meet_counted : (scans counted : List Scan) → AllByRecursion (CanMeet table.schema) scans → AreCounted settings table scans counted
      → AllByRecursion (CanMeet table.schema) counted
  meet_counted [] [] k h = tt
  meet_counted [] (y ∷ ys) k h = absurd h
  meet_counted (x ∷ xs) [] k h = absurd h
  meet_counted (x ∷ xs) (y ∷ ys) k h =
      (subst (CanMeet table.schema) (sym h.0.is) (record { there = k.0.there; ranges = k.0.ranges; role = k.0.role }), meet_counted xs ys k.1 h.1)

  rows_counted : (scans counted : List Scan) → AllByRecursion (CanMeet table.schema) counted → AreCounted settings table scans counted
      → AllByRecursion (IsCounted table.count) counted
  rows_counted [] [] k h = tt
  rows_counted [] (y ∷ ys) k h = absurd h
  rows_counted (x ∷ xs) [] k h = absurd h
  rows_counted (x ∷ xs) (y ∷ ys) k h = (record { rows = h.0.within; ranges = k.0.ranges }, rows_counted xs ys k.1 h.1)

  pub ready : (scans counted : List Scan) → AreFound table.schema scans → AreCounted settings table scans counted → AreReady table.schema table.count counted
  ready scans counted found h =
      let meet = meet_counted scans counted (recursion_from_All (CanMeet table.schema) scans found.each) h in
      let each = All-from_recursion (CanMeet table.schema) counted meet in
      record {
        are = record {
          there = All-weaker (CanMeet table.schema) (λ s. s.index < length table.schema.indexes) (λ s k. k.there) counted each;
          counted = All-from_recursion (IsCounted table.count) counted (rows_counted scans counted meet h);
          few = omega (arith, found.few, AllZip-long (IsCountedScan settings table) scans counted h);
        };
        each = each;
      }

  each_ready : (lists counted : List (List Scan)) → AllByRecursion (AreFound table.schema) lists → AllZip (AreCounted settings table) lists counted
      → AllByRecursion (AreReady table.schema table.count) counted
  each_ready [] [] k h = tt
  each_ready [] (y ∷ ys) k h = absurd h
  each_ready (x ∷ xs) [] k h = absurd h
  each_ready (x ∷ xs) (y ∷ ys) k h = (ready x y k.0 h.0, each_ready xs ys k.1 h.1)

  pub all_ready : (lists counted : List (List Scan)) → All (AreFound table.schema) lists → AllZip (AreCounted settings table) lists counted
      → All (AreReady table.schema table.count) counted
  all_ready lists counted k h = All-from_recursion (AreReady table.schema table.count) counted
      (each_ready lists counted (recursion_from_All (AreFound table.schema) lists k) h)

-- each index is there, as the table is
pub there_found : (table now : Meaning) (scans : List Scan) → now ≡ table → AreFound table.schema scans → All (λ scan. HasIndex now scan.index) scans
there_found table now scans same found =
    subst (λ (m : Meaning). All (λ scan. HasIndex m scan.index) scans) (sym same)
    (All-weaker (CanMeet table.schema) (λ s. s.index < length table.schema.indexes) (λ s k. k.there) scans found.each)
