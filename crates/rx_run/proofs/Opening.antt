-- A merge that is opened.
use Rattle.std.proofs.Common.{◌≡◌, ℕ, ◌*◌, Bool, true, false, ◌&&◌, List, [], ◌∷◌, map, length, Option, Some, None, IfSome, if◌then◌else◌, All, refl, sym, ap, ap₂, ◌∙◌, subst, arith}
use Rattle.std.specs.Prelude.{◌-◌, ◌^◌, ◌≤ℤ◌, ℤ, pos, neg_ℤ, int_le, min}
use Rattle.std.specs.List.{range_with_len}
use Rattle.std.proofs.lemmas.List.Elements.{All-from_recursion}
use Rattle.std.specs.List.{AllByRecursion}
use Rattle.rx_value.specs.declared.values.Value.{Value}
use Rattle.rx_value.specs.declared.values.Value.TheVariants.{Null, Int, Text}
use Rattle.rx_value.specs.declared.shapes.Schema.{Schema}
use Rattle.rx_value.specs.Counting.{rise}
use Rattle.rx_index.specs.declared.indexed.Indexed.{Indexed}
use Rattle.rx_store.specs.declared.tables.Counts.{Counts}
use Rattle.rx_store.specs.Stored.{no_counts}
use Rattle.rx_store.specs.Tables.{Meaning, add_counts}
use Rattle.rx_aggregate.specs.Aggregates.{IsSmall}
use Rattle.rx_cost.specs.declared.candidates.Scan.{Scan}
use Rattle.rx_cost.specs.declared.candidates.Candidate.{Candidate}
use Rattle.rx_merge.specs.Merged.{count_ranges, entries_of, merged_ids, merge_visits}
use Rattle.rx_merge.specs.Runs as merges
use Rattle.rx_merge.specs.Runs.{Merging}
use Rattle.rx_run.specs.declared.reads.Reads.{Reads}
use Rattle.rx_run.specs.Made.{is_small, small_value, first_point, made_row}
use Rattle.rx_run.specs.Ways.{Way, handed, reads_each, SuitsTable, counted}
use Rattle.rx_run.specs.Ways.Way.{by_id, made}
use Rattle.rx_run.specs.Visits.{is_merge, way_by, way_of_merge, merge_visited, visited_by, count_merged, rows_merged, visits_by, opening_by}
use Rattle.rx_run.specs.Runs.{Run, IsOpened}
use Rattle.rx_run.specs.Steps.{IsMergeReads, row_of_merge, way_of_row}
use Rattle.rx_run.proofs.Counting.{same_counts}

-- ---- a row of small integers

both : (b c : Bool) → b && c ≡ true → (b ≡ true) × (c ≡ true)
both true true e = (refl, refl)
both true false e = absurd (cc e)
both false c e = absurd (cc e)

int_within : (a b : ℤ) → int_le a b ≡ true → a ≤ℤ b
int_within a b e = grind (arith, e)

small_by : (v : Value) (b : Bool) → is_small v ≡ b → IsSmall (if b then v else Null)
small_by v false e = tt
small_by Null true e = tt
small_by (Text text) true e = tt
small_by (Int n) true e =
    let h = both (int_le (neg_ℤ (pos 9223372036854775808)) n) (int_le n (pos 18446744073709551615)) e in
    (int_within (neg_ℤ (pos 9223372036854775808)) n h.0, int_within n (pos 18446744073709551615) h.1)

small_of : (o : Option Value) → IsSmall (small_value o)
small_of None = tt
small_of (Some v) = small_by v (is_small v) refl

all_small : (f : ℕ → Option Value) (ns : List ℕ) → AllByRecursion IsSmall (map (λ n. small_value (f n)) ns)
all_small f [] = tt
all_small f (n ∷ ns) = (small_of (f n), all_small f ns)

pub made_small : (schema : Schema) (scans : List Scan) → All IsSmall (made_row schema scans)
made_small schema scans = All-from_recursion IsSmall (made_row schema scans) (all_small (λ n. first_point schema n scans) (range_with_len 0 (length schema.columns)))

-- ---- the run of a merge

rise_none : (n : ℕ) → min n (2 ^ 64 - 1) ≡ rise n 0
rise_none n = grind arith

rise_two : (n : ℕ) → rise n 0 ≡ rise 0 (min n (2 ^ 64 - 1))
rise_two n = grind arith

rise_again : (n : ℕ) → rise n 0 ≡ rise 0 (rise n 0)
rise_again n = grind arith

module _ (table : Meaning) (c : Candidate) (ids : Merging) (reads : Reads) (opened : merges.IsOpened table c ids) (r : IsMergeReads c ids.entries reads) where
  abbrev run : Option (List Value) → Run
  run row = record { way = way_of_row row; left = ids.left; opened = reads.opened; each = reads.each }

  way_is : (b : Bool) → way_of_row (if b then Some (made_row table.schema c.scans) else None) ≡ (if b then made (made_row table.schema c.scans) else by_id)
  way_is true = refl
  way_is false = refl

  suits : (b : Bool) → SuitsTable (if b then made (made_row table.schema c.scans) else by_id) table
  suits true = made_small table.schema c.scans
  suits false = tt

  each_is : (b : Bool) → record no_counts { rows = if b then 0 else 1 } ≡ reads_each (if b then made (made_row table.schema c.scans) else by_id) 1
  each_is true = refl
  each_is false = refl

  rows_by : (told : Option Indexed) → table.told ≡ told → IfSome told (λ t. ids.left ≡ merged_ids c t) → IfSome told (λ t. map (handed (way_of_merge table.schema c) t) ids.left ≡ merge_visited c table)
  rows_by None e h = tt
  rows_by (Some t) e h =
      ap (map (handed (way_of_merge table.schema c) t)) h
      ∙ sym (ap (λ (o : Option Indexed). elim o [ Some u ↦ map (handed (way_of_merge table.schema c) u) (merged_ids c u) | None ↦ [] ]) e)

  opened_by : (told : Option Indexed) → IfSome told (λ t. ids.entries ≡ rise (entries_of table c.scans) 0) → IfSome told (λ t. reads.opened ≡ counted (merge_visits c table))
  opened_by None h = tt
  opened_by (Some t) h = r.opened ∙ same_counts _ _ (rise_none (2 * count_ranges c.scans)) h refl

  rows_read : (b : Bool) (n : ℕ) → rise (if b then 0 else n) 0 ≡ rise (reads_each (if b then made (made_row table.schema c.scans) else by_id) n).rows 0
  rows_read true n = refl
  rows_read false n = refl

  no_seeks : (b : Bool) (n : ℕ) → (reads_each (if b then made (made_row table.schema c.scans) else by_id) n).seeks ≡ 0
  no_seeks true n = refl
  no_seeks false n = refl

  no_entries : (b : Bool) (n : ℕ) → (reads_each (if b then made (made_row table.schema c.scans) else by_id) n).entries ≡ 0
  no_entries true n = refl
  no_entries false n = refl

  visits_by_told : (told : Option Indexed) → table.told ≡ told → IfSome told (λ t. ids.left ≡ merged_ids c t) → IfSome told (λ t. ids.entries ≡ rise (entries_of table c.scans) 0)
      → IfSome told (λ t. counted (record (merge_visits c table) { rows = rows_merged c table }) ≡ add_counts (reads_each (way_of_merge table.schema c) (length ids.left)) reads.opened)
  visits_by_told None e h k = tt
  visits_by_told (Some t) e h k =
      let b = c.index_only in
      let n = length ids.left in
      let many : count_merged c table ≡ n = ap (λ (o : Option Indexed). elim o [ Some u ↦ length (merged_ids c u) | None ↦ 0 ]) e ∙ sym (ap length h) in
      same_counts _ _
      (rise_two (2 * count_ranges c.scans) ∙ ap₂ rise (sym (no_seeks b n)) (sym (ap (λ (x : Counts). x.seeks) r.opened)))
      (rise_again (entries_of table c.scans) ∙ ap₂ rise (sym (no_entries b n)) (sym k ∙ sym (ap (λ (x : Counts). x.entries) r.opened)))
      (ap (λ m. rise (if b then 0 else m) 0) many ∙ rows_read b n ∙ ap (rise (reads_each (way_of_merge table.schema c) n).rows) (sym (ap (λ (x : Counts). x.rows) r.opened)))

  in_way : IsOpened table c (record { way = way_of_merge table.schema c; left = ids.left; opened = reads.opened; each = reads.each }) → (row : Option (List Value)) → row ≡ row_of_merge table.schema c → IsOpened table c (run row)
  in_way h row e = subst (λ (w : Way). IsOpened table c (record { way = w; left = ids.left; opened = reads.opened; each = reads.each })) (sym (ap way_of_row e ∙ way_is c.index_only)) h

  by_kind : (b : Bool) → is_merge c.kind ≡ b → b ≡ true → IsOpened table c (record { way = way_of_merge table.schema c; left = ids.left; opened = reads.opened; each = reads.each })
  by_kind false e f = absurd (cc f)
  by_kind true e f = record {
    way = sym (ap (λ b. way_by b table.schema c) e);
    over = record { way = suits c.index_only; places = opened.within };
    each = r.each ∙ each_is c.index_only;
    rows = subst (λ (l : List (List Value)). IfSome table.told (λ t. map (handed (way_of_merge table.schema c) t) ids.left ≡ l)) (sym (ap (λ b. visited_by b c table) e)) (rows_by table.told refl opened.ids);
    opened = subst (λ (x : Counts). IfSome table.told (λ t. reads.opened ≡ counted x)) (sym (ap (λ b. opening_by b c table) e)) (opened_by table.told opened.entries);
    visits = subst (λ (x : Counts). IfSome table.told (λ t. counted x ≡ add_counts (reads_each (way_of_merge table.schema c) (length ids.left)) reads.opened)) (sym (ap (λ b. visits_by b c table) e))
        (visits_by_told table.told refl opened.ids opened.entries);
  }

  pub merge_opened : is_merge c.kind ≡ true → (row : Option (List Value)) → row ≡ row_of_merge table.schema c → IsOpened table c (run row)
  merge_opened kind row e = in_way (by_kind (is_merge c.kind) refl kind) row e
