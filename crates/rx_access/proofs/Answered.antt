-- The rows that a candidate visits answer the question, whichever candidate it is.
use Rattle.std.proofs.Common.{◌≡◌, ◌∙◌, ◌<◌, suc, Bool, true, false, List, [], ◌∷◌, length, map, Option, Some, None, IfSome, All, refl, ap, ap₂, sym, subst, arith, IsPermutation}
use Rattle.std.proofs.lemmas.List.{length-map}
use Rattle.std.proofs.lemmas.List.Elements.{All-get_or, All-weaker}
use Rattle.std.proofs.lemmas.List.Sorted.{IsPermutation-refl}
use Rattle.rx_value.specs.declared.values.Value.{Value}
use Rattle.rx_value.specs.declared.ranges.KeyRange.{KeyRange}
use Rattle.rx_value.specs.declared.shapes.Column.{Column}
use Rattle.rx_value.specs.declared.shapes.Part.{Part}
use Rattle.rx_value.specs.declared.shapes.Schema.{Schema}
use Rattle.rx_value.specs.Shape.{FitsColumns, FitsRow}
use Rattle.rx_cond.specs.declared.conds.Tri.TheVariants.{T}
use Rattle.rx_cond.specs.Tree.{truth_at}
use Rattle.rx_query.specs.declared.settings.Settings.{Settings}
use Rattle.rx_query.specs.Grouping.{grouped}
use Rattle.rx_query.specs.Steps.{Question}
use Rattle.rx_index.specs.declared.indexed.Indexed.{Indexed}
use Rattle.rx_index.specs.Entries.{parts_at}
use Rattle.rx_store.specs.Tables.{Meaning, IsMeaning, IsTold}
use Rattle.rx_cost.specs.declared.candidates.Kind.{Kind}
use Rattle.rx_cost.specs.declared.candidates.Kind.TheVariants.{Table, Index, Range, Group, SkipScan, Intersect, Union, SortUnion}
use Rattle.rx_cost.specs.declared.candidates.Candidate.{Candidate}
use Rattle.rx_cost.specs.Choice.{cost_of, chosen_place}
use Rattle.rx_cost.proofs.Least.{place_is_first}
use Rattle.rx_rows.specs.Finish.{answered}
use Rattle.rx_rows.proofs.Bags.{answers_are_bags}
use Rattle.rx_named.specs.Agreement.{HasColumns, KeepsColumns, KeepsTrue}
use Rattle.rx_named.specs.Naming.{names}
use Rattle.rx_named.proofs.Answers.{answered_seen, answered_kept, visits_answer}
use Rattle.rx_named.proofs.Seen.{seen_keeps}
use Rattle.rx_estimate.specs.Estimates.{parts_in}
use Rattle.rx_plan.specs.Known.{Known, AreKnown}
use Rattle.rx_plan.specs.Candidates.{table_scan}
use Rattle.rx_candidates.specs.Candidates.{candidates, chosen}
use Rattle.rx_plan.specs.Kinds.{Covers, IsCoveringScan, IsScanOfRanges}
use Rattle.rx_candidates.specs.Kinds.{IsOfKind, IsOfItsKind}
use Rattle.rx_candidates.proofs.Members.{all_of_kinds}
use Rattle.rx_scan.specs.Handed.{is_part, seen_row}
use Rattle.rx_scan.specs.Handing.{IsScan}
use Rattle.rx_scan.specs.Laws.{is_in_ranges, rows_in_ranges, rows_seen, reads_entries, is_by_entries, AreById, SuitsScan}
use Rattle.rx_scan.specs.Visits.{index_of, ranges_of, rows_of_kind, visited}
use Rattle.rx_scan.proofs.Found.{each_row, each_in_ranges}
use Rattle.rx_access.specs.Access.{ComparesWhereCut, IsAnswerOf}
use Rattle.rx_access.proofs.Runs.{none_lost, can_run}
use Rattle.rx_access.proofs.Suited.{entries_alone, covering_parts, ranged_parts, ranged_list, suits}

-- a row that fits has a value for each column
as_wide : (columns : List Column) (row : List Value) → FitsColumns columns row → length columns ≡ length row
as_wide [] [] h = refl
as_wide [] (v ∷ vs) h = absurd h
as_wide (c ∷ cs) [] h = absurd h
as_wide (c ∷ cs) (v ∷ vs) h = ap suc (as_wide cs vs h.1)

told_so : (table : Meaning) (t : Indexed) → IsMeaning table → table.told ≡ Some t → IsTold table t
told_so table t sound is = subst (λ (o : Option Indexed). IfSome o (IsTold table)) is sound.told

module _ (q : Question) (table : Meaning) (t : Indexed) (told : IsTold table t) where
  rows_fit : All (FitsRow table.schema) t.rows
  rows_fit = subst (λ (s : Schema). All (FitsRow s) t.rows) told.schema_is told.fit

  -- rows of which the parts of an index are seen that covers the question
  covered_keeps : (parts : List Part) → Covers q (length table.schema.columns) parts → KeepsColumns (names q) (seen_row parts) t.rows
  covered_keeps parts h =
      seen_keeps (names q) (is_part parts) t.rows
      (All-weaker (FitsRow table.schema) (HasColumns (names q) (is_part parts))
      (λ row fit column within named. let wide = as_wide table.schema.columns row fit in h.named column (omega (arith, within, wide)) named) t.rows rows_fit)

  -- no row at which the condition is true is outside of the ranges
  ranges_keep : (settings : Settings) (c : Candidate) → ComparesWhereCut table.schema q.cond → (h : IsScanOfRanges settings q table t c)
      → KeepsTrue q.cond (is_in_ranges (parts_in table.schema h.r.index) h.r.list) t.rows
  ranges_keep settings c utf8 h =
      let test = is_in_ranges (parts_in table.schema h.r.index) h.r.list in
      All-weaker (FitsRow table.schema) (λ row. truth_at q.cond row ≡ T → test row ≡ true) (λ row. (none_lost settings q table t c h).keep row (utf8 h.r.index)) t.rows rows_fit

module _ (settings : Settings) (q : Question) (table : Meaning) (t : Indexed) (sound : IsMeaning table) (is : table.told ≡ Some t) (g : grouped q ≡ true)
    (c : Candidate) (run : IsScan table.schema c) (suit : SuitsScan table.schema c t) where
  told : IsTold table t
  told = told_so table t sound is

  table_answers : c.kind ≡ Table → IsAnswerOf q table t c
  table_answers kind =
      let all : visited c table ≡ t.rows = ap₂ (λ k o. elim o [ Some u ↦ rows_of_kind k c u | None ↦ [] ]) kind is in
      subst (λ (rows : List (List Value)). IsPermutation (answered q t.rows) (answered q rows)) (sym all) (IsPermutation-refl (answered q t.rows))

  index_answers : c.kind ≡ Index → IsCoveringScan q table c → IsAnswerOf q table t c
  index_answers kind h =
      let parts = parts_in table.schema h.index in
      let entries : is_by_entries table.schema c ≡ true = ap (λ k. reads_entries k table.schema c) kind in
      let found : IsPermutation (map (seen_row parts) t.rows) (visited c table) =
      subst (λ (ps : List Part). IsPermutation (map (seen_row ps) t.rows) (visited c table)) (covering_parts settings q table t told c h)
      (subst (λ b. IsPermutation (rows_seen b (parts_at t (index_of c)) t.rows) (visited c table)) entries (each_row c table t sound is run suit kind)) in
      subst (λ (l : List (List Value)). IsPermutation l (answered q (visited c table))) (answered_seen q (seen_row parts) t.rows (covered_keeps q table t told parts h.covers))
      (answers_are_bags q g (map (seen_row parts) t.rows) (visited c table) found)

  in_way : (parts : List Part) (list : List KeyRange) (b : Bool) → KeepsTrue q.cond (is_in_ranges parts list) t.rows → (b ≡ true → KeepsColumns (names q) (seen_row parts) t.rows)
      → IsPermutation (rows_seen b parts (rows_in_ranges parts list t.rows)) (visited c table) → IsAnswerOf q table t c
  in_way parts list true keep seen found = visits_answer q g (is_in_ranges parts list) (seen_row parts) t.rows (visited c table) keep (seen refl) found
  in_way parts list false keep seen found =
      subst (λ (l : List (List Value)). IsPermutation l (answered q (visited c table))) (answered_kept q (is_in_ranges parts list) t.rows keep)
      (answers_are_bags q g (rows_in_ranges parts list t.rows) (visited c table) found)

  range_answers : c.kind ≡ Range → ComparesWhereCut table.schema q.cond → IsScanOfRanges settings q table t c → IsAnswerOf q table t c
  range_answers kind utf8 h =
      let b = is_by_entries table.schema c in
      let parts = parts_in table.schema h.r.index in
      let entries : b ≡ reads_entries Range table.schema c = ap (λ k. reads_entries k table.schema c) kind in
      let found : IsPermutation (rows_seen b parts (rows_in_ranges parts h.r.list t.rows)) (visited c table) =
      subst (λ (ranges : List KeyRange). IsPermutation (rows_seen b parts (rows_in_ranges parts ranges t.rows)) (visited c table)) (ranged_list settings q table t told c h)
      (subst (λ (ps : List Part). IsPermutation (rows_seen b ps (rows_in_ranges ps (ranges_of c) t.rows)) (visited c table)) (ranged_parts settings q table t told c h)
      (each_in_ranges c table t sound is run suit kind)) in
      in_way parts h.r.list b (ranges_keep q table t told settings c utf8 h)
      (λ e. covered_keeps q table t told parts (h.covers (entries_alone table c (sym entries ∙ e)))) found

  answers_by : ComparesWhereCut table.schema q.cond → (kind : Kind) → c.kind ≡ kind → IsOfKind kind settings q table t c → IsAnswerOf q table t c
  answers_by utf8 Table e h = table_answers e
  answers_by utf8 Index e h = index_answers e h
  answers_by utf8 Range e h = range_answers e utf8 h
  answers_by utf8 Group e h = absurd h
  answers_by utf8 SkipScan e h = absurd h
  answers_by utf8 Intersect e h = absurd h
  answers_by utf8 Union e h = absurd h
  answers_by utf8 SortUnion e h = absurd h

-- all candidates answer the question
pub all_answer : (settings : Settings) (q : Question) (table : Meaning) (t : Indexed) (known : List Known) → IsMeaning table → table.told ≡ Some t → AreKnown settings q table.schema known
    → grouped q ≡ true → ComparesWhereCut table.schema q.cond → AreById t → All (IsAnswerOf q table t) (candidates settings q table t known)
all_answer settings q table t known sound is are g utf8 by_id =
    All-weaker (IsOfItsKind settings q table t) (IsAnswerOf q table t)
    (λ c h. answers_by settings q table t sound is g c (can_run settings q table t c h) (suits settings q table t (told_so table t sound is) c by_id h) utf8 c.kind refl h)
    (candidates settings q table t known) (all_of_kinds settings q table t known are)

-- and so does the one that is chosen
pub chosen_answers : (settings : Settings) (q : Question) (table : Meaning) (t : Indexed) (known : List Known) → IsMeaning table → table.told ≡ Some t → AreKnown settings q table.schema known
    → grouped q ≡ true → ComparesWhereCut table.schema q.cond → AreById t → IsAnswerOf q table t (chosen settings q table t known)
chosen_answers settings q table t known sound is are g utf8 by_id =
    let all = candidates settings q table t known in
    let first = place_is_first (map cost_of all) (omega arith) in
    let within : chosen_place all < length all = omega (arith, first.within, length-map all cost_of) in
    All-get_or (IsAnswerOf q table t) all (chosen_place all) (table_scan table.count) within (all_answer settings q table t known sound is are g utf8 by_id)
