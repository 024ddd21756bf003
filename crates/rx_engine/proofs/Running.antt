-- What a candidate reads, and what its rows answer.
use Rattle.std.proofs.Common.{◌≡◌, ℕ, ◌*◌, Bool, true, false, List, ◌++◌, length, Option, Some, None, IfSome, refl, ap, ap₂, sym, ◌∙◌, subst}
use Rattle.std.specs.List.{flat_map}
use Rattle.rx_value.specs.declared.values.Value.{Value}
use Rattle.rx_index.specs.declared.indexed.Indexed.{Indexed}
use Rattle.rx_store.specs.declared.tables.Counts.{Counts}
use Rattle.rx_store.specs.Tables.{Meaning, WhereTold, add_counts}
use Rattle.rx_query.specs.Steps.{Question}
use Rattle.rx_rows.specs.Finish.{answered}
use Rattle.rx_rows.specs.Lines.{line_of, footer_of, block_of}
use Rattle.rx_estimate.specs.Estimates.{with_seeks}
use Rattle.rx_cost.specs.declared.candidates.Kind.{Kind}
use Rattle.rx_cost.specs.declared.candidates.Kind.TheVariants.{Table as TableScan, Index as IndexScan, Range, Group, SkipScan, Intersect, Union, SortUnion}
use Rattle.rx_cost.specs.declared.candidates.Candidate.{Candidate}
use Rattle.rx_scan.specs.Handing.{IsScanOfKind, IsScan}
use Rattle.rx_scan.specs.Visits.{visits, visits_of, visited, visited_of, range_visits, is_primary, index_of, ranges_of, WhereCounted}
use Rattle.rx_scan.specs.Runs.{Run, range_way, way_of_kind, reads_for, reads_left, reads_in_all, rows_left, seeks_to_open, IsOpenedAs, IsOpened}
use Rattle.rx_scan.proofs.Taking.{reads_opened}
use Rattle.rx_engine.specs.declared.scanning.Handed.{Handed}
use Rattle.rx_engine.specs.declared.printing.Printed.{Printed}
use Rattle.rx_engine.specs.declared.answering.Answer.{Answer}
use Rattle.rx_engine.specs.Printed.{PrintsAll, PrintsAnswer}
use Rattle.rx_engine.specs.Answers.{reads_of_kind, reads_for_rows, AnswersBy, IsAnswerBy, IsFinished}

-- what a range scan reads, in its way
in_way : (primary index_only : Bool) (n ranges held : ℕ) → range_visits primary index_only ranges held ≡ record (reads_for (range_way primary index_only n) held) { seeks = 2 * ranges }
in_way true index_only n ranges held = refl
in_way false true n ranges held = refl
in_way false false n ranges held = refl

-- what a kind of candidate reads for so many rows, in its way
handed_reads : (kind : Kind) (table : Meaning) (c : Candidate) (n : ℕ) → IsScanOfKind kind table.schema c
    → reads_of_kind kind (is_primary table.schema (index_of c)) c n ≡ record (reads_for (way_of_kind kind table.schema c) n) { seeks = seeks_to_open kind c }
handed_reads TableScan table c n s = refl
handed_reads IndexScan table c n s = refl
handed_reads Range table c n s = in_way (is_primary table.schema (index_of c)) c.index_only (index_of c) (length (ranges_of c)) n
handed_reads Group table c n s = absurd s
handed_reads SkipScan table c n s = absurd s
handed_reads Intersect table c n s = absurd s
handed_reads Union table c n s = absurd s
handed_reads SortUnion table c n s = absurd s

counted_told : {P : Type 0} (kind : Kind) (table : Meaning) (t : Indexed) → table.told ≡ Some t → WhereCounted kind table P → P
counted_told {P} Range table t e h = subst (λ (o : Option Indexed). IfSome o (λ u. P)) e h
counted_told TableScan table t e h = h
counted_told IndexScan table t e h = h
counted_told Group table t e h = h
counted_told SkipScan table t e h = h
counted_told Intersect table t e h = h
counted_told Union table t e h = h
counted_told SortUnion table t e h = h

module _ (table : Meaning) (c : Candidate) (run : Run) (scan : IsScan table.schema c) (opened : IsOpened table c run) where
  -- what a candidate visits is what its run reads from its opening on
  visits_are : (t : Indexed) → table.told ≡ Some t → visits c table ≡ reads_in_all (seeks_to_open c.kind c) run
  visits_are t e = counted_told c.kind table t e opened.visits

  reads_are : (t : Indexed) → table.told ≡ Some t → reads_for_rows (is_primary table.schema (index_of c)) c (length run.left) ≡ visits c table
  reads_are t e =
      handed_reads c.kind table c (length run.left) scan
      ∙ ap (λ way. record (reads_for way (length run.left)) { seeks = seeks_to_open c.kind c }) (sym opened.way)
      ∙ sym (visits_are t e)

  -- the counts of a table after a run to its end
  pub counts_run : (a b d : Counts) → b ≡ with_seeks (seeks_to_open c.kind c) a → WhereTold table (d ≡ add_counts (reads_left run) b) → WhereTold table (d ≡ add_counts (visits c table) a)
  counts_run a b d e h = by table.told refl h
    where
      by : (told : Option Indexed) → table.told ≡ told → IfSome told (λ t. d ≡ add_counts (reads_left run) b) → IfSome told (λ t. d ≡ add_counts (visits c table) a)
      by None e' k = tt
      by (Some t) e' k = k ∙ reads_opened run (seeks_to_open c.kind c) a b e ∙ ap (λ r. add_counts r a) (sym (visits_are t e'))

  -- the answer of a run to its end
  pub answers_run : (q : Question) (h : Handed) (reads : Counts) (answer : Answer) → PrintsAnswer q table run h → reads ≡ reads_for_rows (is_primary table.schema (index_of c)) c h.count
      → IsFinished h.printed reads answer → IsAnswerBy c q table answer
  answers_run q h reads answer prints counted done = by table.told refl prints opened.rows
    where
      by : (told : Option Indexed) → table.told ≡ told → IfSome told (λ t. PrintsAll (answered q (rows_left run t)) run h) → IfSome told (λ t. rows_left run t ≡ visited_of c.kind c table) → IfSome told (λ t. AnswersBy c q table answer)
      by None e p rows = tt
      by (Some t) e p rows =
          let lines = p.printed.lines ∙ ap (λ xs. flat_map line_of (answered q xs)) rows in
          let count = p.printed.count ∙ ap (λ xs. length (answered q xs)) rows in
          record {
            text = done.text_is ∙ ap₂ (λ x n. x ++ footer_of n) lines count;
            rows = done.rows_are ∙ count;
            reads = done.reads_are ∙ counted ∙ ap (λ n. reads_for_rows (is_primary table.schema (index_of c)) c n) p.all ∙ reads_are t e;
          }
