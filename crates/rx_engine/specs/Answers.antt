-- The lines of a query's rows, read in the way of a candidate.
use Rattle.std.specs.Prelude.{◌≡◌, ℕ, Bool, length, ◌++◌}
use Rattle.rx_store.specs.Tables.{Meaning, WhereTold}
use Rattle.rx_store.specs.declared.tables.Counts.{Counts}
use Rattle.rx_query.specs.Steps.{Question}
use Rattle.rx_rows.specs.Finish.{answered}
use Rattle.rx_rows.specs.Lines.{block_of, footer_of}
use Rattle.rx_cost.specs.declared.candidates.Kind.{Kind}
use Rattle.rx_cost.specs.declared.candidates.Kind.TheVariants.{Index, Range}
use Rattle.rx_cost.specs.declared.candidates.Candidate.{Candidate}
use Rattle.rx_scan.specs.Visits.{visits, visited, range_visits, ranges_of}
use Rattle.rx_engine.specs.declared.printing.Printed.{Printed}
use Rattle.rx_engine.specs.declared.answering.Answer.{Answer}

-- what a kind of candidate reads for so many rows, by whether its first scan is of the primary key
abbrev pub reads_of_kind : Kind → Bool → Candidate → ℕ → Counts
reads_of_kind Index primary candidate n = record { seeks = 0; entries = n; rows = 0 }
reads_of_kind Range primary candidate n = range_visits primary candidate.index_only (length (ranges_of candidate)) n
reads_of_kind _ primary candidate n = record { seeks = 0; entries = 0; rows = n }

-- what a candidate reads for so many rows
abbrev pub reads_for_rows : Bool → Candidate → ℕ → Counts
reads_for_rows primary candidate n = reads_of_kind candidate.kind primary candidate n

-- the text is what the question prints of the rows as this candidate hands them out, beside their number and what was read
pub record AnswersBy (candidate : Candidate) (q : Question) (table : Meaning) (answer : Answer) : Type 0 where
  pub text : answer.text ≡ block_of (answered q (visited candidate table))
  pub rows : answer.rows ≡ length (answered q (visited candidate table))
  pub reads : answer.reads ≡ visits candidate table

-- the same where the rows are told
abbrev pub IsAnswerBy : Candidate → Question → Meaning → Answer → Type 0
IsAnswerBy candidate q table answer = WhereTold table (AnswersBy candidate q table answer)

-- printed rows with the line that counts them, and what was read for them
pub record IsFinished (printed : Printed) (reads : Counts) (answer : Answer) : Type 0 where
  pub text_is : answer.text ≡ printed.text ++ footer_of printed.rows
  pub rows_are : answer.rows ≡ printed.rows
  pub reads_are : answer.reads ≡ reads
