-- A candidate of any kind that runs: what is left, what is handed out, and what is read for it.
use Rattle.std.specs.Prelude.{◌≡◌, ℕ, ◌<◌, Bool, true, false, List, [], ◌∷◌, length, map, Option, Some, None, IfSome, All}
use Rattle.rx_value.specs.declared.values.Value.{Value}
use Rattle.rx_value.specs.declared.shapes.Schema.{Schema}
use Rattle.rx_index.specs.declared.indexed.Indexed.{Indexed}
use Rattle.rx_store.specs.declared.tables.Counts.{Counts}
use Rattle.rx_store.specs.Tables.{Meaning, WhereTold, add_counts}
use Rattle.rx_cost.specs.declared.candidates.Candidate.{Candidate}
use Rattle.rx_scan.specs.Handing.{IsScan}
use Rattle.rx_merge.specs.Merged.{IsMerge}
use Rattle.rx_run.specs.Ways.{Way, handed, reads_each, SuitsTable, counted}
use Rattle.rx_run.specs.Visits.{is_merge, way_of, visited, visits, opening_reads}

-- How a run hands out rows, the places or ids for which it has still to do so, in order, what its opening read, and what is read for each row.
pub record Run : Type 0 where
  pub way : Way
  pub left : List ℕ
  pub opened : Counts
  pub each : Counts

-- a candidate can run as a merge, or as a scan
abbrev pub CanRunBy : Bool → Schema → Candidate → Type 0
CanRunBy true schema candidate = IsMerge schema candidate
CanRunBy false schema candidate = IsScan schema candidate

-- a candidate can run over tables of a schema
abbrev pub CanRun : Schema → Candidate → Type 0
CanRun schema candidate = CanRunBy (is_merge candidate.kind) schema candidate

-- the rows that are left
abbrev pub rows_left : Run → Indexed → List (List Value)
rows_left run t = map (handed run.way t) run.left

-- what is read for the rows that are left
abbrev pub reads_left : Run → Counts
reads_left run = reads_each run.way (length run.left)

-- a run over a table: what its way needs is there, and so is what stands at the places that are left
pub record IsRunOver (table : Meaning) (run : Run) : Type 0 where
  pub way : SuitsTable run.way table
  pub places : All (λ place. place < table.count) run.left

-- What is opened for a candidate: it hands out rows in the candidate's way, over what is there, in the candidate's order, and its opening, and
-- all in all, reads what the candidate does, in counts that stay at their last value.
pub record IsOpened (table : Meaning) (candidate : Candidate) (run : Run) : Type 0 where
  pub way : run.way ≡ way_of table.schema candidate
  pub over : IsRunOver table run
  pub each : run.each ≡ reads_each run.way 1
  pub rows : IfSome table.told (λ t. rows_left run t ≡ visited candidate table)
  pub opened : WhereTold table (run.opened ≡ counted (opening_reads candidate table))
  pub visits : WhereTold table (counted (visits candidate table) ≡ add_counts (reads_left run) run.opened)

-- No row or one was handed out: none exactly where none was left, else that of the first place, which is left no more.
abbrev pub HandsOut : Meaning → Run → Run → Option (List Value) → Type 0
HandsOut table old new None = (old.left ≡ []) × (new ≡ old)
HandsOut table old new (Some row) =
    (place : ℕ) × (old.left ≡ place ∷ new.left) × (new.way ≡ old.way) × (new.opened ≡ old.opened) × (new.each ≡ old.each)
    × IfSome table.told (λ t. row ≡ handed old.way t place)

-- a run from one state to its end hands out these rows, one call after the other
abbrev pub HandsOutAll : Meaning → Run → List (List Value) → Type 0
HandsOutAll table run [] = HandsOut table run run None
HandsOutAll table run (row ∷ rows) = (next : Run) × HandsOut table run next (Some row) × HandsOutAll table next rows

-- A run from its opening to its end hands out the rows that its candidate visits, and reads in all what the candidate reads.
pub record HandsOutVisited (table : Meaning) (candidate : Candidate) (run : Run) (rows : List (List Value)) : Type 0 where
  pub told : IfSome table.told (λ t. rows ≡ visited candidate table)
  pub reads : WhereTold table (counted (visits candidate table) ≡ add_counts (reads_each run.way (length rows)) run.opened)
