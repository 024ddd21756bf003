-- Rows that were printed.
use Rattle.std.specs.Prelude.{◌≡◌, ◌+◌, ◌≤◌, List, ◌++◌, length, IfSome}
use Rattle.std.specs.List.{flat_map}
use Rattle.rx_value.specs.declared.values.Value.{Value}
use Rattle.rx_store.specs.Tables.{Meaning, WhereTold}
use Rattle.rx_query.specs.Steps.{Question}
use Rattle.rx_rows.specs.Lines.{line_of}
use Rattle.rx_rows.specs.Answer.{answer, selected}
use Rattle.rx_rows.specs.Finish.{answered}
use Rattle.rx_scan.specs.Runs.{Run, rows_left}
use Rattle.rx_engine.specs.declared.printing.Printed.{Printed}
use Rattle.rx_engine.specs.declared.scanning.Handed.{Handed}
use Rattle.rx_engine.specs.declared.scanning.Kept.{Kept}

-- the lines of these rows were added
pub record Adds (rows : List (List Value)) (old new : Printed) : Type 0 where
  pub lines : new.text ≡ old.text ++ flat_map line_of rows
  pub count : new.rows ≡ old.rows + length rows

-- the lines of these rows, and their number
pub record IsPrinted (rows : List (List Value)) (printed : Printed) : Type 0 where
  pub lines : printed.text ≡ flat_map line_of rows
  pub count : printed.rows ≡ length rows

-- a run has no more places left than the table has rows, where these are told
abbrev pub IsShort : Meaning → Run → Type 0
IsShort table run = WhereTold table (length run.left ≤ table.count)

-- lines, and how many rows a run handed out for them
pub record PrintsAll (rows : List (List Value)) (run : Run) (handed : Handed) : Type 0 where
  pub printed : IsPrinted rows handed.printed
  pub all : handed.count ≡ length run.left

-- the lines of what a plain query answers over the rows that are left of a run, where the rows are told
abbrev pub PrintsPlain : Question → Meaning → Run → Handed → Type 0
PrintsPlain q table run handed = IfSome table.told (λ t. PrintsAll (answer q (rows_left run t)) run handed)

-- the rows that a query selects of those that are left of a run, and how many were handed out, where the rows are told
pub record KeepsSelected (rows : List (List Value)) (run : Run) (kept : Kept) : Type 0 where
  pub selected : kept.rows ≡ rows
  pub all : kept.count ≡ length run.left

-- the same where the rows are told
abbrev pub Selects : Question → Meaning → Run → Kept → Type 0
Selects q table run kept = IfSome table.told (λ t. KeepsSelected (selected q.cond (rows_left run t)) run kept)

-- the lines of what a query answers over the rows that are left of a run, where the rows are told
abbrev pub PrintsAnswer : Question → Meaning → Run → Handed → Type 0
PrintsAnswer q table run handed = IfSome table.told (λ t. PrintsAll (answered q (rows_left run t)) run handed)
