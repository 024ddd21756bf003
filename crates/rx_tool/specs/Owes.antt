-- What a command owes, from its words and what the files tell.
use Rattle.std.specs.Prelude.{ℕ, Bool, true, false, List, [], Option, Some, None}
use Rattle.std.specs.List.{concat}
use Rattle.rx_store.specs.Stored.{Stored, in_memory, no_counts}
use Rattle.rx_store.specs.Tables.{Meaning, add_counts}
use Rattle.rx_inputs.specs.Refusals.{Refusal, words}
use Rattle.rx_inputs.specs.Checked.{Checked}
use Rattle.rx_inputs.specs.Checked.Checked.{Accepts, Refuses, Untold}
use Rattle.rx_inputs.specs.Files.{Held, held_by}
use Rattle.rx_inputs.specs.Reads.{File, files_read}
use Rattle.rx_tool.specs.Blocks.{blocks_of, reads_of_script}
use Rattle.rx_words.specs.Words.{SelectFiles, Task, task_of}
use Rattle.rx_words.specs.Words.Task.{select}

-- What comes of a command: the blocks that it puts on the output; the tables that it hands back; and, where it is refused, before the
-- first block or in the middle of its script, the refusal that comes behind the blocks.
pub record Outcome : Type 0 where
  pub blocks : List (List ℕ)
  pub first : Option Stored
  pub second : Option Stored
  pub refusal : Option Refusal

-- the text on the output
abbrev pub output : Outcome → List ℕ
output outcome = concat outcome.blocks

-- a command that is refused at once puts and hands back nothing
abbrev pub refused : Refusal → Outcome
refused refusal = record { blocks = []; first = None; second = None; refusal = Some refusal }

-- the table of accepted inputs
abbrev pub table_of : Held → Meaning
table_of held = in_memory held.table held.statistics

-- that table when its script ran: its counts are what was read, summed over the script
abbrev pub table_after : Held → Stored
table_after held =
    record { table = held.table; statistics = held.statistics; counts = add_counts (reads_of_script held.steps (table_of held)) no_counts }

-- an accepted script is run whole over its table, which is handed back
abbrev pub script_run : Held → Outcome
script_run held =
    record { blocks = blocks_of held.steps (table_of held); first = Some (table_after held); second = None; refusal = None }

-- what comes of a script, where its files are told
abbrev pub outcome_of : Checked Held → Option Outcome
outcome_of (Accepts held) = Some (script_run held)
outcome_of (Refuses refusal) = Some (refused refusal)
outcome_of Untold = None

-- What a command owes: the files that it may read; whether it hands back a first and a second table where it is done; and what
-- comes of it, where the files are told.
pub record Owes : Type 0 where
  pub files : List File
  pub hands_first : Bool
  pub hands_second : Bool
  pub outcome : Option Outcome

-- a script is run over a table of the rows, which is handed back
abbrev pub script_owes : List File → Checked Held → Owes
script_owes files checked = record { files = files; hands_first = true; hands_second = false; outcome = outcome_of checked }

-- `select SCHEMA DATA SCRIPT [--stats FILE]`
abbrev pub select_owes : (List ℕ → Option (List ℕ)) → SelectFiles → Owes
select_owes told names = script_owes (files_read told names) (held_by told names)

-- what a task owes, and words that are none
abbrev pub owed_for : (List ℕ → Option (List ℕ)) → Option Task → Owes
owed_for told None = record { files = []; hands_first = false; hands_second = false; outcome = Some (refused words) }
owed_for told (Some (select names)) = select_owes told names

-- what these words owe over files that tell so much
abbrev pub owed : List (List ℕ) → (List ℕ → Option (List ℕ)) → Owes
owed asked told = owed_for told (task_of asked)
