-- How a run ends.
use Rattle.std.specs.Prelude.{◌≡◌, ◌≢◌, ◌⊎◌, ℕ, ◌≤◌, List, [], length, Option, Some, None, max, is_some, IfSome, codes}
use Rattle.rx_value.specs.Counting.{Rose}
use Rattle.rx_store.specs.Stored.{Stored}
use Rattle.rx_outside.specs.Files.{TakesUpTo}
use Rattle.rx_outside.specs.Sink.{Takes, IsFront}
use Rattle.rx_inputs.specs.Refusals.{Refusal, words, line_of_refusal}
use Rattle.rx_inputs.specs.Reads.{AreSure, most_bytes}
use Rattle.rx_tool.specs.declared.stops.Status.{Status}
use Rattle.rx_tool.specs.declared.stops.Status.TheVariants as status
use Rattle.rx_tool.specs.declared.stops.Stop.{Stop}
use Rattle.rx_tool.specs.declared.stops.Stop.TheVariants.{ReadFault, WriteFault, Words, Refused, NoMemory}
use Rattle.rx_engine.specs.Seen.{SinkSeen}
use Rattle.rx_tool.specs.Seen.{Outside}
use Rattle.rx_tool.specs.Stops.{line_of}
use Rattle.rx_engine.specs.Running.{PutsAll, PutsSome, PutsFront, HasRoom}
use Rattle.rx_tool.specs.Owes.{Outcome, Owes, output}

-- the blocks that come before a refusal: none where the files aren't told, since only they are refused
abbrev pub blocks_before : Option Outcome → List (List ℕ)
blocks_before None = []
blocks_before (Some outcome) = outcome.blocks

-- the line of a refusal, where there is one
abbrev pub refusal_line : Option Refusal → List ℕ
refusal_line None = []
refusal_line (Some refusal) = line_of_refusal refusal

-- this is the line of the refusal
abbrev pub IsRefusedBy : Outcome → List ℕ → Type 0
IsRefusedBy outcome line = (refusal : Refusal) × (outcome.refusal ≡ Some refusal) × (line ≡ line_of_refusal refusal)

-- a refusal with this line, behind the blocks before it
pub record RefusedAt (owed : Option Outcome) (line : List ℕ) (old new : SinkSeen) : Type 0 where
  pub owed_so : IfSome owed (λ outcome. IsRefusedBy outcome line)
  pub blocks : PutsAll (blocks_before owed) old.text new.text

-- Why a run stops, the reads that failed before and after, and what was put by then: after a failed read nothing; after a failed
-- write a front of the text; where memory ran out whole blocks.
abbrev pub StopsRun : Option Outcome → (before after : ℕ) (old new : SinkSeen) → Stop → Type 0
StopsRun owed before after old new ReadFault = Rose before after × (new.text ≡ old.text)
StopsRun owed before after old new WriteFault = Rose old.faults new.faults × IfSome owed (λ outcome. PutsFront outcome.blocks old.text new.text)
StopsRun owed before after old new Words = RefusedAt owed (line_of_refusal words) old new
StopsRun owed before after old new (Refused line) = RefusedAt owed line old new
StopsRun owed before after old new NoMemory = IfSome owed (λ outcome. PutsSome outcome.blocks old.text new.text)

-- the whole text was put, and nothing was refused
abbrev pub PutsWhole : Option Outcome → SinkSeen → SinkSeen → Type 0
PutsWhole owed old new = IfSome owed (λ outcome. (outcome.refusal ≡ None) × Takes old.text new.text (output outcome))

-- Refused: the line of the refusal is on the error output, and on the output the blocks before it.
pub record EndsRefused (owed : Option Outcome) (old new : Outside) : Type 0 where
  pub line : List ℕ
  pub refused : RefusedAt owed line old.out new.out
  pub put : Takes old.err.text new.err.text line

-- Memory ran out: the first blocks are on the output, and a line says so.
pub record EndsWithoutMemory (owed : Option Outcome) (old new : Outside) : Type 0 where
  pub blocks : IfSome owed (λ outcome. PutsSome outcome.blocks old.out.text new.out.text)
  pub line : Takes old.err.text new.err.text (codes "out of memory\n")

-- a read failed: the count of the files rose
pub record EndsReading (old new : Outside) : Type 0 where
  pub rose : Rose old.files.faults new.files.faults
  pub nothing : new.out.text ≡ old.out.text
  pub line : Takes old.err.text new.err.text (codes "failed: read\n")

-- a write failed: the count of the output rose, which took a front of the text
pub record EndsWriting (owed : Option Outcome) (old new : Outside) : Type 0 where
  pub rose : Rose old.out.faults new.out.faults
  pub front : IfSome owed (λ outcome. PutsFront outcome.blocks old.out.text new.out.text)
  pub line : Takes old.err.text new.err.text (codes "failed: write\n")

-- the line of a stop was cut: the count of the error output rose, which took a front of that line
pub record EndsTelling (owed : Option Outcome) (old new : Outside) : Type 0 where
  pub stop : Stop
  pub stopped : StopsRun owed old.files.faults new.files.faults old.out new.out stop
  pub rose : Rose old.err.faults new.err.faults
  pub front : List ℕ
  pub is_front : IsFront front (line_of stop)
  pub line : Takes old.err.text new.err.text front

-- how a run ends with this status
abbrev pub Ends : Option Outcome → Outside → Outside → Status → Type 0
Ends owed old new status.Done = PutsWhole owed old.out new.out
Ends owed old new status.Outside = EndsReading old new ⊎ EndsWriting owed old new ⊎ EndsTelling owed old new
Ends owed old new status.Refused = EndsRefused owed old new
Ends owed old new status.NoMemory = EndsWithoutMemory owed old new

-- the tables that are handed back: those that are owed where the run is done, and else none
abbrev pub Hands : Owes → Status → (first second : Option Stored) → Type 0
Hands owes status.Done first second =
    (is_some first ≡ owes.hands_first) × (is_some second ≡ owes.hands_second)
    × IfSome owes.outcome (λ outcome. (first ≡ outcome.first) × (second ≡ outcome.second))
Hands owes status.Outside first second = (first ≡ None) × (second ≡ None)
Hands owes status.Refused first second = (first ≡ None) × (second ≡ None)
Hands owes status.NoMemory first second = (first ≡ None) × (second ≡ None)

-- what is owed is told and not refused
abbrev pub IsAccepted : Option Outcome → Type 0
IsAccepted None = ⊥
IsAccepted (Some outcome) = outcome.refusal ≡ None

-- no count of faults rose
abbrev pub IsFaultless : Outside → Outside → Type 0
IsFaultless old new =
    (Rose old.files.faults new.files.faults → ⊥) × (Rose old.out.faults new.out.faults → ⊥) × (Rose old.err.faults new.err.faults → ⊥)

-- there is room for the whole text; a refusal before the first block needs none
abbrev pub HasRoomForText : Option Outcome → Option ℕ → Type 0
HasRoomForText None room = ⊥
HasRoomForText (Some outcome) room = ((outcome.blocks ≡ []) × (outcome.refusal ≢ None)) ⊎ HasRoom room (length (output outcome))

-- the longest of the lines that say of a failure or of want of memory
abbrev pub longest_fixed : ℕ
longest_fixed = 14

-- there is room for any line that the run may put: one that a failure or want of memory asks for, and that of the refusal
abbrev pub HasRoomForLine : Option Outcome → Option ℕ → Type 0
HasRoomForLine None room = ⊥
HasRoomForLine (Some outcome) room = HasRoom room (max longest_fixed (length (refusal_line outcome.refusal)))

-- A run of a command that owes this, before and after, its status, and the tables that it hands back.
pub record IsRun (owes : Owes) (old new : Outside) (ended : Status) (first second : Option Stored) : Type 0 where
  -- each status has its cause, its text and its line
  pub ends : Ends owes.outcome old new ended
  pub tables : Hands owes ended first second
  -- what is accepted is done, or memory ran out, unless a count of faults rose
  pub complete : IsAccepted owes.outcome → IsFaultless old new → (ended ≡ status.Done) ⊎ (ended ≡ status.NoMemory)
  -- and none rises where no read can fail, and there is room for the text and the line
  pub sure : AreSure old.files.sure owes.files → new.files.faults ≡ old.files.faults
  pub calm : HasRoomForText owes.outcome old.out.room → new.out.faults ≡ old.out.faults
  pub err_calm : HasRoomForLine owes.outcome old.err.room → new.err.faults ≡ old.err.faults
  -- a failed put on the error output shows in the status
  pub err_no_fault : ended ≢ status.Outside → new.err.faults ≡ old.err.faults
  -- no byte is taken but of these files, and none twice
  pub taken : TakesUpTo (most_bytes old.files.told owes.files) old.files.taken new.files.taken
  -- no count of faults falls
  pub files_later : old.files.faults ≤ new.files.faults
  pub out_later : old.out.faults ≤ new.out.faults
  pub err_later : old.err.faults ≤ new.err.faults
