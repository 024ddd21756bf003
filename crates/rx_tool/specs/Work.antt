-- The work of a command, before its run tells how it ended.
use Rattle.std.specs.Prelude.{◌≡◌, ℕ, ◌≤◌, Some, None, Result, Ok, Err}
use Rattle.rx_store.specs.Stored.{Stored}
use Rattle.rx_outside.specs.Files.{TakesUpTo}
use Rattle.rx_inputs.specs.Files.{Held}
use Rattle.rx_inputs.specs.Reads.{AreSure, most_bytes}
use Rattle.rx_tool.specs.declared.stops.Status.TheVariants as status
use Rattle.rx_tool.specs.declared.stops.Stop.{Stop}
use Rattle.rx_tool.specs.declared.stops.Stop.TheVariants.{ReadFault, WriteFault, Words, Refused, NoMemory}
use Rattle.rx_engine.specs.Seen.{SinkSeen}
use Rattle.rx_tool.specs.Seen.{FilesSeen}
use Rattle.rx_tool.specs.Blocks.{blocks_of}
use Rattle.rx_engine.specs.Running.{StopsWriting, StopsBetween}
use Rattle.rx_tool.specs.Owes.{Owes, table_of}
use Rattle.rx_tool.specs.Ending.{PutsWhole, StopsRun, Hands, HasRoomForText}

-- why the run of an accepted script stops
abbrev pub StopsScript : Held → SinkSeen → SinkSeen → Stop → Type 0
StopsScript held old new ReadFault = ⊥
StopsScript held old new WriteFault = StopsWriting (table_of held) (blocks_of held.steps (table_of held)) old new
StopsScript held old new Words = ⊥
StopsScript held old new (Refused line) = ⊥
StopsScript held old new NoMemory = StopsBetween (table_of held) (blocks_of held.steps (table_of held)) old new

-- the work is done, and hands back this table; or it stops
abbrev pub WorkEnds : Owes → (before after : ℕ) (old new : SinkSeen) → Result Stored Stop → Type 0
WorkEnds owes before after old new (Ok table) = PutsWhole owes.outcome old new × Hands owes status.Done (Some table) None
WorkEnds owes before after old new (Err stop) = StopsRun owes.outcome before after old new stop

-- the work of a command that owes this: its end, when no fault comes, and the bytes that it takes
pub record IsWork (owes : Owes) (files_old files_new : FilesSeen) (old new : SinkSeen) (result : Result Stored Stop) : Type 0 where
  pub ends : WorkEnds owes files_old.faults files_new.faults old new result
  pub sure : AreSure files_old.sure owes.files → files_new.faults ≡ files_old.faults
  pub calm : HasRoomForText owes.outcome old.room → new.faults ≡ old.faults
  pub taken : TakesUpTo (most_bytes files_old.told owes.files) files_old.taken files_new.taken
  pub files_later : files_old.faults ≤ files_new.faults
  pub out_later : old.faults ≤ new.faults
