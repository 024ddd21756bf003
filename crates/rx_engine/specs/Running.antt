-- What is put where statements run, whole or stopped.
use Rattle.std.specs.Prelude.{◌≡◌, ℕ, ◌<◌, ◌≤◌, List, length, take, Option, Some}
use Rattle.std.specs.List.{concat}
use Rattle.rx_value.specs.Counting.{Rose}
use Rattle.rx_outside.specs.Sink.{Takes, IsFront, LeavesRoom}
use Rattle.rx_store.specs.Tables.{Meaning, WhereTold}
use Rattle.rx_engine.specs.declared.engine.SelectFault.{SelectFault}
use Rattle.rx_engine.specs.declared.engine.SelectFault.TheVariants.{ReadFault, WriteFault, Damaged, NoMemory}
use Rattle.rx_engine.specs.Seen.{SinkSeen}

-- how many bytes blocks have
abbrev pub size_of : List (List ℕ) → ℕ
size_of blocks = length (concat blocks)

-- a sink has room for so many bytes
abbrev pub HasRoom : Option ℕ → ℕ → Type 0
HasRoom room n = (r : ℕ) × (room ≡ Some r) × (n ≤ r)

-- all of these blocks were put
abbrev pub PutsAll : List (List ℕ) → Option (List ℕ) → Option (List ℕ) → Type 0
PutsAll blocks before after = Takes before after (concat blocks)

-- some first blocks were put
abbrev pub PutsSome : List (List ℕ) → Option (List ℕ) → Option (List ℕ) → Type 0
PutsSome blocks before after = (n : ℕ) × Takes before after (concat (take n blocks))

-- a front of the blocks' text was put, and not all of it
abbrev pub PutsFront : List (List ℕ) → Option (List ℕ) → Option (List ℕ) → Type 0
PutsFront blocks before after =
    (front : List ℕ) × IsFront front (concat blocks) × (length front < size_of blocks) × Takes before after front

-- these blocks of a table were put, where its rows are told: the room falls by their bytes, and no put failed
pub record Puts (table : Meaning) (blocks : List (List ℕ)) (old new : SinkSeen) : Type 0 where
  pub text : WhereTold table (PutsAll blocks old.text new.text)
  pub room : WhereTold table (LeavesRoom old.room new.room (size_of blocks))
  pub no_fault : new.faults ≡ old.faults

-- a put failed: a front of the blocks' text was put, and there was no room for all
pub record StopsWriting (table : Meaning) (blocks : List (List ℕ)) (old new : SinkSeen) : Type 0 where
  pub rose : Rose old.faults new.faults
  pub later : old.faults ≤ new.faults
  pub front : WhereTold table (PutsFront blocks old.text new.text)
  pub no_room : WhereTold table (HasRoom old.room (size_of blocks) → ⊥)

-- a run stops between two blocks
pub record StopsBetween (table : Meaning) (blocks : List (List ℕ)) (old new : SinkSeen) : Type 0 where
  pub some : WhereTold table (PutsSome blocks old.text new.text)
  pub no_fault : new.faults ≡ old.faults

-- what was put where the run of statements with these blocks stops
abbrev pub Stops : Meaning → List (List ℕ) → SinkSeen → SinkSeen → SelectFault → Type 0
Stops table blocks old new ReadFault = StopsBetween table blocks old new
Stops table blocks old new WriteFault = StopsWriting table blocks old new
Stops table blocks old new (Damaged at) = StopsBetween table blocks old new
Stops table blocks old new NoMemory = StopsBetween table blocks old new
