-- What a text gives, or the field of it that is at fault.
use Rattle.std.specs.Prelude.{◌≡◌, ℕ, List, Result, Ok, Err}
use Rattle.rx_stats_file.specs.declared.faults.StatsFault.{StatsFault}
use Rattle.rx_stats_file.specs.declared.faults.StatsFault.TheVariants.{BadStats, NoMemory}

-- a value, or the field at fault
abbrev pub Outcome : Type 0 → Type 0
Outcome A = Result A (List ℕ)

-- what comes of a value, where there is one
abbrev pub then_of : {A B : Type 0} → Outcome A → (A → Outcome B) → Outcome B
then_of (Ok value) next = next value
then_of (Err field) next = Err field

-- a fault tells the field of this outcome, or there was no memory
abbrev pub FaultOf : {A : Type 0} → Outcome A → StatsFault → Type 0
FaultOf said (BadStats field) = said ≡ Err field
FaultOf said NoMemory = Unit {0}
