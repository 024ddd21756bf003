-- Why files are not read to inputs.
use Rattle.std.specs.Prelude.{ℕ, map}
use Rattle.rx_value.specs.Counting.{Rose}
use Rattle.rx_query.specs.Steps.{step_of}
use Rattle.rx_inputs.specs.declared.reading.InputFault.{InputFault}
use Rattle.rx_inputs.specs.declared.reading.InputFault.TheVariants.{ReadFault, Refused, NoMemory}
use Rattle.rx_inputs.specs.declared.reading.Inputs.{Inputs}
use Rattle.rx_inputs.specs.Checked.{Checked, RefusesWith}
use Rattle.rx_inputs.specs.Files.{Held}

-- why a check stops: a read failed, so that the count of faults rose; the refusal that it gives; or want of memory
abbrev pub StopsReading : {A : Type 0} → Checked A → ℕ → ℕ → InputFault → Type 0
StopsReading checked before now ReadFault = Rose before now
StopsReading checked before now (Refused line) = RefusesWith checked line
StopsReading checked before now NoMemory = Unit {0}

-- what the files held, with the steps of their script
abbrev pub held : Inputs → Held
held i = record { table = i.table; statistics = i.statistics; steps = map step_of i.script }
