-- Why a run stops, the line and the status for it.
use Rattle.std.specs.Prelude.{◌≡◌, ◌⊎◌, ℕ, List, codes}
use Rattle.rx_value.specs.Counting.{Rose}
use Rattle.rx_outside.specs.Sink.{Takes, IsFront}
use Rattle.rx_inputs.specs.Refusals.{words, line_of_refusal}
use Rattle.rx_inputs.specs.declared.reading.InputFault.{InputFault}
use Rattle.rx_inputs.specs.declared.reading.InputFault.TheVariants as of_input
use Rattle.rx_engine.specs.Seen.{SinkSeen}
use Rattle.rx_tool.specs.declared.stops.Status.{Status}
use Rattle.rx_tool.specs.declared.stops.Status.TheVariants as status
use Rattle.rx_tool.specs.declared.stops.Stop.{Stop}
use Rattle.rx_tool.specs.declared.stops.Stop.TheVariants.{ReadFault, WriteFault, Words, Refused, NoMemory}

-- the line on the error output
abbrev pub line_of : Stop → List ℕ
line_of ReadFault = codes "failed: read\n"
line_of WriteFault = codes "failed: write\n"
line_of Words = line_of_refusal words
line_of (Refused line) = line
line_of NoMemory = codes "out of memory\n"

-- the exit status
abbrev pub status_of : Stop → Status
status_of ReadFault = status.Outside
status_of WriteFault = status.Outside
status_of Words = status.Refused
status_of (Refused line) = status.Refused
status_of NoMemory = status.NoMemory

-- why reading stops, as a stop of the run
abbrev pub stop_of : InputFault → Stop
stop_of of_input.ReadFault = ReadFault
stop_of (of_input.Refused line) = Refused line
stop_of of_input.NoMemory = NoMemory

-- the whole line was put, and the status is its own
pub record IsTold (stop : Stop) (old new : SinkSeen) (result : Status) : Type 0 where
  pub line : Takes old.text new.text (line_of stop)
  pub status : result ≡ status_of stop

-- a put failed after a front of the line, and the status is `Outside`
pub record IsCut (stop : Stop) (old new : SinkSeen) (result : Status) : Type 0 where
  pub front : List ℕ
  pub is_front : IsFront front (line_of stop)
  pub line : Takes old.text new.text front
  pub rose : Rose old.faults new.faults
  pub status : result ≡ status.Outside

-- the line was put, or its put failed
abbrev pub Tells : Stop → SinkSeen → SinkSeen → Status → Type 0
Tells stop old new result = IsTold stop old new result ⊎ IsCut stop old new result
