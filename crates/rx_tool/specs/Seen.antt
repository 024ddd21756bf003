-- What shows of the outside before and after a call.
use Rattle.std.specs.Prelude.{ℕ, Bool, List, Option}
use Rattle.rx_engine.specs.Seen.{SinkSeen}

-- of files: what each name holds, where told; the names whose reads can't fail; the bytes handed out; the reads that failed
pub record FilesSeen : Type 0 where
  pub told : List ℕ → Option (List ℕ)
  pub sure : List ℕ → Bool
  pub taken : ℕ
  pub faults : ℕ

abbrev pub files_seen : {F : Type 0} → (F → List ℕ → Option (List ℕ)) → (F → List ℕ → Bool) → (F → ℕ) → (F → ℕ) → F → FilesSeen
files_seen told sure taken faults files = record { told = told files; sure = sure files; taken = taken files; faults = faults files }

-- of all that a run touches: the files, the output and the error output
pub record Outside : Type 0 where
  pub files : FilesSeen
  pub out : SinkSeen
  pub err : SinkSeen

abbrev pub outside : FilesSeen → SinkSeen → SinkSeen → Outside
outside files out err = record { files = files; out = out; err = err }
