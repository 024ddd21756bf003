-- What shows of a sink before and after a call.
use Rattle.std.specs.Prelude.{ℕ, List, Option}

-- the text that it took and the room that is left, where told; the puts that failed
pub record SinkSeen : Type 0 where
  pub text : Option (List ℕ)
  pub faults : ℕ
  pub room : Option ℕ

abbrev pub sink_seen : {S : Type 0} → (S → Option (List ℕ)) → (S → ℕ) → (S → Option ℕ) → S → SinkSeen
sink_seen text faults room sink = record { text = text sink; faults = faults sink; room = room sink }
