use Rattle.std.proofs.Common.{◌≡◌, ◌∷◌, take, string_bytes}
use Rattle.std.specs.List.{flat_map}
use Rattle.rx_trace.specs.Ranges.{quoted_byte}
use Rattle.rx_trace.proofs.texts.quoted_text.Given as goal

abbrev pub invariant-loop-byte : goal.invariant-loop-byte
invariant-loop-byte l = string_bytes l.text ≡ 39 ∷ flat_map quoted_byte (take l.byte-index l.bytes)
