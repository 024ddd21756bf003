use Rattle.std.proofs.Common.{◌≡◌, ◌++◌, take}
use Rattle.std.specs.List.{flat_map}
use Rattle.rx_rows.specs.Lines.{escaped}
use Rattle.rx_rows.proofs.lines.print_text.Given as goal

abbrev pub invariant-loop-byte : goal.invariant-loop-byte
invariant-loop-byte l = l.into ≡ l.initial.into ++ flat_map escaped (take l.byte-index l.text)
