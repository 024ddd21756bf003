use Rattle.std.proofs.Common.{◌≡◌, ◌++◌, take}
use Rattle.std.specs.List.{flat_map}
use Rattle.rx_ddl.specs.Canonical.{doubled_byte}
use Rattle.rx_ddl.proofs.writing.write_inside.Given as goal

abbrev pub invariant-loop-byte : goal.invariant-loop-byte
invariant-loop-byte l = l.into ≡ l.initial.into ++ flat_map doubled_byte (take l.byte-index l.name)
