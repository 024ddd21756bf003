use Rattle.std.proofs.Common.{◌≡◌, map, take}
use Rattle.rx_index.specs.Packed.{unpacked}
use Rattle.rx_index.proofs.packed.unpack.Given as goal

-- the rows so far
abbrev pub invariant-loop-number : goal.invariant-loop-number
invariant-loop-number l = l.list.items ≡ map unpacked (take l.number-index l.numbers)
