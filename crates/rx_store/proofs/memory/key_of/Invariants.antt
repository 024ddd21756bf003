use Rattle.std.proofs.Common.{◌≡◌, map, take}
use Rattle.rx_value.specs.Keys.{part_value}
use Rattle.rx_store.proofs.memory.key_of.Given as goal

-- the values of the parts so far
abbrev pub invariant-loop-part : goal.invariant-loop-part
invariant-loop-part l = l.key ≡ map (λ p. part_value p l.row) (take l.part-index l.parts)
