use Rattle.rx_index.specs.Packed.{ArePackedTo}
use Rattle.rx_index.proofs.packed.packed_by.Given as goal

-- the rows so far
abbrev pub invariant-loop-id : goal.invariant-loop-id
invariant-loop-id l = ArePackedTo l.fields l.rows l.id l.numbers.items
