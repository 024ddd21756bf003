use Rattle.std.proofs.Common.{◌≡◌, map, take}
use Rattle.rx_value.specs.Parts.{borrowed}
use Rattle.rx_index.specs.Marks.{values_of}
use Rattle.rx_index.proofs.different.values_on.Given as goal

-- the values of the entries so far
abbrev pub invariant-loop-id : goal.invariant-loop-id
invariant-loop-id l = map borrowed l.values.items ≡ values_of l.part l.rows (take l.id-index l.ids)
