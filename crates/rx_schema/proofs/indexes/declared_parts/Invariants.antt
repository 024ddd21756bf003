use Rattle.std.proofs.Common.{◌≡◌, take, map}
use Rattle.rx_schema.specs.Indexes.{declared_part}
use Rattle.rx_schema.proofs.indexes.declared_parts.Given as goal

-- the parts so far
abbrev pub invariant-loop-part : goal.invariant-loop-part
invariant-loop-part l = l.list ≡ map (declared_part l.columns) (take l.part-index l.parts)
