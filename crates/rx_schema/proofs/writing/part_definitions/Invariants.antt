use Rattle.std.proofs.Common.{◌≡◌, take, map}
use Rattle.rx_schema.specs.Writing.{part_definition}
use Rattle.rx_schema.proofs.writing.part_definitions.Given as goal

-- the parts so far
abbrev pub invariant-loop-part : goal.invariant-loop-part
invariant-loop-part l = l.list ≡ map (part_definition l.columns) (take l.part-index l.parts)
