use Rattle.std.proofs.Common.{map}
use Rattle.rx_value.specs.Parts.{borrowed}
use Rattle.rx_index.specs.Marks.{AreMarkedTo}
use Rattle.rx_index.proofs.different.mark.Given as goal

-- the places before this one are marked
abbrev pub invariant-loop-place : goal.invariant-loop-place
invariant-loop-place l = AreMarkedTo l.falling (map borrowed l.values) l.place l.initial.marks l.marks
