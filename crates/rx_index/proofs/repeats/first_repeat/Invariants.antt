use Rattle.rx_index.specs.Duplicates.{IsFirst}
use Rattle.rx_index.specs.Placed.{ids_in}
use Rattle.rx_index.specs.Steps.{IsFound}
use Rattle.rx_index.proofs.repeats.first_repeat.Given as goal

-- the least row that was found so far
abbrev pub invariant-loop-place : goal.invariant-loop-place
invariant-loop-place l = IsFirst (IsFound l.parts l.rows (ids_in l.list) l.place) l.first
