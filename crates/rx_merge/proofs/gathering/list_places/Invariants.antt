use Rattle.std.proofs.Common.{◌≡◌, ◌++◌, length}
use Rattle.rx_merge.proofs.gathering.list_places.Given as goal

-- the places so far, and those that are left
abbrev pub invariant-loop-place : goal.invariant-loop-place
invariant-loop-place l = l.ids ++ l.places ≡ l.initial.places

abbrev pub decreases-loop-place : goal.decreases-loop-place
decreases-loop-place l = length l.places
