use Rattle.std.proofs.Common.{◌≡◌, ◌++◌, drop}
use Rattle.rx_single.specs.Listing.{points_of}
use Rattle.rx_single.proofs.listing.points_of.Given as goal

-- the points so far, and those of the rest
abbrev pub invariant-loop-value : goal.invariant-loop-value
invariant-loop-value l = l.spans ++ points_of (drop l.value-index l.values) ≡ points_of l.values
