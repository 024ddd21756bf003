use Rattle.std.proofs.Common.{map}
use Rattle.rx_merges.specs.Intersections.{ids_of}
use Rattle.rx_merges.proofs.Least.{IsLeastOf}
use Rattle.rx_merges.proofs.unions.cheapest_place.Given as goal

-- the first of least of the scans so far
abbrev pub invariant-loop-i : goal.invariant-loop-i
invariant-loop-i l = IsLeastOf (map ids_of l.scans) l.best l.i
