use Rattle.std.proofs.Common.{◌≡◌, false, take}
use Rattle.rx_merges.specs.Intersections.{have_column}
use Rattle.rx_merges.proofs.intersections.have_column.Given as goal

-- none of the scans so far
abbrev pub invariant-loop-scan : goal.invariant-loop-scan
invariant-loop-scan l = have_column l.schema (take l.scan-index l.scans) l.column ≡ false
