use Rattle.std.proofs.Common.{◌≡◌, ◌++◌, take}
use Rattle.rx_merges.proofs.intersections.joined.Given as goal

-- the scans so far
abbrev pub invariant-loop-scan : goal.invariant-loop-scan
invariant-loop-scan l = l.list ≡ take l.scan-index l.scans

-- all scans, and the others so far
abbrev pub invariant-loop-scan-2 : goal.invariant-loop-scan-2
invariant-loop-scan-2 l = l.list ≡ l.scans ++ take l.scan-index l.others
