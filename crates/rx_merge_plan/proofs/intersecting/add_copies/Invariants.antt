use Rattle.std.proofs.Common.{◌≡◌, ◌++◌, take}
use Rattle.rx_merge_plan.proofs.intersecting.add_copies.Given as goal

-- those so far
abbrev pub invariant-loop-scan : goal.invariant-loop-scan
invariant-loop-scan l = l.list ≡ l.initial.list ++ take l.scan-index l.scans
