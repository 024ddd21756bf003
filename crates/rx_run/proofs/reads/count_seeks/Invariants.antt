use Rattle.std.proofs.Common.{◌≡◌, ◌*◌, take}
use Rattle.rx_merge.specs.Merged.{count_ranges}
use Rattle.rx_run.specs.Reads.{counted_number}
use Rattle.rx_run.proofs.reads.count_seeks.Given as goal

-- the scans so far
abbrev pub invariant-loop-scan : goal.invariant-loop-scan
invariant-loop-scan l = l.seeks ≡ counted_number (2 * count_ranges (take l.scan-index l.scans))
