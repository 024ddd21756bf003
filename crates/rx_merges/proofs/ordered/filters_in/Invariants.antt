use Rattle.std.proofs.Common.{◌≡◌, take}
use Rattle.rx_merges.specs.Ordered.{filters_in}
use Rattle.rx_merges.proofs.ordered.filters_in.Given as goal

-- that of the scans so far
abbrev pub invariant-loop-scan : goal.invariant-loop-scan
invariant-loop-scan l = l.filters ≡ filters_in l.schema (take l.scan-index l.scans)
