use Rattle.std.proofs.Common.{◌≡◌, ◌≤◌, ◌*◌, take}
use Rattle.rx_cost.specs.Costs.{most_counted}
use Rattle.rx_merges.specs.Intersections.{ranges_in}
use Rattle.rx_merges.proofs.counts.ranges_in.Given as goal

-- those of the scans so far
abbrev pub invariant-loop-scan : goal.invariant-loop-scan
invariant-loop-scan l = record {
  value : l.ranges ≡ ranges_in (take l.scan-index l.scans);
  within : l.ranges ≤ l.scan-index * most_counted;
}
