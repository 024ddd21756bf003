use Rattle.std.proofs.Common.{◌≡◌, ◌≤◌, ◌*◌, take}
use Rattle.rx_merges.specs.Fitting.{most_ids}
use Rattle.rx_merges.specs.Intersections.{ids_in}
use Rattle.rx_merges.proofs.counts.ids_in.Given as goal

-- those of the scans so far
abbrev pub invariant-loop-scan : goal.invariant-loop-scan
invariant-loop-scan l = record {
  value : l.ids ≡ ids_in (take l.scan-index l.scans);
  within : l.ids ≤ l.scan-index * most_ids;
}
