use Rattle.std.proofs.Common.{◌≡◌, ◌≤◌, take}
use Rattle.std.specs.List.{fold}
use Rattle.rx_merges.specs.Intersections.{rows_left}
use Rattle.rx_merges.proofs.counts.rows_met.Given as goal

-- those of the scans so far
abbrev pub invariant-loop-scan : goal.invariant-loop-scan
invariant-loop-scan l = record {
  value : l.rows ≡ fold (rows_left l.count) l.initial.rows (take l.scan-index l.others);
  within : l.rows ≤ l.count;
}
