use Rattle.std.proofs.Common.{◌≡◌, ◌≤◌, ◌*◌, take}
use Rattle.rx_cost.specs.Costs.{most_counted}
use Rattle.rx_merges.specs.Fitting.{most_ids}
use Rattle.rx_merges.specs.Intersections.{ids_in}
use Rattle.rx_merges.specs.Unions.{rows_in}
use Rattle.rx_merges.proofs.unions.sort_union.Given as goal

-- those of the scans so far
abbrev pub invariant-loop-scan : goal.invariant-loop-scan
invariant-loop-scan l = record {
  ids : l.ids ≡ ids_in (take l.scan-index l.scan-items);
  rows : l.rows ≡ rows_in (take l.scan-index l.scan-items);
  low : l.ids ≤ l.scan-index * most_ids;
  few : l.rows ≤ l.scan-index * most_counted;
}
