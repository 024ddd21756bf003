use Rattle.std.proofs.Common.{◌≡◌, ◌≤◌, Some, length, map, take, All}
use Rattle.rx_cost.specs.Costs.{most_counted}
use Rattle.rx_merges.specs.Fitting.{IsCounted}
use Rattle.rx_merges.specs.Unions.{all_there, cheapest}
use Rattle.rx_merges.proofs.unions.all_cheapest.Given as goal

-- those of the disjuncts so far
abbrev pub invariant-loop-list : goal.invariant-loop-list
invariant-loop-list l = record {
  value : all_there (map cheapest (take l.list-index l.lists)) ≡ Some l.scans;
  few : length l.scans ≤ l.list-index;
  each : All (IsCounted most_counted) l.scans;
}
