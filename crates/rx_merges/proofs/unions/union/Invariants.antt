use Rattle.std.proofs.Common.{◌≡◌, ◌≤◌, ◌*◌, length}
use Rattle.std.specs.List.{flat_map, sum_by}
use Rattle.rx_cost.specs.Choice.{cost_of}
use Rattle.rx_cost.specs.Costs.{most_counted}
use Rattle.rx_merges.specs.Fitting.{most_member}
use Rattle.rx_merges.proofs.unions.union.Given as goal

-- those of the members so far
abbrev pub invariant-loop-member : goal.invariant-loop-member
invariant-loop-member l = record {
  scans : l.scans ≡ flat_map (λ member. member.scans) l.yielded;
  cost : l.cost ≡ sum_by cost_of l.yielded;
  rows : l.rows ≡ sum_by (λ member. member.rows) l.yielded;
  low : l.cost ≤ length l.yielded * most_member;
  few : l.rows ≤ length l.yielded * most_counted;
}
