use Rattle.std.proofs.Common.{◌≡◌, ◌≤◌, Some, length, map, take, All}
use Rattle.rx_merges.specs.Fitting.{IsMember}
use Rattle.rx_merges.specs.Unions.{all_there, member_of}
use Rattle.rx_merges.proofs.unions.all_members.Given as goal

-- those of the disjuncts so far
abbrev pub invariant-loop-scans : goal.invariant-loop-scans
invariant-loop-scans l = record {
  value : all_there (map (member_of l.intersect l.schema l.count) (take l.scans-index l.lists)) ≡ Some l.members;
  few : length l.members ≤ l.scans-index;
  each : All IsMember l.members;
}
