use Rattle.std.proofs.Common.{◌≡◌, ◌≤◌, ◌+◌, drop, count_by}
use Rattle.rx_estimate.specs.Estimates.{is_equality}
use Rattle.rx_estimate.proofs.taking.equalities_in.Given as goal

abbrev pub invariant-loop-range : goal.invariant-loop-range
invariant-loop-range l = (l.count ≤ l.range-index) × (l.count + count_by is_equality (drop l.range-index l.ranges) ≡ count_by is_equality l.ranges)
