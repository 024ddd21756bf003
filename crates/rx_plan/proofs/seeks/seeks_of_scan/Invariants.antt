use Rattle.std.proofs.Common.{not, drop}
use Rattle.rx_estimate.specs.Estimates.{seeks_for}
use Rattle.rx_plan.proofs.Told.{IsSummed}
use Rattle.rx_plan.proofs.seeks.seeks_of_scan.Given as goal

abbrev pub invariant-loop-range : goal.invariant-loop-range
invariant-loop-range l = IsSummed (seeks_for (not l.scan.dives)) l.range-items (drop l.range-index l.range-items) l.seeks
