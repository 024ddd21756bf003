use Rattle.std.proofs.Common.{drop}
use Rattle.rx_plan.specs.Seeks.{seeks_of_scan}
use Rattle.rx_plan.proofs.Told.{IsSummed}
use Rattle.rx_plan.proofs.seeks.seeks_of_scans.Given as goal

abbrev pub invariant-loop-scan : goal.invariant-loop-scan
invariant-loop-scan l = IsSummed seeks_of_scan l.scans (drop l.scan-index l.scans) l.seeks
