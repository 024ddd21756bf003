use Rattle.std.proofs.Common.{drop}
use Rattle.std.specs.List.{sum_by}
use Rattle.rx_plan.specs.Seeks.{seeks_of_scan}
use Rattle.rx_plan.proofs.Told.{IsSummed}
use Rattle.rx_merge_plan.proofs.uniting.seeks_of_lists.Given as goal

abbrev pub invariant-loop-scans : goal.invariant-loop-scans
invariant-loop-scans l = IsSummed (sum_by seeks_of_scan) l.lists (drop l.scans-index l.lists) l.seeks
