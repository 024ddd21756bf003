use Rattle.std.proofs.Common.{drop}
use Rattle.rx_plan.specs.Seeks.{seeks_of_candidate}
use Rattle.rx_plan.proofs.Told.{IsSummed}
use Rattle.rx_plan.proofs.seeks.seeks_of.Given as goal

abbrev pub invariant-loop-candidate : goal.invariant-loop-candidate
invariant-loop-candidate l = IsSummed seeks_of_candidate l.candidates (drop l.candidate-index l.candidates) l.seeks
