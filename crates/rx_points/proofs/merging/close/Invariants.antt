use Rattle.std.proofs.Common.{◌+◌, length}
use Rattle.rx_points.specs.Keys.{spans_at}
use Rattle.rx_points.proofs.Keys.{Passed}
use Rattle.rx_points.proofs.merging.close.Given as goal

abbrev pub invariant-spans : goal.invariant-spans
invariant-spans l = Passed l.levels l.initial.last l.initial.ones l.initial.others l.initial.united l.last l.ones l.others l.united

abbrev pub decreases-spans : goal.decreases-spans
decreases-spans l = length (spans_at l.levels l.ones) + length (spans_at l.levels l.others)
