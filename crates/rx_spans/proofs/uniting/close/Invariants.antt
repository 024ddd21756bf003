use Rattle.std.proofs.Common.{◌+◌, length}
use Rattle.rx_spans.proofs.Steps.{Closing}
use Rattle.rx_spans.proofs.uniting.close.Given as goal

abbrev pub invariant-spans : goal.invariant-spans
invariant-spans l = Closing l.initial.last l.initial.ones l.initial.others l.initial.united l.last l.ones l.others l.united

abbrev pub decreases-spans : goal.decreases-spans
decreases-spans l = length l.ones + length l.others
