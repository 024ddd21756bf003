use Rattle.rx_value.proofs.Ends.{end_cmp_total, end_cmp-equal}
use Rattle.rx_value.proofs.Meeting.{span_known}
use Rattle.rx_value.proofs.spans.ends_are_ordered.Goals as goal

pub returns-clause-total : goal.returns-clause-total
returns-clause-total c = end_cmp_total

pub returns-clause-equal : goal.returns-clause-equal
returns-clause-equal c = end_cmp-equal

pub returns-clause-spans : goal.returns-clause-spans
returns-clause-spans c = span_known
