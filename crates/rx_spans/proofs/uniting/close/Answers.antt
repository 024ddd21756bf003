use Rattle.rx_spans.proofs.Steps.{closing_step}
use Rattle.rx_spans.proofs.uniting.close.Goals as goal

pub spans-preserved : goal.spans-preserved
spans-preserved c =
    closing_step c.args.span c.args.first.now c.args.second.now c.args.united.now c.spans.last c.spans.ones.now c.spans.others.now c.spans.united
    c.in-Some.next.span.now c.in_ok-last.last c.in-Some.next.first.now c.in-Some.next.second.now c.take_in.new.united c.spans.invariant c.in-Some.ensures.some c.in_ok-last.ensures
