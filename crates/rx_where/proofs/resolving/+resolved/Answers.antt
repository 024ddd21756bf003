use Rattle.rx_where.proofs.Lists.{all_resolved}
use Rattle.rx_where.proofs.resolving.+resolved.Goals as goal

pub resolved_all-returns : goal.resolved_all-returns
resolved_all-returns t c = all_resolved _ _ _ _ c.loop-item-test.false c.loop-item.invariant
