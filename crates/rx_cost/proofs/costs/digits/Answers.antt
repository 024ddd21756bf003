use Rattle.rx_cost.proofs.Digits.{digits_are}
use Rattle.rx_cost.proofs.costs.digits.Goals as goal
use Rattle.std.proofs.Common.{sym}

pub returns-else-n-eq0-clause-exact : goal.returns-else-n-eq0-clause-exact
returns-else-n-eq0-clause-exact c = sym (digits_are c.ilog2.result c.args.n c.ilog2.ensures.power_le c.ilog2.ensures.next_power_gt)
