use Rattle.rx_where.proofs.Parsing.{only_of}
use Rattle.rx_where.proofs.conditions.one_condition.Goals as goal

pub returns : goal.returns
returns c = only_of
