use Rattle.rx_plan.proofs.Once.{some_known, known_are, one_known}
use Rattle.rx_plan.proofs.laws.indexes_are_known_once.Goals as goal

pub returns-clause-there : goal.returns-clause-there
returns-clause-there c = some_known

pub returns-clause-given : goal.returns-clause-given
returns-clause-given c = known_are

pub returns-clause-one : goal.returns-clause-one
returns-clause-one c = one_known
