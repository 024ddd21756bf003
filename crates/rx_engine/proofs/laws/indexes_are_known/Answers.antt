use Rattle.rx_plan.proofs.Once.{known_are}
use Rattle.rx_engine.proofs.laws.indexes_are_known.Goals as goal

pub returns : goal.returns
returns c = known_are
