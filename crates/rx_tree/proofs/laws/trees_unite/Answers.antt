use Rattle.rx_tree.proofs.Either.{or_canonical, or_holds}
use Rattle.rx_tree.proofs.laws.trees_unite.Goals as goal

pub returns-clause-canonical : goal.returns-clause-canonical
returns-clause-canonical c = or_canonical

pub returns-clause-holds : goal.returns-clause-holds
returns-clause-holds c = or_holds
