use Rattle.rx_tree.proofs.Intersection.{and_canonical, and_holds}
use Rattle.rx_tree.proofs.laws.trees_meet.Goals as goal

pub returns-clause-canonical : goal.returns-clause-canonical
returns-clause-canonical c = and_canonical

pub returns-clause-holds : goal.returns-clause-holds
returns-clause-holds c = and_holds
