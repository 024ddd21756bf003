use Rattle.rx_tree.proofs.Sets.{point_canonical, point_holds}
use Rattle.rx_tree.proofs.Counted.{point_size, point_constrains, point_whole}
use Rattle.rx_tree.proofs.laws.point_sets_have_trees.Goals as goal

pub returns-clause-canonical : goal.returns-clause-canonical
returns-clause-canonical c = point_canonical

pub returns-clause-holds : goal.returns-clause-holds
returns-clause-holds c = point_holds

pub returns-clause-all : goal.returns-clause-all
returns-clause-all c = point_whole

pub returns-clause-size : goal.returns-clause-size
returns-clause-size c = point_size

pub returns-clause-constrained : goal.returns-clause-constrained
returns-clause-constrained c = point_constrains
