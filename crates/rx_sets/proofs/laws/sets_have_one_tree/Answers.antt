use Rattle.rx_sets.proofs.Trees.{one_tree, same_set, not_small}
use Rattle.rx_sets.proofs.laws.sets_have_one_tree.Goals as goal

pub returns-clause-one : goal.returns-clause-one
returns-clause-one c = one_tree

pub returns-clause-same : goal.returns-clause-same
returns-clause-same c = same_set

pub returns-clause-small : goal.returns-clause-small
returns-clause-small c = not_small
