use Rattle.rx_tree.proofs.Unique.{same_trees}
use Rattle.rx_tree.proofs.laws.trees_are_unique.Goals as goal

pub returns : goal.returns
returns c = same_trees
