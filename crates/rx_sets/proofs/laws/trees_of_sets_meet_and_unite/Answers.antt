use Rattle.rx_sets.proofs.Trees.{tree_of_both, tree_of_either}
use Rattle.rx_sets.proofs.laws.trees_of_sets_meet_and_unite.Goals as goal

pub returns-clause-meet : goal.returns-clause-meet
returns-clause-meet c = tree_of_both

pub returns-clause-unite : goal.returns-clause-unite
returns-clause-unite c = tree_of_either
