use Rattle.rx_graph_laws.proofs.Running.{all_keep, one_held, one_tree, runs_at, runs_held, runs_match, two_held}
use Rattle.rx_graph_laws.proofs.laws.handles_have_the_trees_of_sets.Goals as goal

pub returns-clause-matches : goal.returns-clause-matches
returns-clause-matches c = runs_match

pub returns-clause-canonical_tree : goal.returns-clause-canonical_tree
returns-clause-canonical_tree c = runs_at

pub returns-clause-each_held : goal.returns-clause-each_held
returns-clause-each_held c = runs_held

pub returns-clause-goes_on : goal.returns-clause-goes_on
returns-clause-goes_on c = all_keep

pub returns-clause-one_is_held : goal.returns-clause-one_is_held
returns-clause-one_is_held c = one_held

pub returns-clause-two_are_held : goal.returns-clause-two_are_held
returns-clause-two_are_held c = two_held

pub returns-clause-only_one : goal.returns-clause-only_one
returns-clause-only_one c = one_tree
