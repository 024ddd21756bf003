use Rattle.rx_candidates.proofs.Once.{first_is_chosen, one_chosen}
use Rattle.rx_candidates.proofs.laws.first_of_least_cost_is_chosen.Goals as goal

pub returns-clause-there : goal.returns-clause-there
returns-clause-there c = first_is_chosen

pub returns-clause-one : goal.returns-clause-one
returns-clause-one c = one_chosen
