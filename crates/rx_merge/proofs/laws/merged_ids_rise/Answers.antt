use Rattle.rx_merge.proofs.Found.{ids_within, ids_rise}
use Rattle.rx_merge.proofs.laws.merged_ids_rise.Goals as goal

pub returns-clause-within : goal.returns-clause-within
returns-clause-within c = ids_within

pub returns-clause-rising : goal.returns-clause-rising
returns-clause-rising c = ids_rise
