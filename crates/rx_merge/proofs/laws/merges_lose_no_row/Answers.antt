use Rattle.rx_merge.proofs.Found.{none_lost}
use Rattle.rx_merge.proofs.laws.merges_lose_no_row.Goals as goal

pub returns : goal.returns
returns c = none_lost
