use Rattle.rx_merge.proofs.Found.{rows_found}
use Rattle.rx_merge.proofs.laws.merges_hand_out_each_row_once.Goals as goal

pub returns : goal.returns
returns c = rows_found
