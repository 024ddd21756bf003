use Rattle.rx_merge.proofs.Found.{handed_out}
use Rattle.rx_merge.proofs.laws.runs_hand_out_what_is_merged.Goals as goal

pub returns : goal.returns
returns c = handed_out
