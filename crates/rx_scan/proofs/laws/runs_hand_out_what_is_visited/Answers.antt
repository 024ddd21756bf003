use Rattle.rx_scan.proofs.Taking.{handed_out}
use Rattle.rx_scan.proofs.laws.runs_hand_out_what_is_visited.Goals as goal

pub returns : goal.returns
returns c = handed_out
