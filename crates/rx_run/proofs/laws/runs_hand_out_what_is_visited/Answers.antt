use Rattle.rx_run.proofs.Counting.{handed_out}
use Rattle.rx_run.proofs.laws.runs_hand_out_what_is_visited.Goals as goal

pub returns : goal.returns
returns c = handed_out
