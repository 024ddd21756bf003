use Rattle.rx_access.proofs.Runs.{all_run}
use Rattle.rx_access.proofs.laws.candidates_can_run.Goals as goal

pub returns : goal.returns
returns c = all_run
