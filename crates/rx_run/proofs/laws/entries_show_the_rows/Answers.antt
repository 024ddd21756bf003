use Rattle.rx_run.proofs.Shown.{entries_show}
use Rattle.rx_run.proofs.laws.entries_show_the_rows.Goals as goal

pub returns : goal.returns
returns c = λ candidate table t sound is merge shown by_id. entries_show candidate table t sound is shown merge by_id
