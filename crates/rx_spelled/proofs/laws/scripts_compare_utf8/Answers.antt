use Rattle.rx_spelled.proofs.Scripts.{script_utf8, answer_utf8}
use Rattle.rx_spelled.proofs.laws.scripts_compare_utf8.Goals as goal

pub returns : goal.returns
returns c = record { steps = script_utf8; answers = answer_utf8 }
