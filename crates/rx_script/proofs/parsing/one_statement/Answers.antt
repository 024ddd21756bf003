use Rattle.rx_script.proofs.StatementLaws.{only}
use Rattle.rx_script.proofs.parsing.one_statement.Goals as goal

pub returns : goal.returns
returns c = only
