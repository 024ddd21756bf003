use Rattle.rx_ddl.proofs.StatementLaws.{only}
use Rattle.rx_ddl.proofs.reading.one_statement.Goals as goal

pub returns : goal.returns
returns c = only
