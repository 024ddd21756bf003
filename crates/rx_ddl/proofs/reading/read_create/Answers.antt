use Rattle.rx_ddl.proofs.StatementLaws.{answer_none}
use Rattle.rx_ddl.proofs.reading.read_create.Goals as goal

pub returns-clause-none : goal.returns-clause-none
returns-clause-none c = answer_none _ c.read_whole.result c.read_whole.ensures.refused
