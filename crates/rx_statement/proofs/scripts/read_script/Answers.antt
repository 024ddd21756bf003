use Rattle.rx_statement.proofs.Steps.{answer_asks, answer_columns}
use Rattle.rx_statement.proofs.scripts.read_script.Goals as goal

pub returns-clause-columns : goal.returns-clause-columns
returns-clause-columns c = answer_columns c.args.schema.now c.args.text.now c.read_whole.result c.read_whole.ensures

pub returns-clause-asks : goal.returns-clause-asks
returns-clause-asks c = answer_asks c.args.schema.now c.args.text.now c.read_whole.result c.read_whole.ensures
