use Rattle.rx_inputs.proofs.ById.{loaded_by_id}
use Rattle.rx_inputs.proofs.reading.table_of_rows.Goals as goal

pub returns-in-Ok-clause-by_id : goal.returns-in-Ok-clause-by_id
returns-in-Ok-clause-by_id c = loaded_by_id c.args.schema c.args.rows c.in-Ok.table c.in-Ok.ensures.value
