-- What is made is the one table.
use Rattle.rx_load.proofs.Tables.{table_is, rows_fit}
use Rattle.rx_load.proofs.Firsts.{none_is, fault_is}
use Rattle.rx_load.proofs.loading.load.Goals as goal

pub returns-in-Ok-clause-value : goal.returns-in-Ok-clause-value
returns-in-Ok-clause-value c = table_is c.args.schema c.args.rows c.in-Ok.t c.requires.limits c.requires.fit c.in-Ok.ensures.free c.in-Ok.ensures.indexed

pub returns-in-Ok-clause-free : goal.returns-in-Ok-clause-free
returns-in-Ok-clause-free c = none_is c.args.schema c.args.rows c.in-Ok.ensures.free

pub returns-in-Ok-clause-fit : goal.returns-in-Ok-clause-fit
returns-in-Ok-clause-fit c = rows_fit c.args.schema c.args.rows c.in-Ok.t c.requires.fit c.in-Ok.ensures.indexed

pub returns-in-Err-clause-fault : goal.returns-in-Err-clause-fault
returns-in-Err-clause-fault c = fault_is c.args.schema c.args.rows c.in-Err.fault c.in-Err.ensures.fault
