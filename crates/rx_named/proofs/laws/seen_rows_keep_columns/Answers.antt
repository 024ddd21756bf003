use Rattle.rx_named.proofs.Seen.{seen_keeps, listed_keeps}
use Rattle.rx_named.proofs.laws.seen_rows_keep_columns.Goals as goal

pub returns-clause-each : goal.returns-clause-each
returns-clause-each c = seen_keeps

pub returns-clause-listed : goal.returns-clause-listed
returns-clause-listed c = listed_keeps
