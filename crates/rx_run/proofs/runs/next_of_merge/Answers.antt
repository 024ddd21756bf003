use Rattle.std.proofs.Common.{rules}
use Rattle.rx_run.proofs.Rows.{rest_below}
use Rattle.rx_run.proofs.runs.next_of_merge.Goals as goal

pub returns-in-Ok-clause-left : goal.returns-in-Ok-clause-left
returns-in-Ok-clause-left g c = rest_below (g.T.Table.means c.args.table.now) c.args.ids.now c.next.new.self c.in-Ok-Some.id c.requires (search rules)

pub returns-in-Err-row_for-clause-left : goal.returns-in-Err-row_for-clause-left
returns-in-Err-row_for-clause-left g c = rest_below (g.T.Table.means c.args.table.now) c.args.ids.now c.next.new.self c.in-Ok-Some.id c.requires (search rules)
