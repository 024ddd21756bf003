use Rattle.rx_scan.proofs.Opened.{table_opened}
use Rattle.rx_scan.proofs.runs.open_table.Goals as goal

pub returns : goal.returns
returns g c = table_opened (g.T.Table.means c.args.table.now) c.args.c.now c.rows.result c.before-2.result c.rows.ensures.sound c.rows.ensures.value c.before-2.ensures
