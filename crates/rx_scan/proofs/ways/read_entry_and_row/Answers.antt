use Rattle.rx_scan.proofs.Types.{row_types}
use Rattle.rx_scan.proofs.ways.read_entry_and_row.Goals as goal

pub returns-in-Ok-row-clause-types : goal.returns-in-Ok-row-clause-types
returns-in-Ok-row-clause-types g c = row_types (g.T.Table.means c.args.table.now).schema c.in-Ok-row.row (rw c.in-Ok.ensures.keeps.means_stays at c.in-Ok-row.ensures.fits)
