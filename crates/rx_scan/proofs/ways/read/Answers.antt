use Rattle.rx_scan.proofs.Types.{row_types}
use Rattle.rx_scan.proofs.ways.read.Goals as goal

pub returns-in-Ok-clause-types : goal.returns-in-Ok-clause-types
returns-in-Ok-clause-types g c = row_types (g.T.Table.means c.args.table.now).schema c.in-Ok.row c.in-Ok.ensures.fits
