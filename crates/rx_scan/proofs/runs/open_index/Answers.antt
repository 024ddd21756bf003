use Rattle.std.proofs.Common.{length}
use Rattle.rx_scan.proofs.Opened.{index_opened, index_there}
use Rattle.rx_scan.proofs.runs.open_index.Goals as goal

pub returns : goal.returns
returns g c =
    let table = g.T.Table.means c.args.table.now in
    index_opened table c.args.c.now c.rows.result c.before-2.result c.rows.ensures.sound c.rows.ensures.value c.before-2.ensures
    c.scan_of.result.now.index c.scan_of.ensures.index
    (index_there c.args.c.now c.requires.scan c.scan_of.result.now.index (length table.schema.indexes) c.requires.one c.scan_of.ensures.index c.requires.there)
