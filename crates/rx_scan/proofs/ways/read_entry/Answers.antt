use Rattle.std.proofs.Common.{sym, subst}
use Rattle.rx_scan.specs.Handed.{IsOfTypes}
use Rattle.rx_scan.proofs.Types.{entry_handed, entry_types}
use Rattle.rx_scan.proofs.ways.read_entry.Goals as goal

pub returns-in-Ok-row_of_entry-clause-told : goal.returns-in-Ok-row_of_entry-clause-told
returns-in-Ok-row_of_entry-clause-told g c =
    let table = g.T.Table.means c.args.table.now in
    let same = c.in-Ok.ensures.keeps.means_stays in
    entry_handed table c.args.index c.args.place c.in-Ok.entry c.in-Ok-row_of_entry.row
    (rw same at c.row_of_entry.ensures.sound) c.in-Ok.ensures.told (rw same at c.in-Ok-row_of_entry.ensures.row)

pub returns-in-Ok-row_of_entry-clause-types : goal.returns-in-Ok-row_of_entry-clause-types
returns-in-Ok-row_of_entry-clause-types g c =
    let table = g.T.Table.means c.args.table.now in
    subst (IsOfTypes table.schema) (sym (rw c.in-Ok.ensures.keeps.means_stays at c.in-Ok-row_of_entry.ensures.row))
    (entry_types table.schema c.args.index c.in-Ok.entry.key c.in-Ok.ensures.fits.key)
