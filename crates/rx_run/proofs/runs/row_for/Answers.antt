use Rattle.std.proofs.Common.{sym, subst}
use Rattle.rx_run.specs.Steps.{IsRowFor}
use Rattle.rx_run.proofs.Rows.{row_read}
use Rattle.rx_run.proofs.runs.row_for.Goals as goal

pub returns-in-Ok-clause-row : goal.returns-in-Ok-clause-row
returns-in-Ok-clause-row g c =
    let table = g.T.Table.means c.args.table.now in
    subst (λ given. IsRowFor table given c.args.id c.in-Ok.row) (sym c.in-None.is) (row_read table c.args.id c.in-Ok.row c.in-Ok.ensures.told c.in-Ok.ensures.fits)
