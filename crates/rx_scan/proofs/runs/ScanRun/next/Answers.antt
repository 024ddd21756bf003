use Rattle.std.proofs.Common.{sym, subst}
use Rattle.rx_scan.specs.Runs.{IsRunOver}
use Rattle.rx_scan.proofs.Opened.{run_rest}
use Rattle.rx_scan.proofs.runs.ScanRun.next.Goals as goal

pub returns-clause-over : goal.returns-clause-over
returns-clause-over g c =
    let table = g.T.Table.means c.args.table.now in
    run_rest table _ c.in-Some.place c.next.new.self (subst (IsRunOver table) (sym c.self.view_is) c.requires) c.in-Some.ensures.some
