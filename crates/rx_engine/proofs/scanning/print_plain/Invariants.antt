use Rattle.std.proofs.Common.{◌≡◌, ◌≤◌, None}
use Rattle.rx_store.specs.Tables.{Keeps}
use Rattle.rx_query.specs.Steps.{question_of}
use Rattle.rx_scan.specs.Runs.{IsRunOver}
use Rattle.rx_engine.proofs.Scans.{IsAfter, PrintsSoFar}
use Rattle.rx_engine.proofs.scanning.print_plain.Given as goal

abbrev pub invariant-loop-count : goal.invariant-loop-count
invariant-loop-count g l =
    let table = g.T.Table.means l.initial.table in
    record {
      over : IsRunOver table l.left;
      after : IsAfter table l.fn.run l.left l.count (g.T.Table.tally l.initial.table).counts (g.T.Table.tally l.table).counts;
      printed : PrintsSoFar (question_of l.query) table l.fn.run l.left l.printed;
      few : l.printed.rows ≤ l.count;
      keeps : Keeps g.T.Table.means g.T.Table.tally g.T.Table.kept g.T.Table.spent None l.initial.table l.table;
    }
