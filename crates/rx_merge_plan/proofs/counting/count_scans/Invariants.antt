use Rattle.std.proofs.Common.{◌≡◌, None}
use Rattle.std.specs.List.{AllZip, sum_by}
use Rattle.rx_store.specs.Tables.{Keeps}
use Rattle.rx_estimate.specs.Estimates.{dive_seeks, with_seeks}
use Rattle.rx_merge_plan.specs.Disjuncts.{IsCountedScan}
use Rattle.rx_merge_plan.proofs.counting.count_scans.Given as goal

-- the scans so far
abbrev pub invariant-loop-scan : goal.invariant-loop-scan
invariant-loop-scan g l =
    let table = g.T.Table.means l.initial.table in
    record {
      are : AllZip (IsCountedScan l.settings table) l.yielded l.list;
      counts : (g.T.Table.tally l.table).counts ≡ with_seeks (sum_by (λ scan. dive_seeks l.settings.dive_limit scan.ranges) l.yielded) (g.T.Table.tally l.initial.table).counts;
      keeps : Keeps g.T.Table.means g.T.Table.tally g.T.Table.kept g.T.Table.spent None l.initial.table l.table;
    }
