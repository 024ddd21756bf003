use Rattle.std.proofs.Common.{◌≡◌, ◌≤◌, ◌+◌, min, None, IfSome, drop}
use Rattle.std.specs.List.{sum_by}
use Rattle.rx_index.specs.Bounds.{index_keys}
use Rattle.rx_store.specs.Tables.{Keeps}
use Rattle.rx_estimate.specs.Estimates.{rows_taken, numbers_at, seeks_for, with_seeks}
use Rattle.rx_estimate.proofs.dives.dive.Given as goal

abbrev pub invariant-loop-range : goal.invariant-loop-range
invariant-loop-range g l =
    let table = g.T.Table.means l.initial.table in
    record {
      rows : IfSome table.told (λ t.
          let taken = rows_taken l.by_statistics table.count (numbers_at table.statistics l.index) (index_keys t l.index) in
          min table.count (l.rows + sum_by taken (drop l.range-index l.ranges)) ≡ min table.count (sum_by taken l.ranges));
      within : l.rows ≤ table.count;
      counts : with_seeks (sum_by (seeks_for l.by_statistics) (drop l.range-index l.ranges)) (g.T.Table.tally l.table).counts
          ≡ with_seeks (sum_by (seeks_for l.by_statistics) l.ranges) (g.T.Table.tally l.initial.table).counts;
      keeps : Keeps g.T.Table.means g.T.Table.tally g.T.Table.kept g.T.Table.spent None l.initial.table l.table;
    }
