use Rattle.std.proofs.Common.{◌≡◌, None, All}
use Rattle.std.specs.List.{AllZip, sum_by}
use Rattle.std.specs.Vec.Iter.{into_iter_items}
use Rattle.rx_store.specs.Tables.{Keeps}
use Rattle.rx_estimate.specs.Estimates.{with_seeks}
use Rattle.rx_merge_plan.specs.Lists.{AreFound, AreCounted, scan_seeks}
use Rattle.rx_merge_plan.proofs.disjoining.count_lists.Given as goal

-- the scans of the disjuncts so far, and those to come
abbrev pub invariant-loop-scans : goal.invariant-loop-scans
invariant-loop-scans g l =
    let table = g.T.Table.means l.initial.table in
    record {
      left : All (AreFound table.schema) (into_iter_items l.scans-iterator);
      are : AllZip (AreCounted l.settings table) l.yielded l.list;
      counts : (g.T.Table.tally l.table).counts ≡ with_seeks (sum_by (scan_seeks l.settings) l.yielded) (g.T.Table.tally l.initial.table).counts;
      keeps : Keeps g.T.Table.means g.T.Table.tally g.T.Table.kept g.T.Table.spent None l.initial.table l.table;
    }
