use Rattle.std.proofs.Common.{◌≡◌, ◌<◌, IfSome, min, length, get_or, sym, subst, ap, arith}
use Rattle.std.specs.List.{sum_by}
use Rattle.rx_store.proofs.Chains.{Keeps-chain}
use Rattle.rx_index.specs.Bounds.{index_keys}
use Rattle.rx_estimate.specs.Estimates.{uses_statistics, rows_taken, numbers_at, seeks_for}
use Rattle.rx_estimate.proofs.Steps.{rows-more, rows-all, seeks-more}
use Rattle.rx_estimate.proofs.dives.dive.Goals as goal

pub loop-range-preserved : goal.loop-range-preserved
loop-range-preserved g c =
    let here = c.loop-range.invariant in
    let table = g.T.Table.means c.args.table.now in
    let by = c.uses_statistics-by_statistics.result in
    let l = c.args.ranges.now in
    let i = c.loop-range.range-index in
    let x = c.range-item.result in
    let within : i < length l = omega (arith, c.loop-range-test.true, ap length c.as_slice-range-items.ensures) in
    let is : x ≡ get_or l i x = rw c.as_slice-range-items.ensures at c.range-item.is in
    record {
      rows = rows-more table.count (λ t. rows_taken by table.count (numbers_at table.statistics c.args.index) (index_keys t c.args.index)) l i table.told
          x _ c.loop-range.rows c.in-Ok.taken c.saturating_add.result c.min-rows.result within is (omega (arith, c.rows-most.ensures.value, c.rows-most.type_inv))
          (rw here.keeps.means_stays at c.in-Ok.ensures.told) c.saturating_add.ensures (rw (sym c.rows-most.ensures.value) c.min-rows.ensures) here.rows;
      within = omega (arith, c.min-rows.ensures, c.rows-most.ensures.value);
      counts = seeks-more (seeks_for by) l i x _ _ _ within is c.in-Ok.ensures.counts here.counts;
      keeps = Keeps-chain g.met.T.Table.kept_chained g.met.T.Table.spent_chained _ _ _ _ here.keeps c.in-Ok.ensures.keeps;
    }

pub returns-clause-rows : goal.returns-clause-rows
returns-clause-rows g c =
    let here = c.loop-range.invariant in
    let table = g.T.Table.means c.args.table.now in
    let by = c.uses_statistics-by_statistics.result in
    let l = c.args.ranges.now in
    let numbers = numbers_at table.statistics c.args.index in
    let same : by ≡ uses_statistics c.args.limit l = rw c.as_slice.ensures at c.uses_statistics-by_statistics.ensures in
    subst (λ b. IfSome table.told (λ t. c.loop-range.rows ≡ min table.count (sum_by (rows_taken b table.count numbers (index_keys t c.args.index)) l))) same
    (rows-all table.count (λ t. rows_taken by table.count numbers (index_keys t c.args.index)) l c.loop-range.range-index table.told c.loop-range.rows
    (omega (arith, c.loop-range-test.false, ap length c.as_slice-range-items.ensures)) here.within here.rows)
