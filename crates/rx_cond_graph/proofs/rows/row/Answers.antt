use Rattle.rx_cond.specs.declared.conds.Op.TheVariants.{Eq}
use Rattle.std.proofs.Common.{true}
use Rattle.rx_regions.specs.Cans.{at_spot, compares, spot_of}
use Rattle.rx_cond_graph.specs.Giving.{agree_all}
use Rattle.rx_cond_graph.proofs.RowsSoFar.{agree_step, so_far_next}
use Rattle.rx_cond_graph.proofs.rows.row.Goals as goal

pub values-preserved : goal.values-preserved
values-preserved c =
    let parts = c.args.parts.now in
    let column = c.in-Some.column.now in
    let value = c.in-Some-split_first.value.now in
    so_far_next (agree_all parts c.args.columns.now c.args.key.now) (agree_all parts c.values.columns.now c.values.values.now)
    (λ ps. at_spot (compares true Eq value) (spot_of column parts ps)) (agree_all parts c.in-Some.more.now c.in-Some-split_first.others.now) true
    c.args.arena.now c.values.arena c.compared.new.arena c.combine_all.new.arena c.values.whole c.in-Ok.next c.in_ok-whole-2.whole c.values.invariant
    (agree_step parts column c.in-Some.more.now value c.in-Some-split_first.others.now c.values.columns.now c.values.values.now c.in-Some.ensures.cases.0 c.in-Some-split_first.ensures.cases.0)
    c.in-Ok.ensures.ok c.in_ok-whole-2.ensures.ok c.in_ok-whole-2.ensures.tree
