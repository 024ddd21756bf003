use Rattle.std.proofs.Common.{rules, ◌+◌, false, drop}
use Rattle.rx_cond_graph.specs.Giving.{agree_all, agree_any}
use Rattle.rx_cond_graph.proofs.Nexts.{next_at}
use Rattle.rx_cond_graph.proofs.RowsSoFar.{any_step, so_far_next}
use Rattle.rx_cond_graph.proofs.rows.rows.Goals as goal

pub keys-preserved : goal.keys-preserved
keys-preserved c =
    let parts = c.args.parts.now in
    let columns = c.args.columns.now in
    let list = c.args.list.now in
    let key = c.as_slice.result.now in
    so_far_next (agree_any parts columns list) (agree_any parts columns (drop c.keys.key-index list)) (agree_all parts columns key) (agree_any parts columns (drop (c.keys.key-index + 1) list)) false
    c.args.arena.now c.keys.arena c.row.new.arena c.combine_all.new.arena c.keys.whole c.in-Ok.next c.in_ok-whole-2.whole c.keys.invariant
    (any_step parts columns key (drop (c.keys.key-index + 1) list) (drop c.keys.key-index list) (next_at list c.keys.key-index key (search rules) (search rules)))
    c.in-Ok.ensures.ok c.in_ok-whole-2.ensures.ok c.in_ok-whole-2.ensures.tree
