use Rattle.std.proofs.Common.{rules, ◌≡◌, cond, [], ◌∷◌, ◌++◌}
use Rattle.rx_aggregate.proofs.More.{whole_more}
use Rattle.rx_aggregate.proofs.counts.whole_rows.Goals as goal
use Rattle.rx_aggregate.proofs.counts.whole_rows.Goals.{then-not-has_null+in_ok-push, else-not-has_null}

pub loop-row-preserved : goal.loop-row-preserved
loop-row-preserved c =
    let put : c.if-not-has_null.whole.items ≡ cond c.has_null.result c.loop-row.whole.items (c.loop-row.whole.items ++ c.row-item.result ∷ []) =
    elim c.if-not-has_null.branch [ then-not-has_null+in_ok-push w ↦ search rules | else-not-has_null w ↦ search rules ] in
    whole_more c.args.columns.now c.args.rows.now c.loop-row.row-index c.row-item.result c.loop-row.whole.items _ c.has_null.result (search rules) (search rules) c.loop-row.invariant (search rules) put
