use Rattle.std.proofs.Common.{◌++◌, ◌∷◌, [], sym, ap₂, ◌∙◌, arith}
use Rattle.std.proofs.lemmas.List.FromFn.{map-range_with_len_more}
use Rattle.rx_scan.specs.Handed.{entry_value}
use Rattle.rx_scan.proofs.ways.entry_row.Goals as goal

pub loop-column-preserved : goal.loop-column-preserved
loop-column-preserved c =
    let f = entry_value c.args.parts.now c.args.key.now in
    let n = c.loop-column.column in
    c.in_ok-push.ensures.ok ∙ ap₂ (λ xs x. xs ++ x ∷ []) c.loop-column.invariant (rw c.as_slice.ensures at c.in_ok-value_in.ensures) ∙ sym (map-range_with_len_more f 0 n n (omega arith))
