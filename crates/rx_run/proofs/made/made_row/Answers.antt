use Rattle.std.proofs.Common.{◌∷◌, [], ◌++◌, map, ap, ap₂, sym, ◌∙◌}
use Rattle.std.specs.List.{range_with_len}
use Rattle.std.proofs.lemmas.List.{map-append}
use Rattle.rx_index.proofs.Sorting.{range_more}
use Rattle.rx_run.specs.Made.{made_value}
use Rattle.rx_run.proofs.made.made_row.Goals as goal

pub loop-column-preserved : goal.loop-column-preserved
loop-column-preserved c =
    let f = made_value c.args.schema.now c.args.scans.now in
    let n = c.loop-column.column in
    c.in_ok-push.ensures.ok
    ∙ ap₂ (λ l v. l ++ v ∷ []) c.loop-column.invariant c.in_ok-made_value.ensures
    ∙ sym (map-append f (range_with_len 0 n) (n ∷ []))
    ∙ ap (map f) (sym (range_more n))
