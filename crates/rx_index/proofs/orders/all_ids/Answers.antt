use Rattle.std.proofs.Common.{◌∷◌, [], ◌++◌, ap, sym, ◌∙◌}
use Rattle.rx_index.proofs.Sorting.{range_more}
use Rattle.rx_index.proofs.orders.all_ids.Goals as goal

pub loop-id-preserved : goal.loop-id-preserved
loop-id-preserved c = c.in_ok-push.ensures.ok ∙ ap (λ l. l ++ c.loop-id.id ∷ []) c.loop-id.invariant ∙ sym (range_more c.loop-id.id)
