use Rattle.std.proofs.Common.{◌∙◌, ap, get_or}
use Rattle.rx_merges.proofs.Least.{chosen_at}
use Rattle.rx_merges.proofs.unions.take_chosen.Goals as goal

pub returns : goal.returns
returns c =
    chosen_at c.args.list c.choose-place.result c.swap_remove.result c.choose-place.ensures
    (c.swap_remove.ensures.value ∙ ap (λ l. get_or l c.choose-place.result c.swap_remove.result) c.into_vec-items.ensures)
