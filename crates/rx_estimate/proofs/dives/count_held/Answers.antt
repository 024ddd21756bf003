use Rattle.std.proofs.Common.{ap, ◌∙◌}
use Rattle.rx_index.specs.Bounds.{begin_of, end_of}
use Rattle.rx_estimate.proofs.Steps.{held_by_seeks}
use Rattle.rx_estimate.proofs.dives.count_held.Goals as goal

pub returns-in-Ok-seek-clause-told : goal.returns-in-Ok-seek-clause-told
returns-in-Ok-seek-clause-told g c =
    let range = c.args.range.now in
    rw c.saturating_sub.ensures (held_by_seeks c.args.index range _ _ _ _ _ _ (g.T.Table.means c.args.table.now) c.parts_in-parts.ensures.sound
    c.begin_of-begin.ensures.points (c.begin_of-begin.ensures.rest ∙ ap (λ ps. begin_of ps range) c.parts_in-parts.ensures.value)
    c.end_of-end.ensures.points (c.end_of-end.ensures.rest ∙ ap (λ ps. end_of ps range) c.parts_in-parts.ensures.value)
    c.in-Ok.ensures.told (rw c.in-Ok.ensures.keeps.means_stays at c.in-Ok-seek.ensures.told))
