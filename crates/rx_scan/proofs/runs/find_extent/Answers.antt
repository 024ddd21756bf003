use Rattle.std.proofs.Common.{ap, ◌∙◌}
use Rattle.rx_index.specs.Bounds.{begin_of, end_of}
use Rattle.rx_scan.proofs.Seeks.{places_by_seeks, places_below}
use Rattle.rx_scan.proofs.runs.find_extent.Goals as goal

pub returns-in-Ok-seek-clause-told : goal.returns-in-Ok-seek-clause-told
returns-in-Ok-seek-clause-told g c =
    let range = c.args.range.now in
    let same = c.in-Ok.ensures.keeps.means_stays in
    places_by_seeks (g.T.Table.means c.args.table.now) c.args.index range _ _ _ _ _ _
    c.begin_of-from.ensures.points c.end_of-to.ensures.points
    (c.begin_of-from.ensures.rest ∙ ap (λ ps. begin_of ps range) c.parts_in-parts.ensures.value)
    (c.end_of-to.ensures.rest ∙ ap (λ ps. end_of ps range) c.parts_in-parts.ensures.value)
    c.requires (rw same at c.in-Ok-seek.ensures.within)
    c.parts_in-parts.ensures.sound
    c.in-Ok.ensures.told (rw same at c.in-Ok-seek.ensures.told)

pub returns-in-Ok-seek-clause-within : goal.returns-in-Ok-seek-clause-within
returns-in-Ok-seek-clause-within g c =
    places_below c.in-Ok.place c.in-Ok-seek.end (g.T.Table.means c.args.table.now).count (rw c.in-Ok.ensures.keeps.means_stays at c.in-Ok-seek.ensures.within)
