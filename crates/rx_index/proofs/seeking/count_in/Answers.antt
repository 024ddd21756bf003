use Rattle.std.proofs.Common.{◌-◌, sym, ap, ap₂, ◌∙◌}
use Rattle.rx_index.specs.Entries.{parts_at, ids_at}
use Rattle.rx_index.specs.Bounds.{begin_of, end_of}
use Rattle.rx_index.proofs.Holding.{difference}
use Rattle.rx_index.proofs.seeking.count_in.Goals as goal

pub returns : goal.returns
returns c =
    let t = c.args.t.now in
    let n = c.args.index in
    let range = c.args.range.now in
    c.saturating_sub.ensures
    ∙ ap₂ (λ a b. a - b) c.seek.ensures c.seek-before.ensures
    ∙ sym (difference (parts_at t n) t.rows (ids_at t n) range c.begin_of.result.points.now c.end_of.result.points.now c.begin_of.result.rest c.end_of.result.rest
    c.begin_of.ensures.points c.end_of.ensures.points
    (c.begin_of.ensures.rest ∙ ap (λ ps. begin_of ps range) c.parts-parts.ensures)
    (c.end_of.ensures.rest ∙ ap (λ ps. end_of ps range) c.parts-parts.ensures))
