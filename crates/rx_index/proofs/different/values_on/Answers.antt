use Rattle.std.proofs.Common.{◌∷◌, [], map, get_or, ap, ◌∙◌}
use Rattle.std.proofs.lemmas.List.{map-append}
use Rattle.rx_value.specs.Parts.{borrowed}
use Rattle.rx_value.specs.Keys.{part_value}
use Rattle.rx_index.proofs.Marking.{row_there, values_more}
use Rattle.rx_index.proofs.different.values_on.Goals as goal

pub loop-id-preserved : goal.loop-id-preserved
loop-id-preserved c =
    let part = c.args.part.now in
    let rows = c.args.rows.now in
    let ids = c.args.ids.now in
    let n = c.loop-id.id-index in
    let row = c.index-rows-id.is ∙ row_there rows (get_or ids n 0) c.index-rows-id.result (c.requires n 0 c.loop-id-test.true) in
    values_more part rows ids n (borrowed c.value.result) (map borrowed c.loop-id.values.items) (map borrowed c.push.new.self.items) c.loop-id-test.true
    (c.value.ensures ∙ ap (part_value part) row) c.loop-id.invariant
    (ap (map borrowed) c.in_ok-push.ensures.items ∙ map-append borrowed c.loop-id.values.items (c.value.result ∷ []))
