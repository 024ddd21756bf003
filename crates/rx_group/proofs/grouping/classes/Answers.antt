use Rattle.std.proofs.Common.{rules, ◌≡◌, length, sym, ◌∙◌}
use Rattle.std.proofs.lemmas.List.{length-map}
use Rattle.rx_group.specs.Classes.{rows_of}
use Rattle.rx_group.proofs.Lists.{stepped}
use Rattle.rx_group.proofs.Rows.{rows_more}
use Rattle.rx_group.proofs.grouping.classes.Goals as goal

pub loop-row-preserved : goal.loop-row-preserved
loop-row-preserved c =
    let many : c.len.result ≡ length c.loop-row.made.items = search rules in
    stepped c.args.columns.now _ _ c.row-item.result.now _ _ c.loop-row.numbers c.number_of.new.numbers c.len.result c.in_ok-place.place
    (rows_more c.args.rows.now c.loop-row.row-index c.row-item.result (search rules) (search rules))
    c.loop-row.invariant.0 c.loop-row.invariant.1
    (many ∙ sym (length-map c.loop-row.made.items rows_of)) (search rules) (search rules)
