use Rattle.std.proofs.Common.{rules}
use Rattle.rx_schema.proofs.ByName.{turn, turn_past}
use Rattle.rx_schema.proofs.lookup.texts_by_name.Goals.{in-Column+in_ok-note_first-in-Column, in-Key}
use Rattle.rx_schema.proofs.lookup.texts_by_name.Goals as goal

pub loop-item-preserved : goal.loop-item-preserved
loop-item-preserved c = elim c.match-item.branch [
  | in-Column+in_ok-note_first-in-Column w ↦ turn c.loop-item.texts c.match-item.texts c.args.items.now c.loop-item.item-index c.item-item.result w.in-Column.column (search rules) (search rules) (search rules) (search rules) (search rules)
  | in-Key w ↦ turn_past c.match-item.texts c.args.items.now c.loop-item.item-index c.item-item.result w.in-Key.field-0 (search rules) (search rules) (search rules) (search rules)
]
