use Rattle.std.proofs.Common.{◌≡◌, map, take}
use Rattle.rx_group.specs.Classes.{rows_of}
use Rattle.rx_aggregate.specs.Aggregates.{item_over}
use Rattle.rx_rows.proofs.outputs.values_over.Given as goal

abbrev pub invariant-loop-item : goal.invariant-loop-item
invariant-loop-item l = l.values ≡ map (item_over (rows_of l.rows)) (take l.item-index l.items)
