use Rattle.std.proofs.Common.{◌≡◌, take, map}
use Rattle.rx_statement.specs.Asking.{item_of}
use Rattle.rx_statement.proofs.numbering.named_items.Given as goal

abbrev pub invariant-loop-item : goal.invariant-loop-item
invariant-loop-item l = l.list ≡ map (item_of l.columns) (take l.item-index l.items)
