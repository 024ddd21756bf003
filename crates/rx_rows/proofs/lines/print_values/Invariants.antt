use Rattle.std.proofs.Common.{◌≡◌, ◌++◌, take}
use Rattle.rx_rows.proofs.Items.{later_items}
use Rattle.rx_rows.proofs.lines.print_values.Given as goal

abbrev pub invariant-loop-item : goal.invariant-loop-item
invariant-loop-item l = l.into ≡ l.initial.into ++ later_items l.row (take l.item-index l.rest)
