use Rattle.std.proofs.Common.{◌≡◌, drop}
use Rattle.rx_statement.specs.Names.{unknown_in_items}
use Rattle.rx_statement.proofs.names.unknown_in_items.Given as goal

-- each name of the items so far is a column
abbrev pub invariant-loop-item : goal.invariant-loop-item
invariant-loop-item l = unknown_in_items l.columns (drop l.item-index l.items) ≡ unknown_in_items l.columns l.items
