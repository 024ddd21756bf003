use Rattle.std.proofs.Common.{◌≡◌, ◌++◌, drop}
use Rattle.rx_schema.specs.Names.{column_names}
use Rattle.rx_schema.proofs.names.column_names.Given as goal

-- the names so far and those of what is left are all
abbrev pub invariant-loop-item : goal.invariant-loop-item
invariant-loop-item l = l.names ++ column_names (drop l.item-index l.items) ≡ column_names l.items
