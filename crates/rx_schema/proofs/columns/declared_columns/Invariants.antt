use Rattle.std.proofs.Common.{◌≡◌, ◌++◌, drop, map}
use Rattle.rx_schema.specs.Given.{columns_in}
use Rattle.rx_schema.specs.Columns.{declared_column, declared_columns}
use Rattle.rx_schema.proofs.columns.declared_columns.Given as goal

-- the columns so far and those of what is left are all
abbrev pub invariant-loop-item : goal.invariant-loop-item
invariant-loop-item l = l.columns ++ map (declared_column l.items) (columns_in (drop l.item-index l.items)) ≡ declared_columns l.items
