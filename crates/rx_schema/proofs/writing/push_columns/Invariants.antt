use Rattle.std.proofs.Common.{◌≡◌, ◌++◌, drop, map}
use Rattle.rx_ddl.specs.declared.statements.CreateDefinition.TheVariants as of
use Rattle.rx_schema.specs.Writing.{column_definition}
use Rattle.rx_schema.proofs.writing.push_columns.Given as goal

-- the columns so far and those that are left are all
abbrev pub invariant-loop-column : goal.invariant-loop-column
invariant-loop-column l = l.list ++ map (λ c. of.Column (column_definition c)) (drop l.column-index l.columns) ≡ l.initial.list ++ map (λ c. of.Column (column_definition c)) l.columns
