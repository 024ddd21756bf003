-- The columns that a question names.
use Rattle.std.specs.Prelude.{ℕ, Bool, ◌||◌, nat_eq, List, [], ◌∷◌}
use Rattle.std.specs.List.{list_any, flat_map}
use Rattle.rx_cond.specs.Columns.{columns_of}
use Rattle.rx_query.specs.declared.statements.By.{By}
use Rattle.rx_query.specs.declared.statements.By.TheVariants.{Column, Place}
use Rattle.rx_query.specs.declared.statements.Order.{Order}
use Rattle.rx_query.specs.Steps.{Question, columns_listed}

-- the column that a level of ORDER BY names, where it names one
abbrev pub column_ordered_by : By → List ℕ
column_ordered_by (Column n) = n ∷ []
column_ordered_by (Place n) = []

-- the columns that ORDER BY names
abbrev pub columns_ordered : List Order → List ℕ
columns_ordered order = flat_map (λ o. column_ordered_by o.by) order

-- a column is one of these
abbrev pub is_one_of : List ℕ → ℕ → Bool
is_one_of columns column = list_any (nat_eq column) columns

-- a question names a column: in its select list, WHERE, GROUP BY or ORDER BY
abbrev pub names : Question → ℕ → Bool
names q column =
    is_one_of (columns_listed q.items) column || (is_one_of (columns_of q.cond) column || (is_one_of q.group column || is_one_of (columns_ordered q.order) column))
