-- What the statements of a script ask for, as plain data.
use Rattle.std.specs.Prelude.{ℕ, ◌<◌, Bool, true, false, ◌&&◌, not, List, [], ◌∷◌, All, flat_map, length, ◌==◌}
use Rattle.std.specs.List.{list_all}
use Rattle.rx_cond.specs.Tree.{Tree, tree_of}
use Rattle.rx_query.specs.declared.statements.Item.{Item}
use Rattle.rx_query.specs.declared.statements.Item.TheVariants.{Column, CountRows, Count, CountDistinct, Sum, Min, Max}
use Rattle.rx_query.specs.declared.statements.Order.{Order}
use Rattle.rx_query.specs.declared.statements.Select.{Select}
use Rattle.rx_query.specs.declared.statements.Setting.{Setting}
use Rattle.rx_query.specs.declared.statements.Statement.{Statement}
use Rattle.rx_query.specs.declared.statements.Statement.TheVariants.{Query, Change}
use Rattle.rx_query.specs.declared.statements.Numbered.{Numbered}

-- what a SELECT asks
pub record Question : Type 0 where
  pub distinct : Bool
  pub items : List Item
  pub cond : Tree
  pub group : List ℕ
  pub order : List Order
  pub usable : List Bool

-- a SELECT, or the change of settings
pub data Request : Type 0 where
  select : Question → Request
  change : List Setting → Request

-- a request and the number of its segment between semicolons, from 1
pub record Step : Type 0 where
  pub number : ℕ
  pub request : Request

-- the question of a query
abbrev pub question_of : Select → Question
question_of q = record { distinct = q.distinct; items = q.items; cond = tree_of q.cond; group = q.group; order = q.order; usable = q.usable }

-- the request of a statement
abbrev pub request_of : Statement → Request
request_of (Query q) = select (question_of q)
request_of (Change listed) = change listed

-- a statement as a step
abbrev pub step_of : Numbered → Step
step_of numbered = record { number = numbered.number; request = request_of numbered.statement }

-- the columns that an item is made of
abbrev pub columns_of_item : Item → List ℕ
columns_of_item (Column column) = column ∷ []
columns_of_item CountRows = []
columns_of_item (Count column) = column ∷ []
columns_of_item (CountDistinct columns) = columns
columns_of_item (Sum column) = column ∷ []
columns_of_item (Min column) = column ∷ []
columns_of_item (Max column) = column ∷ []

-- the columns that a select list is made of
abbrev pub columns_listed : List Item → List ℕ
columns_listed items = flat_map columns_of_item items

-- an item is the value of a column
abbrev pub is_column : Item → Bool
is_column (Column column) = true
is_column _ = false

-- a question needs no grouping and no order: its rows are printed as they are found
abbrev pub is_plain : Question → Bool
is_plain q = not q.distinct && list_all is_column q.items && length q.group == 0 && length q.order == 0

-- the columns that a statement prints are below a number
abbrev pub StatementWithin : ℕ → Statement → Type 0
StatementWithin count (Query q) = All (λ n. n < count) (columns_listed q.items)
StatementWithin count (Change listed) = Unit {0}

-- the same of a numbered statement
abbrev pub SelectsWithin : ℕ → Numbered → Type 0
SelectsWithin count numbered = StatementWithin count numbered.statement
