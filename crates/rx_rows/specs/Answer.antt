-- What a question answers.
use Rattle.std.specs.Prelude.{List, map, filter}
use Rattle.rx_value.specs.declared.values.Value.{Value}
use Rattle.rx_value.specs.declared.values.Value.TheVariants.{Null}
use Rattle.rx_cond.specs.Test.{column_value}
use Rattle.rx_cond.specs.Tri.{is_true}
use Rattle.rx_cond.specs.Tree.{Tree, truth_at}
use Rattle.rx_query.specs.declared.statements.Item.{Item}
use Rattle.rx_query.specs.declared.statements.Item.TheVariants.{Column}
use Rattle.rx_query.specs.Steps.{Question}

-- the rows at which a condition is true, in their order
abbrev pub selected : Tree → List (List Value) → List (List Value)
selected cond rows = filter (λ row. is_true (truth_at cond row)) rows

-- what an item is at one row: the value of its column, NULL where the row has none, or where the item is no column
abbrev pub item_value : List Value → Item → Value
item_value row (Column column) = column_value column row
item_value row _ = Null

-- the select list at one row
abbrev pub projected : List Item → List Value → List Value
projected items row = map (item_value row) items

-- what a plain question answers: its select list at each of the rows that it selects, in their order
abbrev pub answer : Question → List (List Value) → List (List Value)
answer q rows = map (projected q.items) (selected q.cond rows)
