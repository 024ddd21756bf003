-- The names of a SELECT, and the first of them that names nothing.
use Rattle.std.specs.Prelude.{ℕ, suc, Bool, true, false, not, ◌&&◌, List, [], ◌∷◌, length, map, codes, Option, Some, None, find, nat_le, nat_lt, if◌then◌else◌}
use Rattle.std.specs.Option.{option_or}
use Rattle.std.specs.List.{list_any}
use Rattle.rx_value.specs.Names.{same_name}
use Rattle.rx_value.specs.declared.shapes.Column.{Column as TheColumn}
use Rattle.rx_value.specs.declared.shapes.Index.{Index}
use Rattle.rx_value.specs.declared.shapes.Schema.{Schema}
use Rattle.rx_where.specs.Names.{names_of, first_unknown}
use Rattle.rx_script.specs.declared.statements.RawItem.{RawItem}
use Rattle.rx_script.specs.declared.statements.RawItem.TheVariants.{Column, CountRows, CountDistinct, Of}
use Rattle.rx_script.specs.declared.statements.RawItems.{RawItems}
use Rattle.rx_script.specs.declared.statements.RawItems.TheVariants.{Every, Listed}
use Rattle.rx_script.specs.declared.statements.RawHint.{RawHint}
use Rattle.rx_script.specs.declared.statements.RawBy.{RawBy}
use Rattle.rx_script.specs.declared.statements.RawBy.TheVariants as by
use Rattle.rx_script.specs.declared.statements.RawOrder.{RawOrder}
use Rattle.rx_script.specs.Statements.{WrittenSelect}
use Rattle.rx_statement.specs.Outcomes.{first_given}

-- the names of an item in the order of the text
abbrev pub names_of_item : RawItem → List (List ℕ)
names_of_item (Column name) = name ∷ []
names_of_item CountRows = []
names_of_item (CountDistinct names) = names
names_of_item (Of aggregate name) = name ∷ []

-- the items that are named
abbrev pub listed_items : RawItems → List RawItem
listed_items Every = []
listed_items (Listed items) = items

-- the first name of items that is no column
abbrev pub unknown_in_items : List TheColumn → List RawItem → Option (List ℕ)
unknown_in_items columns items = first_given (λ item. first_unknown columns (names_of_item item)) items

-- the name, where it isn't the table's
abbrev pub unknown_table : Schema → List ℕ → Option (List ℕ)
unknown_table schema name = if same_name name schema.table then None else Some name

-- an index has this name, without ASCII case
abbrev pub is_index_named : List ℕ → Index → Bool
is_index_named name index = same_name name index.name

-- no index has this name
abbrev pub is_no_index : List Index → List ℕ → Bool
is_no_index indexes name = not (list_any (is_index_named name) indexes)

-- the first name of hints that is no index
abbrev pub unknown_in_hints : List Index → List RawHint → Option (List ℕ)
unknown_in_hints indexes hints = first_given (λ hint. find (is_no_index indexes) hint.indexes) hints

-- how many items a select list has: `*` stands for all columns
abbrev pub count_of_items : List TheColumn → RawItems → ℕ
count_of_items columns Every = length columns
count_of_items columns (Listed items) = length items

-- a number is a place among so many items, counted from 1
abbrev pub is_place : ℕ → ℕ → Bool
is_place count n = nat_lt 0 n && nat_le n count

-- a name that is no column, or the digits of a place that isn't one of so many items
abbrev pub unknown_by : List TheColumn → ℕ → RawBy → Option (List ℕ)
unknown_by columns count (by.Column name) = first_unknown columns (name ∷ [])
unknown_by columns count (by.Place n digits) = if is_place count n then None else Some digits

-- the first such name or place of ORDER BY
abbrev pub unknown_in_order : List TheColumn → ℕ → List RawOrder → Option (List ℕ)
unknown_in_order columns count order = first_given (λ o. unknown_by columns count o.by) order

-- the first unknown name before the condition
abbrev pub unknown_before : Schema → RawItems → List ℕ → List RawHint → Option (List ℕ)
unknown_before schema items table hints =
    option_or (unknown_in_items schema.columns (listed_items items))
    (option_or (unknown_table schema table) (unknown_in_hints schema.indexes hints))

-- the first unknown name behind it
abbrev pub unknown_behind : Schema → RawItems → List (List ℕ) → List RawOrder → Option (List ℕ)
unknown_behind schema items group order =
    option_or (first_unknown schema.columns group)
    (unknown_in_order schema.columns (count_of_items schema.columns items) order)

-- The first name of a SELECT, in the order of the text, that names nothing.
unfoldable pub unknown_name : Schema → WrittenSelect → Option (List ℕ)
unknown_name schema w =
    option_or (unknown_before schema w.items w.table w.hints)
    (option_or (first_unknown schema.columns (names_of w.cond)) (unknown_behind schema w.items w.group w.order))
