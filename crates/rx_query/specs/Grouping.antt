-- When a column of a question stands for many rows at once.
use Rattle.std.specs.Prelude.{ℕ, Bool, true, false, not, ◌&&◌, ◌||◌, List, length, nat_eq, nat_lt}
use Rattle.std.specs.List.{list_any, list_all}
use Rattle.rx_query.specs.declared.statements.Item.{Item}
use Rattle.rx_query.specs.declared.statements.Item.TheVariants.{Column}
use Rattle.rx_query.specs.declared.statements.By.{By}
use Rattle.rx_query.specs.declared.statements.By.TheVariants as by
use Rattle.rx_query.specs.declared.statements.Order.{Order}
use Rattle.rx_query.specs.Steps.{Question, is_column}

-- a number is one of these
abbrev pub is_among : List ℕ → ℕ → Bool
is_among numbers n = list_any (λ m. nat_eq m n) numbers

-- an item is this column
abbrev pub is_item : ℕ → Item → Bool
is_item n (Column m) = nat_eq m n
is_item n _ = false

-- a column is one of GROUP BY
abbrev pub is_grouped_item : List ℕ → Item → Bool
is_grouped_item group (Column n) = is_among group n
is_grouped_item group _ = true

-- the same of a part of ORDER BY
abbrev pub is_grouped_by : List ℕ → By → Bool
is_grouped_by group (by.Column n) = is_among group n
is_grouped_by group (by.Place n) = true

-- a part of ORDER BY is a place or a column of the select list
abbrev pub is_selected_by : List Item → By → Bool
is_selected_by items (by.Column n) = list_any (is_item n) items
is_selected_by items (by.Place n) = true

-- there is GROUP BY or an aggregate
abbrev pub makes_groups : List Item → List ℕ → Bool
makes_groups items group = nat_lt 0 (length group) || not (list_all is_column items)

-- each column of the select list and of ORDER BY is one of GROUP BY
abbrev pub is_by_group : List Item → List ℕ → List Order → Bool
is_by_group items group order = list_all (is_grouped_item group) items && list_all (λ o. is_grouped_by group o.by) order

-- Where there are groups each column outside an aggregate is one of GROUP BY; and where equal rows are printed once
-- each column of ORDER BY is one of the select list.
abbrev pub is_grouped : Bool → List Item → List ℕ → List Order → Bool
is_grouped distinct items group order =
    (not (makes_groups items group) || is_by_group items group order)
    && (not distinct || list_all (λ o. is_selected_by items o.by) order)

-- no column of a question stands for many rows at once
abbrev pub grouped : Question → Bool
grouped q = is_grouped q.distinct q.items q.group q.order
