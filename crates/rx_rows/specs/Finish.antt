-- What a question answers over the rows that it selects: groups, DISTINCT, ORDER BY.
use Rattle.std.specs.Prelude.{ℕ, Bool, true, false, List, [], ◌∷◌, map}
use Rattle.rx_value.specs.declared.values.Value.{Value}
use Rattle.rx_query.specs.declared.statements.Item.{Item}
use Rattle.rx_query.specs.Steps.{Question}
use Rattle.rx_query.specs.Grouping.{makes_groups}
use Rattle.rx_group.specs.Classes.{values_at, classes}
use Rattle.rx_aggregate.specs.Aggregates.{item_over, first_row}
use Rattle.rx_order.specs.Order.{Output, distinct_if, in_order}
use Rattle.rx_rows.specs.Answer.{selected}

-- The groups of an aggregate query: all rows without GROUP BY, also where there are none; with it the classes of rows
-- with equal values, NULL equal to NULL, in the order of their first rows.
abbrev pub groups_by : List ℕ → List (List Value) → List (List (List Value))
groups_by [] rows = rows ∷ []
groups_by (column ∷ columns) rows = classes (values_at (column ∷ columns)) rows

-- The groups of a question: without GROUP BY and aggregates each row is one.
abbrev pub groups_if : Bool → List ℕ → List (List Value) → List (List (List Value))
groups_if true group rows = groups_by group rows
groups_if false group rows = map (λ row. row ∷ []) rows

-- the groups of a question
abbrev pub groups_of : Question → List (List Value) → List (List (List Value))
groups_of q rows = groups_if (makes_groups q.items q.group) q.group rows

-- the output row of a group, beside its first row
abbrev pub output_of : List Item → List (List Value) → Output
output_of items rows = (map (item_over rows) items, first_row rows)

-- the output rows of a question before ORDER BY
abbrev pub outputs_of : Question → List (List Value) → List Output
outputs_of q rows = distinct_if q.distinct (map (output_of q.items) (groups_of q rows))

-- What a question answers over rows that it selects: an output row for each group, of equal ones the first where DISTINCT
-- is asked for, in the order of ORDER BY.
abbrev pub finish : Question → List (List Value) → List (List Value)
finish q rows = map (λ o. o.0) (in_order q.order (outputs_of q rows))

-- What a question answers over rows.
abbrev pub answered : Question → List (List Value) → List (List Value)
answered q rows = finish q (selected q.cond rows)
