-- DISTINCT and ORDER BY of output rows, each beside the row that its columns are looked up in.
use Rattle.std.specs.Prelude.{Bool, true, false, List, [], ◌∷◌, if◌then◌else◌}
use Rattle.std.specs.declared.cmp.Ordering.{Ordering}
use Rattle.std.specs.declared.cmp.Ordering.TheVariants.{Equal}
use Rattle.std.specs.Ordering.{ordering_then, is_lt}
use Rattle.rx_value.specs.declared.values.Value.{Value}
use Rattle.rx_value.specs.Order.{value_cmp}
use Rattle.rx_cond.specs.Test.{column_value}
use Rattle.rx_query.specs.declared.statements.By.{By}
use Rattle.rx_query.specs.declared.statements.By.TheVariants.{Column, Place}
use Rattle.rx_query.specs.declared.statements.Order.{Order}
use Rattle.rx_group.specs.Classes.{firsts}
use Rattle.rx_order.specs.Stable.{ordered}

-- an output row, and the row that it was made of
abbrev pub Output : Type 0
Output = List Value × List Value

-- what an output row is ordered by: a column of the row that it was made of, or the value at its place
abbrev pub value_by : By → Output → Value
value_by (Column column) o = column_value column o.1
value_by (Place place) o = column_value place o.0

-- output rows by one part of ORDER BY: NULL first, and where the order falls the other way round
abbrev pub outputs_cmp_by : Order → Output → Output → Ordering
outputs_cmp_by part a b =
    if part.falling then value_cmp (value_by part.by b) (value_by part.by a)
    else value_cmp (value_by part.by a) (value_by part.by b)

-- output rows by the parts of ORDER BY in turn
abbrev pub outputs_cmp : List Order → Output → Output → Ordering
outputs_cmp [] a b = Equal
outputs_cmp (part ∷ order) a b = ordering_then (outputs_cmp_by part a b) (outputs_cmp order a b)

-- an output row stands before another
abbrev pub is_before : List Order → Output → Output → Bool
is_before order a b = is_lt (outputs_cmp order a b)

-- ORDER BY
abbrev pub in_order : List Order → List Output → List Output
in_order order outputs = ordered (is_before order) outputs

-- DISTINCT keeps the first of equal output rows.
abbrev pub distinct : List Output → List Output
distinct outputs = firsts (λ o. o.0) outputs

-- the same where it is asked for
abbrev pub distinct_if : Bool → List Output → List Output
distinct_if true outputs = distinct outputs
distinct_if false outputs = outputs

-- the elements with a flag that is set
abbrev pub chosen : {X : Type 0} → List X → List Bool → List X
chosen [] flags = []
chosen (x ∷ xs) [] = []
chosen (x ∷ xs) (flag ∷ flags) = if flag then x ∷ chosen xs flags else chosen xs flags
