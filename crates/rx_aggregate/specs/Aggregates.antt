-- What an item of a select list is over a group of rows.
use Rattle.std.specs.Prelude.{ℕ, ℤ, pos, ◌+ℤ◌, ◌^◌, ◌-◌, ◌≤◌, ◌≤ℤ◌, neg_ℤ, Bool, true, false, not, All, List, [], ◌∷◌, Option, Some, None, map, filter, filter_map, length, unwrap_or, if◌then◌else◌}
use Rattle.std.specs.List.{reduce, list_any}
use Rattle.std.specs.Ordering.{is_lt}
use Rattle.rx_value.specs.declared.values.Value.{Value}
use Rattle.rx_value.specs.declared.values.Value.TheVariants.{Null, Int, Text}
use Rattle.rx_value.specs.Order.{value_cmp}
use Rattle.rx_cond.specs.Test.{column_value, is_null_value}
use Rattle.rx_query.specs.declared.statements.Item.{Item}
use Rattle.rx_query.specs.declared.statements.Item.TheVariants.{Column, CountRows, Count, CountDistinct, Sum, Min, Max}
use Rattle.rx_group.specs.Classes.{values_at, firsts}

-- a number of rows or values as a value
abbrev pub count_value : ℕ → Value
count_value n = Int (pos n)

-- the values of a column that aren't NULL
abbrev pub present : ℕ → List (List Value) → List Value
present column rows = filter (λ v. not (is_null_value v)) (map (column_value column) rows)

-- no column of a row is NULL
abbrev pub is_whole_at : List ℕ → List Value → Bool
is_whole_at columns row = not (list_any (λ column. is_null_value (column_value column row)) columns)

-- how many different rows these columns have, of those without a NULL there
abbrev pub distinct_count : List ℕ → List (List Value) → ℕ
distinct_count columns rows = length (firsts (values_at columns) (filter (is_whole_at columns) rows))

-- the integer that a value is
abbrev pub integer_of : Value → Option ℤ
integer_of Null = None
integer_of (Int n) = Some n
integer_of (Text text) = None

-- the integers of a column
abbrev pub integers : ℕ → List (List Value) → List ℤ
integers column rows = filter_map integer_of (map (column_value column) rows)

-- a step of a reduction
abbrev pub first_or : {X : Type 0} → (X → X → X) → Option X → X → X
first_or f None x = x
first_or f (Some sofar) x = f sofar x

-- the sum so far, where there is one, and an integer, where there is one
abbrev pub summed : Option ℤ → Option ℤ → Option ℤ
summed total None = total
summed total (Some n) = Some (first_or (λ a b. a +ℤ b) total n)

-- an integer that there may be as a value
abbrev pub integer_value : Option ℤ → Value
integer_value None = Null
integer_value (Some n) = Int n

-- the sum of integers, NULL where there are none
abbrev pub sum_value : List ℤ → Value
sum_value ns = integer_value (reduce (λ a b. a +ℤ b) ns)

-- the lesser of two values, or the greater; the first where they are equal
abbrev pub pick : Bool → Value → Value → Value
pick false v w = if is_lt (value_cmp w v) then w else v
pick true v w = if is_lt (value_cmp v w) then w else v

-- the best so far, where there is one, and a value that counts unless it is NULL
abbrev pub picked : Bool → Option Value → Value → Option Value
picked is_greatest best v = if is_null_value v then best else Some (first_or (pick is_greatest) best v)

-- the least of values, NULL where there are none
abbrev pub least : List Value → Value
least vs = unwrap_or (reduce (pick false) vs) Null

-- the greatest of values, NULL where there are none
abbrev pub greatest : List Value → Value
greatest vs = unwrap_or (reduce (pick true) vs) Null

-- the first row of a group; a row without columns where it has none
abbrev pub first_row : List (List Value) → List Value
first_row [] = []
first_row (row ∷ rows) = row

-- An item over a group: the value of a column is that of the first row, and what counts, adds and compares values passes NULL over.
abbrev pub item_over : List (List Value) → Item → Value
item_over rows (Column column) = column_value column (first_row rows)
item_over rows CountRows = count_value (length rows)
item_over rows (Count column) = count_value (length (present column rows))
item_over rows (CountDistinct columns) = count_value (distinct_count columns rows)
item_over rows (Sum column) = sum_value (integers column rows)
item_over rows (Min column) = least (present column rows)
item_over rows (Max column) = greatest (present column rows)

-- an integer is one of a column's: from -2^63 to 2^64 - 1
abbrev pub IsSmall : Value → Type 0
IsSmall Null = Unit {0}
IsSmall (Int n) = (neg_ℤ (pos (2 ^ 63)) ≤ℤ n) × (n ≤ℤ pos (2 ^ 64 - 1))
IsSmall (Text text) = Unit {0}

-- there are at most 1,000,000 rows, whose integers are those of columns
pub record AreSmall (rows : List (List Value)) : Type 0 where
  pub few : length rows ≤ 1000000
  pub small : All (λ row. All IsSmall row) rows
