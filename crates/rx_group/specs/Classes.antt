-- Classes of equal lists of values.
use Rattle.std.specs.Prelude.{ℕ, Bool, not, List, [], ◌∷◌, Option, Some, None, map, filter}
use denote.Ref.{Bor}
use Rattle.std.specs.declared.cmp.Ordering.{Ordering}
use Rattle.std.specs.Ordering.{is_eq}
use Rattle.std.specs.Cmp.Lexicographic.{slice_cmp}
use Rattle.rx_value.specs.declared.values.Value.{Value}
use Rattle.rx_value.specs.Order.{value_cmp}
use Rattle.rx_cond.specs.Test.{column_value}

-- the values of a row at some columns
abbrev pub values_at : List ℕ → List Value → List Value
values_at columns row = map (λ column. column_value column row) columns

-- the values of a row at the columns that are given, or all of them
abbrev pub values_if : Option (List ℕ) → List Value → List Value
values_if None row = row
values_if (Some columns) row = values_at columns row

-- lists of values compare by the first place at which they differ
abbrev pub values_cmp : List Value → List Value → Ordering
values_cmp = slice_cmp value_cmp

-- lists of values are equal, NULL equal to NULL
abbrev pub same_values : List Value → List Value → Bool
same_values a b = is_eq (values_cmp a b)

-- The first element of each class: those whose key no element before them has.
abbrev pub firsts : {X : Type 0} → (X → List Value) → List X → List X
firsts key [] = []
firsts key (x ∷ xs) = x ∷ filter (λ y. not (same_values (key x) (key y))) (firsts key xs)

-- the elements whose key is that of x, in their order
abbrev pub class_of : {X : Type 0} → (X → List Value) → List X → X → List X
class_of key xs x = filter (λ y. same_values (key x) (key y)) xs

-- The classes of elements with equal keys, in the order of their first elements.
abbrev pub classes : {X : Type 0} → (X → List Value) → List X → List (List X)
classes key xs = map (class_of key xs) (firsts key xs)

-- the rows that are lent
abbrev pub rows_of : List (Bor (List Value)) → List (List Value)
rows_of rows = map (λ row. row.now) rows

-- the same of lists
abbrev pub lists_of : List (List (Bor (List Value))) → List (List (List Value))
lists_of lists = map rows_of lists
