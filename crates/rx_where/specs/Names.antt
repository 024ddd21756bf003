-- The names of a condition, and the columns that they name.
use Rattle.std.specs.Prelude.{ℕ, Bool, List, [], ◌∷◌, ◌++◌, Option, is_none, position}
use Rattle.std.specs.List.{find}
use Rattle.rx_value.specs.declared.shapes.Column.{Column as TheColumn}
use Rattle.rx_value.specs.Names.{same_name}
use Rattle.rx_where.specs.declared.raw.RawOperand.{RawOperand}
use Rattle.rx_where.specs.declared.raw.RawOperand.TheVariants.{Column, Constant}
use Rattle.rx_where.specs.Raw.{RawTree, RawTrees, truth, compare, member, row_member, is_null, like, neg, conj, disj, none, more}

-- the name of an operand, where it is one
abbrev pub operand_names : RawOperand → List (List ℕ)
operand_names (Column name) = name ∷ []
operand_names (Constant value) = []

abbrev mutual
  -- the names of a condition in the order of its text
  pub names_of : RawTree → List (List ℕ)
  names_of (truth t) = []
  names_of (compare op left right) = operand_names left ++ operand_names right
  names_of (member left list) = operand_names left
  names_of (row_member columns list) = columns
  names_of (is_null operand) = operand_names operand
  names_of (like column pattern) = column ∷ []
  names_of (neg t) = names_of t
  names_of (conj items) = names_of_all items
  names_of (disj items) = names_of_all items

  -- the names of conditions in order
  pub names_of_all : RawTrees → List (List ℕ)
  names_of_all none = []
  names_of_all (more t ts) = names_of t ++ names_of_all ts

-- a column has this name, without ASCII case
abbrev pub is_named : List ℕ → TheColumn → Bool
is_named name column = same_name name column.name

-- where the first column of a name stands, counted from 0
abbrev pub place_of : List TheColumn → List ℕ → Option ℕ
place_of columns name = position (is_named name) columns

-- no column has this name
abbrev pub is_unknown : List TheColumn → List ℕ → Bool
is_unknown columns name = is_none (place_of columns name)

-- the first of these names that is no column
abbrev pub first_unknown : List TheColumn → List (List ℕ) → Option (List ℕ)
first_unknown columns names = find (is_unknown columns) names
