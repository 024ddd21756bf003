-- The columns that a condition names.
use Rattle.std.specs.Prelude.{ℕ, List, [], ◌∷◌, ◌++◌}
use Rattle.rx_cond.specs.declared.conds.Operand.{Operand}
use Rattle.rx_cond.specs.declared.conds.Operand.TheVariants.{Column, Constant}
use Rattle.rx_cond.specs.Tree.{Tree, Trees, truth, compare, member, row_member, is_null, like, neg, conj, disj, none, more}

-- the column of an operand, where it is one
abbrev pub operand_columns : Operand → List ℕ
operand_columns (Column column) = column ∷ []
operand_columns (Constant value) = []

abbrev mutual
  -- the columns of a condition in the order of its text
  pub columns_of : Tree → List ℕ
  columns_of (truth t) = []
  columns_of (compare op left right) = operand_columns left ++ operand_columns right
  columns_of (member left list) = operand_columns left
  columns_of (row_member columns list) = columns
  columns_of (is_null operand) = operand_columns operand
  columns_of (like column pattern) = column ∷ []
  columns_of (neg t) = columns_of t
  columns_of (conj items) = columns_of_all items
  columns_of (disj items) = columns_of_all items

  -- the columns of conditions in order
  pub columns_of_all : Trees → List ℕ
  columns_of_all none = []
  columns_of_all (more t ts) = columns_of t ++ columns_of_all ts
