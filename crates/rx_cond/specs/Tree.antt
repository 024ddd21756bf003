-- A condition as a tree of plain data, and its truth at a row.
use Rattle.std.specs.Prelude.{ℕ, List, [], ◌∷◌}
use Rattle.rx_value.specs.declared.values.Value.{Value}
use Rattle.rx_cond.specs.declared.conds.Tri.{Tri}
use Rattle.rx_cond.specs.declared.conds.Op.{Op}
use Rattle.rx_cond.specs.declared.conds.Operand.{Operand}
use Rattle.rx_cond.specs.declared.conds.Operand.TheVariants.{Column, Constant}
use Rattle.rx_cond.specs.declared.conds.Cond.{Cond}
use Rattle.rx_cond.specs.declared.conds.Cond.TheOpen.{Cond-F}
use Rattle.rx_cond.specs.declared.conds.Cond.TheOpen.Cond-F.{Truth, Compare, Member, RowMember, IsNull, Like, Neg, Conj, Disj}
use Rattle.rx_cond.specs.declared.conds.Cond.TheFolds.{fold-Cond}
use Rattle.rx_cond.specs.Test.{column_value, is_null_value, comparison, membership, row_membership, likeness}
use Rattle.rx_cond.specs.Tri.{tri_of, three_not, all_of, any_of}

mutual
  -- a condition
  pub data Tree : Type 0 where
    truth : Tri → Tree
    compare : Op → Operand → Operand → Tree
    member : Operand → List Value → Tree
    row_member : List ℕ → List (List Value) → Tree
    is_null : Operand → Tree
    like : ℕ → List ℕ → Tree
    neg : Tree → Tree
    conj : Trees → Tree
    disj : Trees → Tree

  -- conditions in order
  pub data Trees : Type 0 where
    none : Trees
    more : Tree → Trees → Trees

-- a list of trees as `Trees`
abbrev pub trees : List Tree → Trees
trees [] = none
trees (t ∷ ts) = more t (trees ts)

-- one layer of a condition, with the tree of each part in its place
abbrev pub tree_step : Cond-F Tree → Tree
tree_step (Truth t) = truth t
tree_step (Compare op left right) = compare op left right
tree_step (Member left list) = member left list
tree_step (RowMember columns list) = row_member columns list
tree_step (IsNull operand) = is_null operand
tree_step (Like column pattern) = like column pattern
tree_step (Neg part) = neg part.value
tree_step (Conj items) = conj (trees items.items)
tree_step (Disj items) = disj (trees items.items)

-- the tree of a condition
abbrev pub tree_of : Cond → Tree
tree_of = fold-Cond Tree tree_step

-- The value of an operand at a row: a column's value, NULL where the row lacks it, or the constant.
abbrev pub operand_value : Operand → List Value → Value
operand_value (Column column) row = column_value column row
operand_value (Constant value) row = value

abbrev mutual
  -- the truth of a condition at a row
  pub truth_at : Tree → List Value → Tri
  truth_at (truth t) row = t
  truth_at (compare op left right) row = comparison op (operand_value left row) (operand_value right row)
  truth_at (member left list) row = membership (operand_value left row) list
  truth_at (row_member columns list) row = row_membership columns list row
  truth_at (is_null operand) row = tri_of (is_null_value (operand_value operand row))
  truth_at (like column pattern) row = likeness pattern (column_value column row)
  truth_at (neg t) row = three_not (truth_at t row)
  truth_at (conj items) row = all_of (truths_at items row)
  truth_at (disj items) row = any_of (truths_at items row)

  -- the truths of conditions at a row, in order
  pub truths_at : Trees → List Value → List Tri
  truths_at none row = []
  truths_at (more t ts) row = truth_at t row ∷ truths_at ts row
