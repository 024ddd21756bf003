-- A condition with names as a tree of plain data.
use Rattle.std.specs.Prelude.{ℕ, List, [], ◌∷◌}
use Rattle.rx_value.specs.declared.values.Value.{Value}
use Rattle.rx_cond.specs.declared.conds.Tri.{Tri}
use Rattle.rx_cond.specs.declared.conds.Op.{Op}
use Rattle.rx_cond.specs.declared.conds.Op.TheVariants.{Ge, Le}
use Rattle.rx_where.specs.declared.raw.RawOperand.{RawOperand}
use Rattle.rx_where.specs.declared.raw.RawCond.{RawCond}
use Rattle.rx_where.specs.declared.raw.RawCond.TheOpen.{RawCond-F}
use Rattle.rx_where.specs.declared.raw.RawCond.TheOpen.RawCond-F.{Truth, Compare, Member, RowMember, IsNull, Like, Neg, Conj, Disj}
use Rattle.rx_where.specs.declared.raw.RawCond.TheFolds.{fold-RawCond}

mutual
  -- a condition
  pub data RawTree : Type 0 where
    truth : Tri → RawTree
    compare : Op → RawOperand → RawOperand → RawTree
    member : RawOperand → List Value → RawTree
    row_member : List (List ℕ) → List (List Value) → RawTree
    is_null : RawOperand → RawTree
    like : List ℕ → List ℕ → RawTree
    neg : RawTree → RawTree
    conj : RawTrees → RawTree
    disj : RawTrees → RawTree

  -- conditions in order
  pub data RawTrees : Type 0 where
    none : RawTrees
    more : RawTree → RawTrees → RawTrees

-- a list of trees as `RawTrees`
abbrev pub raw_trees : List RawTree → RawTrees
raw_trees [] = none
raw_trees (t ∷ ts) = more t (raw_trees ts)

-- a conjunction has at least two items
abbrev pub conj_of : List RawTree → RawTree
conj_of [] = conj none
conj_of (t ∷ []) = t
conj_of (t ∷ u ∷ ts) = conj (raw_trees (t ∷ u ∷ ts))

-- a disjunction has at least two items
abbrev pub disj_of : List RawTree → RawTree
disj_of [] = disj none
disj_of (t ∷ []) = t
disj_of (t ∷ u ∷ ts) = disj (raw_trees (t ∷ u ∷ ts))

-- at least the one and at most the other
abbrev pub between : RawOperand → RawOperand → RawOperand → RawTree
between left low high = conj (more (compare Ge left low) (more (compare Le left high) none))

-- one layer of a condition, with the tree of each part in its place
abbrev pub raw_step : RawCond-F RawTree → RawTree
raw_step (Truth t) = truth t
raw_step (Compare op left right) = compare op left right
raw_step (Member left list) = member left list
raw_step (RowMember columns list) = row_member columns list
raw_step (IsNull operand) = is_null operand
raw_step (Like column pattern) = like column pattern
raw_step (Neg part) = neg part.value
raw_step (Conj items) = conj (raw_trees items.items)
raw_step (Disj items) = disj (raw_trees items.items)

-- the tree of a condition with names
abbrev pub raw_tree_of : RawCond → RawTree
raw_tree_of = fold-RawCond RawTree raw_step
