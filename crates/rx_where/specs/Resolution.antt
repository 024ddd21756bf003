-- What a condition with names is over the columns of a table.
use Rattle.std.specs.Prelude.{◌≡◌, ℕ, Bool, true, false, List, map, Option, Some, None, unwrap_or, Result, Ok, Err}
use Rattle.rx_value.specs.declared.shapes.Column.{Column as TheColumn}
use Rattle.rx_cond.specs.declared.conds.Cond.{Cond}
use Rattle.rx_cond.specs.declared.conds.Operand.{Operand}
use Rattle.rx_cond.specs.declared.conds.Operand.TheVariants as of
use Rattle.rx_cond.specs.Tree.{Tree, Trees, tree_of}
use Rattle.rx_cond.specs.Tree as over
use Rattle.rx_where.specs.declared.raw.RawOperand.{RawOperand}
use Rattle.rx_where.specs.declared.raw.RawOperand.TheVariants.{Column, Constant}
use Rattle.rx_where.specs.declared.resolving.ResolveFault.{ResolveFault}
use Rattle.rx_where.specs.declared.resolving.ResolveFault.TheVariants.{UnknownName, TypeMismatch, NoMemory}
use Rattle.rx_where.specs.Kinds.{mismatches}
use Rattle.rx_where.specs.Names.{names_of, place_of, first_unknown}
use Rattle.rx_where.specs.Raw.{RawTree, RawTrees, truth, compare, member, row_member, is_null, like, neg, conj, disj, none, more}

-- the number that stands for a name: 0 for a name that is no column
abbrev pub number : List TheColumn → List ℕ → ℕ
number columns name = unwrap_or (place_of columns name) 0

abbrev pub resolved_operand : List TheColumn → RawOperand → Operand
resolved_operand columns (Column name) = of.Column (number columns name)
resolved_operand columns (Constant value) = of.Constant value

abbrev mutual
  -- the condition with the number of its column for each name
  pub resolved : List TheColumn → RawTree → Tree
  resolved columns (truth t) = over.truth t
  resolved columns (compare op left right) =
      over.compare op (resolved_operand columns left) (resolved_operand columns right)
  resolved columns (member left list) = over.member (resolved_operand columns left) list
  resolved columns (row_member names list) = over.row_member (map (number columns) names) list
  resolved columns (is_null operand) = over.is_null (resolved_operand columns operand)
  resolved columns (like name pattern) = over.like (number columns name) pattern
  resolved columns (neg t) = over.neg (resolved columns t)
  resolved columns (conj items) = over.conj (resolved_all columns items)
  resolved columns (disj items) = over.disj (resolved_all columns items)

  -- the same of each of these conditions
  pub resolved_all : List TheColumn → RawTrees → Trees
  resolved_all columns none = over.none
  resolved_all columns (more t ts) = over.more (resolved columns t) (resolved_all columns ts)

-- what there is to say of a condition with names
pub data Resolution : Type 0 where
  unknown : List ℕ → Resolution
  mismatched : Resolution
  condition : Tree → Resolution

-- the condition, unless its tests don't fit
abbrev pub if_matched : Bool → Tree → Resolution
if_matched true t = mismatched
if_matched false t = condition t

-- a name that is no column, before all else
abbrev pub if_known : Option (List ℕ) → Resolution → Resolution
if_known (Some name) r = unknown name
if_known None r = r

-- The first name that is no column, else whether a test has sides of two kinds, else the condition.
abbrev pub resolution : List TheColumn → RawTree → Resolution
resolution columns t = if_known (first_unknown columns (names_of t)) (if_matched (mismatches columns t) (resolved columns t))

-- A result says just that, or that there was no memory.
abbrev pub Says : Resolution → Result Cond ResolveFault → Type 0
Says r (Err NoMemory) = Unit {0}
Says (unknown name) (Err (UnknownName n)) = n ≡ name
Says mismatched (Err TypeMismatch) = Unit {0}
Says (condition t) (Ok c) = tree_of c ≡ t
Says r result = ⊥
