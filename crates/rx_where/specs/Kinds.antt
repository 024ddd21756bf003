-- Kinds of the sides of tests.
use Rattle.std.specs.Prelude.{ℕ, Bool, true, false, ◌||◌, List, Option, Some, None}
use Rattle.std.specs.Option.{option_map}
use Rattle.std.specs.List.{find, list_any, zip}
use Rattle.rx_value.specs.declared.values.Value.{Value}
use Rattle.rx_value.specs.declared.values.Value.TheVariants.{Null, Int, Text as TextValue}
use Rattle.rx_value.specs.declared.shapes.ColType.{ColType}
use Rattle.rx_value.specs.declared.shapes.ColType.TheVariants.{Whole as WholeType, VarChar}
use Rattle.rx_value.specs.declared.shapes.Column.{Column as TheColumn}
use Rattle.rx_where.specs.declared.kinds.Kind.{Kind}
use Rattle.rx_where.specs.declared.kinds.Kind.TheVariants.{Whole, Text}
use Rattle.rx_where.specs.declared.raw.RawOperand.{RawOperand}
use Rattle.rx_where.specs.declared.raw.RawOperand.TheVariants.{Column, Constant}
use Rattle.rx_where.specs.Names.{is_named}
use Rattle.rx_where.specs.Raw.{RawTree, RawTrees, truth, compare, member, row_member, is_null, like, neg, conj, disj, none, more}

-- the kind of a column's values
abbrev pub type_kind : ColType → Kind
type_kind (WholeType bits signed) = Whole
type_kind (VarChar count) = Text

-- NULL is of no kind
abbrev pub value_kind : Value → Option Kind
value_kind Null = None
value_kind (Int n) = Some Whole
value_kind (TextValue text) = Some Text

-- the kind of the first column of a name
abbrev pub column_kind : List TheColumn → List ℕ → Option Kind
column_kind columns name = option_map (λ c. type_kind c.kind) (find (is_named name) columns)

abbrev pub operand_kind : List TheColumn → RawOperand → Option Kind
operand_kind columns (Column name) = column_kind columns name
operand_kind columns (Constant value) = value_kind value

-- two kinds that are there and not the same
abbrev pub differ : Option Kind → Option Kind → Bool
differ (Some Whole) (Some Text) = true
differ (Some Text) (Some Whole) = true
differ _ _ = false

-- a value of a list is of another kind
abbrev pub list_differs : Option Kind → List Value → Bool
list_differs kind list = list_any (λ v. differ kind (value_kind v)) list

-- a value of a row is of another kind than the column at its place
abbrev pub row_differs : List TheColumn → List (List ℕ) → List Value → Bool
row_differs columns names key = list_any (λ p. differ (column_kind columns p.0) (value_kind p.1)) (zip names key)

-- a column of integers
abbrev pub is_whole : Option Kind → Bool
is_whole (Some Whole) = true
is_whole _ = false

abbrev mutual
  -- a test of the condition has sides of two kinds, or is LIKE on a column of integers
  pub mismatches : List TheColumn → RawTree → Bool
  mismatches columns (truth t) = false
  mismatches columns (compare op left right) = differ (operand_kind columns left) (operand_kind columns right)
  mismatches columns (member left list) = list_differs (operand_kind columns left) list
  mismatches columns (row_member names list) = list_any (row_differs columns names) list
  mismatches columns (is_null operand) = false
  mismatches columns (like name pattern) = is_whole (column_kind columns name)
  mismatches columns (neg t) = mismatches columns t
  mismatches columns (conj items) = any_mismatches columns items
  mismatches columns (disj items) = any_mismatches columns items

  -- one of these conditions has such a test
  pub any_mismatches : List TheColumn → RawTrees → Bool
  any_mismatches columns none = false
  any_mismatches columns (more t ts) = mismatches columns t || any_mismatches columns ts
