-- Texts in UTF-8, which a part with a prefix length cuts between characters.
use Rattle.std.specs.Prelude.{Bool, List, is_some, All}
use Rattle.std.specs.List.{list_any}
use Rattle.std.specs.Str.{IsUtf8}
use Rattle.rx_value.specs.declared.values.Value.{Value}
use Rattle.rx_value.specs.declared.values.Value.TheVariants.{Null, Int, Text}
use Rattle.rx_value.specs.declared.shapes.Part.{Part}
use Rattle.rx_cond.specs.declared.conds.Operand.{Operand}
use Rattle.rx_cond.specs.declared.conds.Operand.TheVariants.{Column, Constant}
use Rattle.rx_cond.specs.Tree.{Tree, Trees, truth, compare, member, row_member, is_null, like, neg, conj, disj, none, more}

-- a value that is a text is UTF-8
abbrev pub IsUtf8Value : Value → Type 0
IsUtf8Value Null = Unit {0}
IsUtf8Value (Int n) = Unit {0}
IsUtf8Value (Text text) = IsUtf8 text

-- each text of a row is UTF-8
abbrev pub AreUtf8 : List Value → Type 0
AreUtf8 row = All IsUtf8Value row

-- an operand that is a text is UTF-8
abbrev pub IsUtf8Operand : Operand → Type 0
IsUtf8Operand (Column c) = Unit {0}
IsUtf8Operand (Constant v) = IsUtf8Value v

abbrev mutual
  -- each text that a condition compares by an operator is UTF-8
  pub ComparesUtf8 : Tree → Type 0
  ComparesUtf8 (truth t) = Unit {0}
  ComparesUtf8 (compare op left right) = IsUtf8Operand left × IsUtf8Operand right
  ComparesUtf8 (member left list) = Unit {0}
  ComparesUtf8 (row_member columns list) = Unit {0}
  ComparesUtf8 (is_null operand) = Unit {0}
  ComparesUtf8 (like column pattern) = Unit {0}
  ComparesUtf8 (neg t) = ComparesUtf8 t
  ComparesUtf8 (conj items) = AllCompareUtf8 items
  ComparesUtf8 (disj items) = AllCompareUtf8 items

  -- each text that these compare by an operator is UTF-8
  pub AllCompareUtf8 : Trees → Type 0
  AllCompareUtf8 none = Unit {0}
  AllCompareUtf8 (more t ts) = ComparesUtf8 t × AllCompareUtf8 ts

-- one of the parts has a prefix length
abbrev pub cuts : List Part → Bool
cuts parts = list_any (λ p. is_some p.chars) parts
