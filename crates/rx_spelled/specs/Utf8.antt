-- Texts in UTF-8: those of tokens, those that a condition with names compares, and those of what a script asks.
use Rattle.std.specs.Prelude.{◌≡◌, true, List, All}
use Rattle.std.specs.Str.{IsUtf8}
use Rattle.rx_token.specs.declared.kinds.Token.{Token}
use Rattle.rx_reading.specs.Reading.{is_text_kind}
use Rattle.rx_where.specs.declared.raw.RawOperand.{RawOperand}
use Rattle.rx_where.specs.declared.raw.RawOperand.TheVariants.{Column, Constant}
use Rattle.rx_where.specs.Raw.{RawTree, RawTrees, truth, compare, member, row_member, is_null, like, neg, conj, disj, none, more}
use Rattle.rx_regions.specs.Texts.{IsUtf8Value, ComparesUtf8}
use Rattle.rx_query.specs.Steps.{Request, Step}
use Rattle.rx_query.specs.Steps.Request.{select, change}

-- a token that is a text between quotes is UTF-8
abbrev pub IsUtf8Token : Token → Type 0
IsUtf8Token t = is_text_kind t.kind ≡ true → IsUtf8 t.text

-- each text between quotes among these tokens is UTF-8
abbrev pub HaveUtf8 : List Token → Type 0
HaveUtf8 ts = All IsUtf8Token ts

-- the side of a test that is a text is UTF-8
abbrev pub IsUtf8Side : RawOperand → Type 0
IsUtf8Side (Column name) = Unit {0}
IsUtf8Side (Constant value) = IsUtf8Value value

abbrev mutual
  -- each text that a condition with names compares by an operator is UTF-8
  pub RawComparesUtf8 : RawTree → Type 0
  RawComparesUtf8 (truth t) = Unit {0}
  RawComparesUtf8 (compare op left right) = IsUtf8Side left × IsUtf8Side right
  RawComparesUtf8 (member left list) = Unit {0}
  RawComparesUtf8 (row_member names list) = Unit {0}
  RawComparesUtf8 (is_null operand) = Unit {0}
  RawComparesUtf8 (like name pattern) = Unit {0}
  RawComparesUtf8 (neg t) = RawComparesUtf8 t
  RawComparesUtf8 (conj items) = AllRawCompareUtf8 items
  RawComparesUtf8 (disj items) = AllRawCompareUtf8 items

  -- each text that these compare by an operator is UTF-8
  pub AllRawCompareUtf8 : RawTrees → Type 0
  AllRawCompareUtf8 none = Unit {0}
  AllRawCompareUtf8 (more t ts) = RawComparesUtf8 t × AllRawCompareUtf8 ts

-- each text that the condition of a SELECT compares by an operator is UTF-8
abbrev pub AsksUtf8 : Request → Type 0
AsksUtf8 (select q) = ComparesUtf8 q.cond
AsksUtf8 (change settings) = Unit {0}

-- the same of a step of a script
abbrev pub StepAsksUtf8 : Step → Type 0
StepAsksUtf8 step = AsksUtf8 step.request
