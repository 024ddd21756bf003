-- The grammar of CREATE TABLE: which tokens spell each form, and what it stands for.
use Rattle.std.specs.Prelude.{◌≡◌, ℕ, true, List, [], ◌∷◌, map, codes, None}
use Rattle.std.specs.List.{list_any}
use Rattle.rx_token.specs.declared.kinds.Token.{Token}
use Rattle.rx_token.specs.declared.signs.TheConstants.{COMMA, EQUAL, SEMICOLON}
use Rattle.rx_token.specs.Scan.{token_list, bad_place}
use Rattle.rx_reading.specs.Forms.{Form, One, NoToken, ◌>>◌, Word, AnyWord, Sign, Name, Listed, values, SpellsEach, SpellsEnclosed}
use Rattle.rx_ddl.specs.declared.statements.CreateDefinition.{CreateDefinition}
use Rattle.rx_ddl.specs.declared.statements.CreateDefinition.TheVariants.{Column, Key}
use Rattle.rx_ddl.specs.declared.statements.TableOption.{TableOption}
use Rattle.rx_ddl.specs.declared.statements.CreateTable.{CreateTable}
use Rattle.rx_ddl.specs.Create.{is_column}
use Rattle.rx_ddl.specs.Options.{is_value_kind}
use Rattle.rx_ddl.specs.ColumnForms.{ColumnForm, SpellsColumn, column_value}
use Rattle.rx_ddl.specs.KeyForms.{KeyForm, SpellsKey, key_value}

-- item := column | key
pub data DefinitionForm : Type 0 where
  column : ColumnForm → DefinitionForm
  key : KeyForm → DefinitionForm

-- the tokens of an item
abbrev pub SpellsDefinition : DefinitionForm → Form
SpellsDefinition (column c) = SpellsColumn c
SpellsDefinition (key k) = SpellsKey k

-- the column or the key that it is
abbrev pub definition_value : DefinitionForm → CreateDefinition
definition_value (column c) = Column (column_value c)
definition_value (key k) = Key (key_value k)

-- the text of a word, a number or a string
abbrev pub OptionValue : List ℕ → Form
OptionValue text = One (λ t. (is_value_kind t.kind ≡ true) × (t.text ≡ text))

-- [","]
pub data Lead : Type 0 where
  bare : Lead
  behind_comma : Lead

-- the tokens before an option
abbrev pub SpellsLead : Lead → Form
SpellsLead bare = NoToken
SpellsLead behind_comma = Sign COMMA

-- [","] word {word} "=" (word | number | string)
pub record OptionForm : Type 0 where
  pub lead : Lead
  pub word : List ℕ
  pub words : List (List ℕ)
  pub value : List ℕ

-- the tokens of an option
abbrev pub SpellsOption : OptionForm → Form
SpellsOption o = SpellsLead o.lead >> AnyWord o.word >> SpellsEach AnyWord o.words >> Sign EQUAL >> OptionValue o.value

-- the option that it is
abbrev pub option_value : OptionForm → TableOption
option_value o = record { words = o.word ∷ o.words; value = o.value }

-- [";"]
pub data Ending : Type 0 where
  open_end : Ending
  semicolon : Ending

-- the tokens behind all
abbrev pub SpellsEnding : Ending → Form
SpellsEnding open_end = NoToken
SpellsEnding semicolon = Sign SEMICOLON

-- CREATE TABLE name "(" item {"," item} ")" {[","] option} [";"]
pub record StatementForm : Type 0 where
  pub table : List ℕ
  pub definitions : Listed DefinitionForm
  pub options : List OptionForm
  pub ending : Ending

-- the tokens of a statement
abbrev pub SpellsStatement : StatementForm → Form
SpellsStatement s =
    Word (codes "CREATE") >> Word (codes "TABLE") >> Name s.table >> SpellsEnclosed SpellsDefinition s.definitions
    >> SpellsEach SpellsOption s.options >> SpellsEnding s.ending

-- the statement that it is
abbrev pub statement_value : StatementForm → CreateTable
statement_value s = record {
  table = s.table;
  definitions = values definition_value s.definitions;
  options = map option_value s.options;
}

-- a column stands among the items
abbrev pub HasColumn : StatementForm → Type 0
HasColumn s = list_any is_column (values definition_value s.definitions) ≡ true

-- The tokens are all of a statement with a column at least, which stands for this one.
abbrev pub IsStatement : List Token → CreateTable → Type 0
IsStatement ts c = (s : StatementForm) × HasColumn s × SpellsStatement s ts [] × (statement_value s ≡ c)

-- A text is tokens from its start to its end, and they are such a statement.
abbrev pub IsCreate : List ℕ → CreateTable → Type 0
IsCreate text c = (bad_place text ≡ None) × IsStatement (token_list text) c

-- no statement is spelled by the text
abbrev pub IsNoCreate : List ℕ → Type 0
IsNoCreate text = (c : CreateTable) → IsCreate text c → ⊥
