-- The grammar of columns: which tokens spell each form, and what it stands for.
use Rattle.std.specs.Prelude.{◌≡◌, ℕ, Bool, true, false, List, [], ◌∷◌, map, codes}
use Rattle.std.specs.List.{list_any}
use Rattle.rx_token.specs.declared.kinds.Token.{Token}
use Rattle.rx_token.specs.declared.signs.TheConstants.{PLUS, MINUS}
use Rattle.rx_token.specs.Reserved.{is_word_of}
use Rattle.rx_reading.specs.Reading.{is_name}
use Rattle.rx_reading.specs.Forms.{Form, One, NoToken, ◌>>◌, Word, AnyWord, Number, Sign, Text, Listed, values, SpellsEach, SpellsEnclosed}
use Rattle.rx_ddl.specs.declared.statements.Argument.{Argument}
use Rattle.rx_ddl.specs.declared.statements.Argument.TheVariants as argument
use Rattle.rx_ddl.specs.declared.statements.Attribute.{Attribute}
use Rattle.rx_ddl.specs.declared.statements.Attribute.TheVariants as attribute
use Rattle.rx_ddl.specs.declared.statements.ColumnDefinition.{ColumnDefinition}

-- arg := number | string
pub data ArgumentForm : Type 0 where
  number : ℕ → ArgumentForm
  string : List ℕ → ArgumentForm

-- the tokens of an argument
abbrev pub SpellsArgument : ArgumentForm → Form
SpellsArgument (number n) = Number n
SpellsArgument (string text) = Text text

-- the argument that it is
abbrev pub argument_value : ArgumentForm → Argument
argument_value (number n) = argument.Number n
argument_value (string text) = argument.Text text

-- ["(" arg {"," arg} ")"]
pub data ArgumentsForm : Type 0 where
  bare : ArgumentsForm
  between : Listed ArgumentForm → ArgumentsForm

-- the tokens of arguments
abbrev pub SpellsArguments : ArgumentsForm → Form
SpellsArguments bare = NoToken
SpellsArguments (between list) = SpellsEnclosed SpellsArgument list

-- the arguments in order
abbrev pub arguments_value : ArgumentsForm → List Argument
arguments_value bare = []
arguments_value (between list) = values argument_value list

-- what stands behind DEFAULT: string | ["+"|"-"] number | word, and NULL is a word
pub data DefaultForm : Type 0 where
  of_string : List ℕ → DefaultForm
  of_word : List ℕ → DefaultForm
  of_number : ℕ → DefaultForm
  plus : ℕ → DefaultForm
  minus : ℕ → DefaultForm

-- the tokens of a default
abbrev pub SpellsDefault : DefaultForm → Form
SpellsDefault (of_string text) = Text text
SpellsDefault (of_word word) = AnyWord word
SpellsDefault (of_number n) = Number n
SpellsDefault (plus n) = Sign PLUS >> Number n
SpellsDefault (minus n) = Sign MINUS >> Number n

-- attr := UNSIGNED | ZEROFILL | NOT NULL | NULL | AUTO_INCREMENT | COMMENT string | DEFAULT default | CHARACTER SET word | COLLATE word
pub data AttributeForm : Type 0 where
  unsigned : AttributeForm
  zerofill : AttributeForm
  not_null : AttributeForm
  null : AttributeForm
  auto_increment : AttributeForm
  comment : List ℕ → AttributeForm
  default_is : DefaultForm → AttributeForm
  character_set : List ℕ → AttributeForm
  collate : List ℕ → AttributeForm

-- the tokens of an attribute
abbrev pub SpellsAttribute : AttributeForm → Form
SpellsAttribute unsigned = Word (codes "UNSIGNED")
SpellsAttribute zerofill = Word (codes "ZEROFILL")
SpellsAttribute not_null = Word (codes "NOT") >> Word (codes "NULL")
SpellsAttribute null = Word (codes "NULL")
SpellsAttribute auto_increment = Word (codes "AUTO_INCREMENT")
SpellsAttribute (comment text) = Word (codes "COMMENT") >> Text text
SpellsAttribute (default_is value) = Word (codes "DEFAULT") >> SpellsDefault value
SpellsAttribute (character_set word) = Word (codes "CHARACTER") >> Word (codes "SET") >> AnyWord word
SpellsAttribute (collate word) = Word (codes "COLLATE") >> AnyWord word

-- the attribute that it is; of AUTO_INCREMENT, COMMENT and DEFAULT nothing is kept
abbrev pub attribute_value : AttributeForm → Attribute
attribute_value unsigned = attribute.Unsigned
attribute_value zerofill = attribute.Zerofill
attribute_value not_null = attribute.NotNull
attribute_value null = attribute.Null
attribute_value auto_increment = attribute.Other
attribute_value (comment text) = attribute.Other
attribute_value (default_is value) = attribute.Other
attribute_value (character_set word) = attribute.CharacterSet word
attribute_value (collate word) = attribute.Collate word

-- the words that a key begins with
abbrev pub key_words : List (List ℕ)
key_words = codes "PRIMARY" ∷ codes "UNIQUE" ∷ codes "FULLTEXT" ∷ codes "SPATIAL" ∷ codes "KEY" ∷ codes "INDEX" ∷ []

-- one of these words without quotes
abbrev pub begins_key : Token → Bool
begins_key t = list_any (λ word. is_word_of word t) key_words

-- the name of a column: a name that no key begins with
abbrev pub ColumnName : List ℕ → Form
ColumnName name = One (λ t. (begins_key t ≡ false) × (is_name t ≡ true) × (t.text ≡ name))

-- name word ["(" arg {"," arg} ")"] {attr}
pub record ColumnForm : Type 0 where
  pub name : List ℕ
  pub kind : List ℕ
  pub arguments : ArgumentsForm
  pub attributes : List AttributeForm

-- the tokens of a column
abbrev pub SpellsColumn : ColumnForm → Form
SpellsColumn c =
    ColumnName c.name >> AnyWord c.kind >> SpellsArguments c.arguments >> SpellsEach SpellsAttribute c.attributes

-- the column that it is
abbrev pub column_value : ColumnForm → ColumnDefinition
column_value c = record {
  name = c.name;
  kind = c.kind;
  arguments = arguments_value c.arguments;
  attributes = map attribute_value c.attributes;
}
