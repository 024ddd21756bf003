-- The canonical text of a CREATE TABLE statement.
use Rattle.std.specs.Prelude.{◌≡◌, ℕ, ◌<◌, ◌≤◌, ◌^◌, true, false, List, [], ◌∷◌, ◌++◌, length, codes, Bool, Option, Some, None, IfSome, All, ◌==◌, if◌then◌else◌}
use Rattle.std.specs.List.{list_all, list_any, flat_map}
use Rattle.std.specs.Fmt.{decimal}
use Rattle.rx_token.specs.Quotes.{is_name_byte, doubled}
use Rattle.rx_ddl.specs.declared.statements.Argument.{Argument}
use Rattle.rx_ddl.specs.declared.statements.Argument.TheVariants.{Number, Text}
use Rattle.rx_ddl.specs.declared.statements.Attribute.{Attribute}
use Rattle.rx_ddl.specs.declared.statements.Attribute.TheVariants.{Unsigned, Zerofill, NotNull, Null, CharacterSet, Collate, Other}
use Rattle.rx_ddl.specs.declared.statements.ColumnDefinition.{ColumnDefinition}
use Rattle.rx_ddl.specs.declared.statements.KeyKind.{KeyKind}
use Rattle.rx_ddl.specs.declared.statements.KeyKind.TheVariants.{Primary, Unique, Plain, Fulltext, Spatial}
use Rattle.rx_ddl.specs.declared.statements.KeyPart.{KeyPart}
use Rattle.rx_ddl.specs.declared.statements.KeyDefinition.{KeyDefinition}
use Rattle.rx_ddl.specs.declared.statements.CreateDefinition.{CreateDefinition}
use Rattle.rx_ddl.specs.declared.statements.CreateDefinition.TheVariants.{Column, Key}
use Rattle.rx_ddl.specs.declared.statements.CreateTable.{CreateTable}
use Rattle.rx_ddl.specs.Create.{is_column}

-- a byte of a name between backquotes
abbrev pub doubled_byte : ℕ → List ℕ
doubled_byte b = if b == 96 then 96 ∷ 96 ∷ [] else b ∷ []

-- a name between backquotes, with those in it doubled
abbrev pub quoted : List ℕ → List ℕ
quoted name = 96 ∷ doubled name ++ 96 ∷ []

-- the texts of some items, with bytes between two of them
abbrev pub parted : {A : Type 0} → (A → List ℕ) → List ℕ → List A → List ℕ
parted text between [] = []
parted text between (item ∷ items) = text item ++ flat_map (λ other. between ++ text other) items

-- a number in decimal digits; a text, which no canonical statement has, gives nothing
abbrev pub argument_text : Argument → List ℕ
argument_text (Number n) = decimal n
argument_text (Text text) = []

-- arguments between parentheses, and nothing where there are none
abbrev pub arguments_text : List Argument → List ℕ
arguments_text [] = []
arguments_text (argument ∷ arguments) = codes "(" ++ parted argument_text (codes ",") (argument ∷ arguments) ++ codes ")"

-- UNSIGNED and NOT NULL; the others, which no canonical statement has, give nothing
abbrev pub attribute_text : Attribute → List ℕ
attribute_text Unsigned = codes " unsigned"
attribute_text Zerofill = []
attribute_text NotNull = codes " NOT NULL"
attribute_text Null = []
attribute_text (CharacterSet word) = []
attribute_text (Collate word) = []
attribute_text Other = []

-- a column: its name, its type and its attributes
abbrev pub column_text : ColumnDefinition → List ℕ
column_text column =
    quoted column.name ++ codes " " ++ column.kind ++ arguments_text column.arguments ++ flat_map attribute_text column.attributes

-- what stands before the parts of a key; of other kinds, which no canonical statement has, the kind is left out
abbrev pub key_front : KeyKind → List ℕ → List ℕ
key_front Primary name = codes "PRIMARY KEY"
key_front Unique name = codes "UNIQUE KEY " ++ quoted name
key_front _ name = codes "KEY " ++ quoted name

-- a prefix length between parentheses, and nothing where there is none
abbrev pub prefix_text : Option ℕ → List ℕ
prefix_text None = []
prefix_text (Some n) = codes "(" ++ decimal n ++ codes ")"

-- DESC where a part falls
abbrev pub direction_text : Bool → List ℕ
direction_text false = []
direction_text true = codes " DESC"

-- a part of a key: the name of its column, its prefix length, and DESC
abbrev pub part_text : KeyPart → List ℕ
part_text part = quoted part.column ++ prefix_text part.prefix ++ direction_text part.descending

-- a key with its parts
abbrev pub key_text : KeyDefinition → List ℕ
key_text key = key_front key.kind key.name ++ codes " (" ++ parted part_text (codes ",") key.parts ++ codes ")"

-- a column or a key on a line of its own, without the line's end
abbrev pub definition_text : CreateDefinition → List ℕ
definition_text (Column column) = codes "  " ++ column_text column
definition_text (Key key) = codes "  " ++ key_text key

-- The canonical text: the table, a line for each column and key with commas between, and the closing parenthesis.
unfoldable pub canonical : CreateTable → List ℕ
canonical statement =
    codes "CREATE TABLE " ++ quoted statement.table ++ codes " (\n" ++ parted definition_text (codes ",\n") statement.definitions ++ codes "\n)\n"

-- a name has 1 to 64 bytes from 32 to 126
pub record IsName (name : List ℕ) : Type 0 where
  pub some : 1 ≤ length name
  pub short : length name ≤ 64
  pub bytes : list_all is_name_byte name ≡ true

-- the words of the types
pub data IsTypeWord : List ℕ → Type 0 where
  is_tinyint : IsTypeWord (codes "tinyint")
  is_smallint : IsTypeWord (codes "smallint")
  is_mediumint : IsTypeWord (codes "mediumint")
  is_int : IsTypeWord (codes "int")
  is_bigint : IsTypeWord (codes "bigint")
  is_varchar : IsTypeWord (codes "varchar")

-- no argument, or one number that a token can be
abbrev pub IsWidth : List Argument → Type 0
IsWidth [] = Unit {0}
IsWidth (Number n ∷ []) = n < 2 ^ 127
IsWidth _ = ⊥

-- UNSIGNED or not, and then NOT NULL or not
abbrev pub IsMarks : List Attribute → Type 0
IsMarks [] = Unit {0}
IsMarks (Unsigned ∷ []) = Unit {0}
IsMarks (NotNull ∷ []) = Unit {0}
IsMarks (Unsigned ∷ NotNull ∷ []) = Unit {0}
IsMarks _ = ⊥

-- a column that its canonical text says whole
pub record IsCanonicalColumn (column : ColumnDefinition) : Type 0 where
  pub name : IsName column.name
  pub kind : IsTypeWord column.kind
  pub arguments : IsWidth column.arguments
  pub attributes : IsMarks column.attributes

-- the name of a key: PRIMARY for the primary key, and any name for the others
abbrev pub IsKeyName : KeyKind → List ℕ → Type 0
IsKeyName Primary name = name ≡ codes "PRIMARY"
IsKeyName Unique name = IsName name
IsKeyName Plain name = IsName name
IsKeyName Fulltext name = ⊥
IsKeyName Spatial name = ⊥

-- a part of a key with a name, and with a prefix length that a token can be
pub record IsCanonicalPart (part : KeyPart) : Type 0 where
  pub column : IsName part.column
  pub prefix : IfSome part.prefix (λ n. n < 2 ^ 127)

-- a key that its canonical text says whole
pub record IsCanonicalKey (key : KeyDefinition) : Type 0 where
  pub name : IsKeyName key.kind key.name
  pub some : 1 ≤ length key.parts
  pub parts : All IsCanonicalPart key.parts
  pub methods : key.methods ≡ []

-- a column or a key that its canonical text says whole
abbrev pub IsCanonicalDefinition : CreateDefinition → Type 0
IsCanonicalDefinition (Column column) = IsCanonicalColumn column
IsCanonicalDefinition (Key key) = IsCanonicalKey key

-- a statement that its canonical text says whole
pub record IsCanonical (statement : CreateTable) : Type 0 where
  pub table : IsName statement.table
  pub column : list_any is_column statement.definitions ≡ true
  pub definitions : All IsCanonicalDefinition statement.definitions
  pub options : statement.options ≡ []
