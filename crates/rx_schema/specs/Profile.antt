-- What a statement may say of columns and keys: the types and attributes that are read, and the first that isn't.
use Rattle.std.specs.Prelude.{ℕ, Bool, true, false, not, ◌&&◌, ◌||◌, List, [], ◌∷◌, Option, Some, None, is_none, find, codes, nat_le, if◌then◌else◌}
use Rattle.std.specs.Option.{option_or}
use Rattle.std.specs.List.{list_any, ends_with}
use Rattle.rx_value.specs.Names.{same_name}
use Rattle.rx_ddl.specs.declared.statements.Argument.{Argument}
use Rattle.rx_ddl.specs.declared.statements.Argument.TheVariants.{Number, Text}
use Rattle.rx_ddl.specs.declared.statements.Attribute.{Attribute}
use Rattle.rx_ddl.specs.declared.statements.Attribute.TheVariants.{Unsigned, Zerofill, CharacterSet, Collate}
use Rattle.rx_ddl.specs.declared.statements.ColumnDefinition.{ColumnDefinition}
use Rattle.rx_ddl.specs.declared.statements.KeyKind.{KeyKind}
use Rattle.rx_ddl.specs.declared.statements.KeyKind.TheVariants.{Fulltext, Spatial}
use Rattle.rx_ddl.specs.declared.statements.KeyPart.{KeyPart}
use Rattle.rx_ddl.specs.declared.statements.Method.{Method}
use Rattle.rx_ddl.specs.declared.statements.Method.TheVariants.{Using, Comment}
use Rattle.rx_ddl.specs.declared.statements.KeyDefinition.{KeyDefinition}
use Rattle.rx_ddl.specs.declared.statements.CreateDefinition.{CreateDefinition}
use Rattle.rx_ddl.specs.declared.statements.CreateDefinition.TheVariants.{Column, Key}
use Rattle.rx_ddl.specs.declared.statements.TableOption.{TableOption}
use Rattle.rx_ddl.specs.declared.statements.CreateTable.{CreateTable}
use Rattle.rx_schema.specs.declared.faults.Which.{Which}
use Rattle.rx_schema.specs.declared.faults.Which.TheVariants as no
use Rattle.rx_schema.specs.declared.types.TypeWord.{TypeWord}
use Rattle.rx_schema.specs.declared.types.TypeWord.TheVariants as is
use Rattle.rx_schema.specs.declared.profile.Defaults.{Defaults}
use Rattle.rx_schema.specs.Given.{first_given, last_given, columns_in}

-- the type that a word names
unfoldable pub type_word : List ℕ → TypeWord
type_word word =
    if same_name word (codes "tinyint") then is.Whole 8
    else (if same_name word (codes "smallint") then is.Whole 16
    else (if same_name word (codes "mediumint") then is.Whole 24
    else (if same_name word (codes "int") then is.Whole 32
    else (if same_name word (codes "bigint") then is.Whole 64
    else (if same_name word (codes "varchar") then is.VarChar
    else is.Other)))))

-- the number of characters of a varchar: its only argument, a number of at most 255
abbrev pub characters : List Argument → Option ℕ
characters [] = None
characters (Number n ∷ []) = if nat_le n 255 then Some n else None
characters (Text text ∷ []) = None
characters (a ∷ b ∷ arguments) = None

-- UNSIGNED
abbrev pub is_unsigned : Attribute → Bool
is_unsigned Unsigned = true
is_unsigned _ = false

-- ZEROFILL
abbrev pub is_zerofill : Attribute → Bool
is_zerofill Zerofill = true
is_zerofill _ = false

-- the one collation
unfoldable pub is_collation : List ℕ → Bool
is_collation name = same_name name (codes "utf8mb4_0900_bin")

-- the one character set
unfoldable pub is_character_set : List ℕ → Bool
is_character_set name = same_name name (codes "utf8mb4")

-- whether COLLATE names the one collation
abbrev pub own_collation : Attribute → Option Bool
own_collation (Collate name) = Some (is_collation name)
own_collation _ = None

-- whether CHARACTER SET names the one character set
abbrev pub own_character_set : Attribute → Option Bool
own_character_set (CharacterSet name) = Some (is_character_set name)
own_character_set _ = None

-- the words end in these, without ASCII case
abbrev pub ends_in : List (List ℕ) → List (List ℕ) → Bool
ends_in words last = ends_with same_name words last

-- COLLATE at the end
abbrev pub ends_in_collate : List (List ℕ) → Bool
ends_in_collate words = ends_in words (codes "COLLATE" ∷ [])

-- CHARSET or CHARACTER SET at the end
abbrev pub ends_in_character_set : List (List ℕ) → Bool
ends_in_character_set words =
    ends_in words (codes "CHARSET" ∷ []) || ends_in words (codes "CHARACTER" ∷ codes "SET" ∷ [])

-- whether an option that gives the table's collation names the one
unfoldable pub table_collation : TableOption → Option Bool
table_collation option = if ends_in_collate option.words then Some (is_collation option.value) else None

-- whether an option that gives the table's character set names the one
unfoldable pub table_character_set : TableOption → Option Bool
table_character_set option =
    if ends_in_character_set option.words then Some (is_character_set option.value) else None

-- what the last options of each kind give
unfoldable pub defaults_of : List TableOption → Defaults
defaults_of options = record { collation = last_given table_collation options; character_set = last_given table_character_set options }

-- one is named, and it isn't the one
abbrev pub is_another : Option Bool → Bool
is_another None = false
is_another (Some true) = false
is_another (Some false) = true

-- a varchar column takes its own collation, else the table's, and it is another than the one
abbrev pub takes_another_collation : Defaults → List Attribute → Bool
takes_another_collation defaults attributes =
    is_another (option_or (last_given own_collation attributes) defaults.collation)

-- the same of its character set
abbrev pub takes_another_character_set : Defaults → List Attribute → Bool
takes_another_character_set defaults attributes =
    is_another (option_or (last_given own_character_set attributes) defaults.character_set)

-- the first thing that is outside the profile of a varchar column
unfoldable pub text_misfit : Defaults → ColumnDefinition → Option Which
text_misfit defaults column =
    if list_any is_unsigned column.attributes then Some no.ColumnType
    else (if is_none (characters column.arguments) then Some no.Length
    else (if list_any is_zerofill column.attributes then Some no.Zerofill
    else (if takes_another_collation defaults column.attributes then Some no.Collation
    else (if takes_another_character_set defaults column.attributes then Some no.CharacterSet
    else None))))

-- the same by a column's type
abbrev pub typed_misfit : TypeWord → Defaults → ColumnDefinition → Option Which
typed_misfit (is.Whole bits) defaults column =
    if list_any is_zerofill column.attributes then Some no.Zerofill else None
typed_misfit is.VarChar defaults column = text_misfit defaults column
typed_misfit is.Other defaults column = Some no.ColumnType

-- the same of any column: all that it has stands at its name
abbrev pub column_misfit : Defaults → ColumnDefinition → Option Which
column_misfit defaults column = typed_misfit (type_word column.kind) defaults column

-- FULLTEXT and SPATIAL
abbrev pub kind_misfit : KeyKind → Option Which
kind_misfit Fulltext = Some no.KeyKind
kind_misfit Spatial = Some no.KeyKind
kind_misfit _ = None

-- the first column of a name
abbrev pub column_named : List ColumnDefinition → List ℕ → Option ColumnDefinition
column_named columns name = find (λ c. same_name name c.name) columns

-- a length from 1 to a number of characters, where there is one
abbrev pub is_within : Option ℕ → ℕ → Bool
is_within None n = true
is_within (Some most) n = nat_le 1 n && nat_le n most

-- A varchar column takes a prefix length from 1 to its number of characters, and any where that number itself is refused;
-- a column of another type takes none.
abbrev pub takes_prefix : TypeWord → Option ℕ → ℕ → Bool
takes_prefix is.VarChar most n = is_within most n
takes_prefix (is.Whole bits) most n = false
takes_prefix is.Other most n = false

-- a column that is there doesn't take the prefix length that a part has
abbrev pub is_refused : Option ColumnDefinition → Option ℕ → Bool
is_refused column None = false
is_refused None (Some n) = false
is_refused (Some column) (Some n) = not (takes_prefix (type_word column.kind) (characters column.arguments) n)

-- a prefix length that the part's column doesn't take
abbrev pub part_misfit : List ColumnDefinition → KeyPart → Option Which
part_misfit columns part = if is_refused (column_named columns part.column) part.prefix then Some no.Prefix else None

-- USING with another word than BTREE
abbrev pub method_misfit : Method → Option Which
method_misfit (Using word) = if same_name word (codes "BTREE") then None else Some no.KeyKind
method_misfit Comment = None

-- the first thing of a key that is outside the profile: its kind, then its parts, then what stands behind them
unfoldable pub key_misfit : List ColumnDefinition → KeyDefinition → Option Which
key_misfit columns key =
    option_or (kind_misfit key.kind)
    (option_or (first_given (part_misfit columns) key.parts) (first_given method_misfit key.methods))

-- the same of a column or a key of a table with these columns
abbrev pub item_misfit : Defaults → List ColumnDefinition → CreateDefinition → Option Which
item_misfit defaults columns (Column column) = column_misfit defaults column
item_misfit defaults columns (Key key) = key_misfit columns key

-- The first place in text order that is outside the profile.
unfoldable pub first_misfit : CreateTable → Option Which
first_misfit create =
    first_given (item_misfit (defaults_of create.options) (columns_in create.definitions)) create.definitions
