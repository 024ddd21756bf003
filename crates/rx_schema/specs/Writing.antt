-- The text of a schema.
use Rattle.std.specs.Prelude.{ℕ, Bool, true, false, List, [], ◌∷◌, ◌++◌, map, codes, Option, Some, None, slice_get, ◌==◌, if◌then◌else◌}
use Rattle.rx_value.specs.declared.shapes.ColType.{ColType}
use Rattle.rx_value.specs.declared.shapes.ColType.TheVariants.{Whole, VarChar}
use Rattle.rx_value.specs.declared.shapes.Column.{Column}
use Rattle.rx_value.specs.declared.shapes.Part.{Part}
use Rattle.rx_value.specs.declared.shapes.Index.{Index}
use Rattle.rx_value.specs.declared.shapes.Schema.{Schema}
use Rattle.rx_ddl.specs.declared.statements.Argument.{Argument}
use Rattle.rx_ddl.specs.declared.statements.Argument.TheVariants.{Number}
use Rattle.rx_ddl.specs.declared.statements.Attribute.{Attribute}
use Rattle.rx_ddl.specs.declared.statements.Attribute.TheVariants.{Unsigned, NotNull}
use Rattle.rx_ddl.specs.declared.statements.ColumnDefinition.{ColumnDefinition}
use Rattle.rx_ddl.specs.declared.statements.KeyKind.{KeyKind}
use Rattle.rx_ddl.specs.declared.statements.KeyKind.TheVariants.{Primary, Unique, Plain}
use Rattle.rx_ddl.specs.declared.statements.KeyPart.{KeyPart}
use Rattle.rx_ddl.specs.declared.statements.KeyDefinition.{KeyDefinition}
use Rattle.rx_ddl.specs.declared.statements.CreateDefinition.{CreateDefinition}
use Rattle.rx_ddl.specs.declared.statements.CreateDefinition.TheVariants as of
use Rattle.rx_ddl.specs.declared.statements.CreateTable.{CreateTable}
use Rattle.rx_ddl.specs.Canonical.{canonical}

-- the word of an integer type by its bits; no other size is read
unfoldable pub size_word : ℕ → List ℕ
size_word bits =
    if bits == 8 then codes "tinyint"
    else (if bits == 16 then codes "smallint"
    else (if bits == 24 then codes "mediumint"
    else (if bits == 32 then codes "int"
    else codes "bigint")))

-- the word of a type
abbrev pub kind_word : ColType → List ℕ
kind_word (Whole bits signed) = size_word bits
kind_word (VarChar count) = codes "varchar"

-- its argument, where it has one
abbrev pub kind_arguments : ColType → List Argument
kind_arguments (Whole bits signed) = []
kind_arguments (VarChar count) = Number count ∷ []

-- UNSIGNED where so
abbrev pub sign_marks : ColType → List Attribute
sign_marks (Whole bits true) = []
sign_marks (Whole bits false) = Unsigned ∷ []
sign_marks (VarChar count) = []

-- NOT NULL where so
abbrev pub null_marks : Bool → List Attribute
null_marks true = []
null_marks false = NotNull ∷ []

-- a column as it is declared
unfoldable pub column_definition : Column → ColumnDefinition
column_definition column = record {
  name = column.name;
  kind = kind_word column.kind;
  arguments = kind_arguments column.kind;
  attributes = sign_marks column.kind ++ null_marks column.nullable;
}

-- the name of a column that is there
abbrev pub name_of : Option Column → List ℕ
name_of None = []
name_of (Some column) = column.name

-- a part of a key: the name of its column, its prefix length, and DESC
abbrev pub part_definition : List Column → Part → KeyPart
part_definition columns part =
    record { column = name_of (slice_get columns part.column); prefix = part.chars; descending = part.descending }

-- what a key begins with, by whether it is primary and whether it is unique
abbrev pub key_kind : Bool → Bool → KeyKind
key_kind true unique = Primary
key_kind false true = Unique
key_kind false false = Plain

-- an index as it is declared
unfoldable pub key_definition : List Column → Index → KeyDefinition
key_definition columns index = record {
  kind = key_kind index.primary index.unique;
  name = index.name;
  parts = map (part_definition columns) index.parts;
  methods = [];
}

-- the columns, and then the indexes by number
abbrev pub definitions_of : Schema → List CreateDefinition
definitions_of schema =
    map (λ c. of.Column (column_definition c)) schema.columns
    ++ map (λ i. of.Key (key_definition schema.columns i)) schema.indexes

-- the statement that declares a schema, without options
unfoldable pub statement_of : Schema → CreateTable
statement_of schema = record { table = schema.table; definitions = definitions_of schema; options = [] }

-- The text of a schema: the canonical text of its statement.
unfoldable pub text_of : Schema → List ℕ
text_of schema = canonical (statement_of schema)
