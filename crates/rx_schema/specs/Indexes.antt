-- The indexes that a statement declares.
use Rattle.std.specs.Prelude.{ℕ, Bool, true, false, List, ◌++◌, Option, Some, None, map, filter, position, unwrap_or, nat_lt, slice_get, if◌then◌else◌}
use Rattle.rx_value.specs.Names.{same_name}
use Rattle.rx_value.specs.declared.shapes.ColType.{ColType}
use Rattle.rx_value.specs.declared.shapes.ColType.TheVariants.{Whole, VarChar}
use Rattle.rx_value.specs.declared.shapes.Column.{Column}
use Rattle.rx_value.specs.declared.shapes.Part.{Part}
use Rattle.rx_value.specs.declared.shapes.Index.{Index}
use Rattle.rx_ddl.specs.declared.statements.KeyKind.{KeyKind}
use Rattle.rx_ddl.specs.declared.statements.KeyKind.TheVariants.{Primary, Unique}
use Rattle.rx_ddl.specs.declared.statements.KeyPart.{KeyPart}
use Rattle.rx_ddl.specs.declared.statements.KeyDefinition.{KeyDefinition}
use Rattle.rx_ddl.specs.declared.statements.CreateDefinition.{CreateDefinition}
use Rattle.rx_schema.specs.Given.{keys_in}
use Rattle.rx_schema.specs.Limits.{is_primary, is_secondary}
use Rattle.rx_schema.specs.Columns.{declared_columns}
use Rattle.rx_schema.specs.Names.{index_name}
use Rattle.rx_schema.specs.Tables.{names_of}

-- PRIMARY KEY and UNIQUE
abbrev pub is_unique_kind : KeyKind → Bool
is_unique_kind Primary = true
is_unique_kind Unique = true
is_unique_kind _ = false

-- the number of the first column of a name, from 0, among the names of the columns
abbrev pub column_number : List (List ℕ) → List ℕ → ℕ
column_number names name = unwrap_or (position (λ other. same_name name other) names) 0

-- a prefix length, where the texts of a column may be longer
abbrev pub shorter_than : ColType → ℕ → Option ℕ
shorter_than (VarChar count) n = if nat_lt n count then Some n else None
shorter_than (Whole bits signed) n = None

-- the prefix length of a part on a column, none where the texts are taken whole
abbrev pub kept_prefix : Option Column → Option ℕ → Option ℕ
kept_prefix column None = None
kept_prefix None (Some n) = None
kept_prefix (Some column) (Some n) = shorter_than column.kind n

-- a part of an index with the number of its column
abbrev pub numbered_part : List Column → ℕ → KeyPart → Part
numbered_part columns number part =
    record { column = number; descending = part.descending; chars = kept_prefix (slice_get columns number) part.prefix }

-- a part of an index of a table with these columns
abbrev pub declared_part : List Column → KeyPart → Part
declared_part columns part = numbered_part columns (column_number (names_of columns) part.column) part

-- an index: its name, its kind, and its parts in order
unfoldable pub declared_index : List Column → KeyDefinition → Index
declared_index columns key = record {
  name = index_name key;
  primary = is_primary key;
  unique = is_unique_kind key.kind;
  parts = map (declared_part columns) key.parts;
}

-- a primary key, or another one
abbrev pub is_of : Bool → KeyDefinition → Bool
is_of true key = is_primary key
is_of false key = is_secondary key

-- the primary key, and then the other keys in text order
abbrev pub keys_by_number : List CreateDefinition → List KeyDefinition
keys_by_number items = filter (is_of true) (keys_in items) ++ filter (is_of false) (keys_in items)

-- the indexes by number
abbrev pub declared_indexes : List CreateDefinition → List Index
declared_indexes items = map (declared_index (declared_columns items)) (keys_by_number items)
