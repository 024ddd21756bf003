-- The columns that a statement declares.
use Rattle.std.specs.Prelude.{ℕ, Bool, true, false, not, ◌&&◌, List, Option, Some, None, map, unwrap_or}
use Rattle.std.specs.List.{list_any}
use Rattle.rx_value.specs.declared.shapes.ColType.{ColType}
use Rattle.rx_value.specs.declared.shapes.ColType.TheVariants.{Whole, VarChar}
use Rattle.rx_value.specs.declared.shapes.Column.{Column}
use Rattle.rx_ddl.specs.declared.statements.Attribute.{Attribute}
use Rattle.rx_ddl.specs.declared.statements.Attribute.TheVariants.{NotNull, Null}
use Rattle.rx_ddl.specs.declared.statements.ColumnDefinition.{ColumnDefinition}
use Rattle.rx_ddl.specs.declared.statements.CreateDefinition.{CreateDefinition}
use Rattle.rx_schema.specs.declared.types.TypeWord.{TypeWord}
use Rattle.rx_schema.specs.declared.types.TypeWord.TheVariants as is
use Rattle.rx_schema.specs.Given.{last_given, columns_in, keys_in}
use Rattle.rx_schema.specs.Limits.{is_primary}
use Rattle.rx_schema.specs.Names.{is_among, part_names}
use Rattle.rx_schema.specs.Profile.{type_word, characters, is_unsigned}

-- whether an attribute says that a column may be NULL
abbrev pub own_null : Attribute → Option Bool
own_null Null = Some true
own_null NotNull = Some false
own_null _ = None

-- the last of NULL and NOT NULL counts, and without any a column may be NULL
abbrev pub may_be_null : List Attribute → Bool
may_be_null attributes = unwrap_or (last_given own_null attributes) true

-- a column of this name is one of the primary key
abbrev pub is_in_primary : List CreateDefinition → List ℕ → Bool
is_in_primary items name = list_any (λ key. is_primary key && is_among (part_names key) name) (keys_in items)

-- a column's type by its word; a word of another type is outside the profile, and what stands here for it is never read
abbrev pub typed : TypeWord → ColumnDefinition → ColType
typed (is.Whole bits) column = Whole bits (not (list_any is_unsigned column.attributes))
typed is.VarChar column = VarChar (unwrap_or (characters column.arguments) 0)
typed is.Other column = VarChar 0

-- A column: its name as it is spelled, its type, and whether it may be NULL; one of the primary key may not.
unfoldable pub declared_column : List CreateDefinition → ColumnDefinition → Column
declared_column items column = record {
  name = column.name;
  kind = typed (type_word column.kind) column;
  nullable = may_be_null column.attributes && not (is_in_primary items column.name);
}

-- the columns in text order
abbrev pub declared_columns : List CreateDefinition → List Column
declared_columns items = map (declared_column items) (columns_in items)
