-- How much a table may have.
use Rattle.std.specs.Prelude.{Bool, true, false, not, List, Option, Some, None, length, filter, nat_lt, if◌then◌else◌}
use Rattle.std.specs.List.{list_any}
use Rattle.rx_value.specs.Limits.{most_columns, most_indexes, most_parts}
use Rattle.rx_ddl.specs.declared.statements.KeyKind.{KeyKind}
use Rattle.rx_ddl.specs.declared.statements.KeyKind.TheVariants.{Primary}
use Rattle.rx_ddl.specs.declared.statements.KeyDefinition.{KeyDefinition}
use Rattle.rx_ddl.specs.declared.statements.CreateDefinition.{CreateDefinition}
use Rattle.rx_schema.specs.declared.faults.Many.{Many}
use Rattle.rx_schema.specs.declared.faults.Many.TheVariants as of
use Rattle.rx_schema.specs.Given.{columns_in, keys_in}

-- PRIMARY KEY
abbrev pub is_primary_kind : KeyKind → Bool
is_primary_kind Primary = true
is_primary_kind _ = false

-- a primary key
abbrev pub is_primary : KeyDefinition → Bool
is_primary key = is_primary_kind key.kind

-- a key that isn't primary
abbrev pub is_secondary : KeyDefinition → Bool
is_secondary key = not (is_primary key)

-- more parts than a key may have
abbrev pub has_many_parts : KeyDefinition → Bool
has_many_parts key = nat_lt most_parts (length key.parts)

-- What there is too much of: columns, else keys besides primary ones, else parts of a key.
unfoldable pub too_many : List CreateDefinition → Option Many
too_many items =
    if nat_lt most_columns (length (columns_in items)) then Some of.Columns
    else (if nat_lt most_indexes (length (filter is_secondary (keys_in items))) then Some of.Indexes
    else (if list_any has_many_parts (keys_in items) then Some of.Parts
    else None))
