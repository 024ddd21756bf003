-- CREATE TABLE statements as they are written.
use Rattle.std.specs.Prelude.{ℕ, Bool, true, false, ◌&&◌, List, codes, Option, Some, None, if◌then◌else◌}
use Rattle.std.specs.List.{list_any}
use Rattle.rx_token.specs.declared.kinds.Token.{Token}
use Rattle.rx_token.specs.Scan.{token_list, bad_place}
use Rattle.rx_reading.specs.Reading.{Reader, ◌>>=◌, after_word, name_at, is_end, enclosed_at, of_whole}
use Rattle.rx_ddl.specs.declared.statements.KeyKind.{KeyKind}
use Rattle.rx_ddl.specs.declared.statements.CreateDefinition.{CreateDefinition}
use Rattle.rx_ddl.specs.declared.statements.CreateDefinition.TheVariants.{Column, Key}
use Rattle.rx_ddl.specs.declared.statements.CreateTable.{CreateTable}
use Rattle.rx_ddl.specs.Columns.{column_at}
use Rattle.rx_ddl.specs.Keys.{key_kind_at, key_at}
use Rattle.rx_ddl.specs.Options.{options_at}

-- a key where a key's first word stands, and else a column
abbrev pub definition_of : List Token → Option (KeyKind × List Token) → Option (CreateDefinition × List Token)
definition_of ts (Some front) = key_at front.0 front.1 >>= λ key. Some (Key key.0, key.1)
definition_of ts None = column_at ts >>= λ column. Some (Column column.0, column.1)

-- a column or a key
unfoldable pub definition_at : Reader CreateDefinition
definition_at ts = definition_of ts (key_kind_at ts)

-- a column
abbrev pub is_column : CreateDefinition → Bool
is_column (Column column) = true
is_column (Key key) = false

-- CREATE TABLE
abbrev pub after_create : List Token → Option (List Token)
after_create ts = after_word (codes "CREATE") ts >>= after_word (codes "TABLE")

-- CREATE TABLE name "(" item {"," item} ")" {[","] option} [";"], with a column at least
unfoldable pub create_at : List Token → Option CreateTable
create_at ts =
    after_create ts >>= λ table. name_at table >>= λ name. enclosed_at definition_at name.1 >>= λ items. options_at items.1 >>= λ options.
    if is_end options.1 && list_any is_column items.0 then Some (record { table = name.0; definitions = items.0; options = options.0 }) else None

-- the statement that a whole text gives
unfoldable pub create_form : List ℕ → Option CreateTable
create_form text = of_whole create_at (token_list text) (bad_place text)
