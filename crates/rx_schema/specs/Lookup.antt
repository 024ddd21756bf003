-- Columns by their names.
use Rattle.std.specs.Prelude.{◌≡◌, ℕ, List, Option}
use Rattle.std.specs.Option.{option_map}
use Rattle.std.specs.List.{flat_map}
use Rattle.std.specs.Char.{to_ascii_lowercase}
use Rattle.std.specs.Hash as fed
use Rattle.indexmap.specs.IndexMap.{IndexMap, get_by}
use Rattle.rx_value.specs.Names.{same_name}
use Rattle.rx_ddl.specs.declared.statements.ColumnDefinition.{ColumnDefinition}
use Rattle.rx_schema.specs.declared.lookup.NameKey.{NameKey}
use Rattle.rx_schema.specs.declared.lookup.Texts.{Texts}
use Rattle.rx_schema.specs.Profile.{type_word, characters, column_named}

-- what the bytes of a name feed a hasher, in lower case
abbrev pub name_input : List ℕ → List (List ℕ)
name_input name = flat_map (λ b. fed.u8 (to_ascii_lowercase b)) name

-- what a column says of prefix lengths: the word of its type, and its number of characters
abbrev pub texts_of : ColumnDefinition → Texts
texts_of column = record { word = type_word column.kind; most = characters column.arguments }

-- what a map has at a name
abbrev pub by_name : {X S : Type 0} → IndexMap NameKey X S → List ℕ → Option X
by_name map name = get_by (λ key. same_name name key.name.now) map

-- a map has at each name what the first column of the name says
abbrev pub IsTextsOf : {S : Type 0} → List ColumnDefinition → IndexMap NameKey Texts S → Type 0
IsTextsOf columns map = (name : List ℕ) → by_name map name ≡ option_map texts_of (column_named columns name)
