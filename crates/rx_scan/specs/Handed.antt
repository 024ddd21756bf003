-- The rows that are handed out for entries, where no row is fetched.
use Rattle.std.specs.Prelude.{◌≡◌, ℕ, Bool, nat_eq, if◌then◌else◌, List, [], ◌∷◌, map, length, All, None}
use Rattle.std.specs.List.{list_any, range_with_len}
use Rattle.rx_value.specs.declared.values.Value.{Value}
use Rattle.rx_value.specs.declared.values.Value.TheVariants.{Null}
use Rattle.rx_value.specs.declared.shapes.Part.{Part}
use Rattle.rx_value.specs.declared.shapes.Column.{Column}
use Rattle.rx_value.specs.declared.shapes.Schema.{Schema}
use Rattle.rx_value.specs.Shape.{FitsType}
use Rattle.rx_value.specs.Keys.{column_value}

-- what an entry has in a column: the value of the part on it, and NULL where no part is on it
abbrev pub entry_value : List Part → List Value → ℕ → Value
entry_value (part ∷ parts) (value ∷ values) column = if nat_eq part.column column then value else entry_value parts values column
entry_value _ _ column = Null

-- the row that is handed out for an entry, with so many columns
abbrev pub entry_row : ℕ → List Part → List Value → List Value
entry_row width parts key = map (entry_value parts key) (range_with_len 0 width)

-- a column is a part of an index
abbrev pub is_part : List Part → ℕ → Bool
is_part parts column = list_any (λ part. nat_eq part.column column) parts

-- a row as a query sees it that names the parts of an index alone: NULL in every other column
abbrev pub seen_row : List Part → List Value → List Value
seen_row parts row = map (λ column. if is_part parts column then column_value column row else Null) (range_with_len 0 (length row))

-- no part has a prefix length
abbrev pub AreWhole : List Part → Type 0
AreWhole parts = All (λ part. part.chars ≡ None) parts

-- for each column a value of its type, or NULL
abbrev pub AreOfTypes : List Column → List Value → Type 0
AreOfTypes [] [] = Unit {0}
AreOfTypes (column ∷ columns) (value ∷ values) = FitsType column.kind value × AreOfTypes columns values
AreOfTypes columns values = ⊥

-- a row has for each column of a schema a value of its type, or NULL
abbrev pub IsOfTypes : Schema → List Value → Type 0
IsOfTypes schema row = AreOfTypes schema.columns row
