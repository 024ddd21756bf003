-- Keys whose values fit the parts of an index.
use Rattle.std.specs.Prelude.{◌≡◌, ℕ, ◌≤◌, List, [], ◌∷◌, length, Some, slice_get, IfSome}
use Rattle.std.specs.Str.{chars}
use Rattle.rx_value.specs.declared.values.Value.{Value}
use Rattle.rx_value.specs.declared.values.Value.TheVariants.{Null, Int, Text}
use Rattle.rx_value.specs.declared.shapes.Column.{Column}
use Rattle.rx_value.specs.declared.shapes.Part.{Part}
use Rattle.rx_value.specs.declared.shapes.Index.{Index}
use Rattle.rx_value.specs.declared.shapes.Schema.{Schema}
use Rattle.rx_value.specs.Shape.{FitsColumn}

-- a text has at most so many characters
abbrev pub IsWithin : ℕ → Value → Type 0
IsWithin most Null = Unit {0}
IsWithin most (Int n) = Unit {0}
IsWithin most (Text text) = length (chars text) ≤ most

-- a value fits a part: its column, and the prefix length where the part has one
pub record FitsPart (columns : List Column) (part : Part) (value : Value) : Type 0 where
  pub column : Column
  pub there : slice_get columns part.column ≡ Some column
  pub fits : FitsColumn column value
  pub within : IfSome part.chars (λ most. IsWithin most value)

-- for each part a value that fits it
abbrev pub FitsParts : List Column → List Part → List Value → Type 0
FitsParts columns [] [] = Unit {0}
FitsParts columns (part ∷ parts) (value ∷ values) = FitsPart columns part value × FitsParts columns parts values
FitsParts columns _ _ = ⊥

-- a key of an index by its number
abbrev pub FitsKey : Schema → ℕ → List Value → Type 0
FitsKey schema n key = (index : Index) × (slice_get schema.indexes n ≡ Some index) × FitsParts schema.columns index.parts key
