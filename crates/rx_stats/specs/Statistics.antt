-- Statistics of a table: per index one number of records per key for each of its parts.
use Rattle.std.specs.Prelude.{◌≡◌, ℕ, ◌≤◌, List, [], ◌∷◌, length, All}
use Rattle.rx_value.specs.declared.shapes.Index.{Index}
use Rattle.rx_value.specs.declared.shapes.Schema.{Schema}

-- the most records per key that statistics may tell
abbrev pub most_per_key : ℕ
most_per_key = 1000000000

-- a number of records per key: at least 1, and no more than statistics may tell
pub record IsNumber (number : ℕ) : Type 0 where
  pub least : 1 ≤ number
  pub most : number ≤ most_per_key

-- one number for each part of an index
pub record SuitsIndex (index : Index) (numbers : List ℕ) : Type 0 where
  pub as_many : length numbers ≡ length index.parts
  pub each : All IsNumber numbers

-- one list of numbers for each index, in order
abbrev pub SuitsIndexes : List Index → List (List ℕ) → Type 0
SuitsIndexes [] [] = Unit {0}
SuitsIndexes (index ∷ indexes) (numbers ∷ statistics) = SuitsIndex index numbers × SuitsIndexes indexes statistics
SuitsIndexes _ _ = ⊥

-- statistics of a table of this shape
abbrev pub IsStatistics : Schema → List (List ℕ) → Type 0
IsStatistics schema statistics = SuitsIndexes schema.indexes statistics
