-- Records per key: how many rows there are for each different key of the first parts of an index.
use Rattle.std.specs.Prelude.{◌≡◌, ℕ, zero, suc, ◌+◌, ◌<◌, ◌/◌, max, List, [], ◌∷◌, length}
use Rattle.std.proofs.Common.{get_or}
use Rattle.rx_value.specs.declared.values.Value.{Value}
use Rattle.rx_value.specs.declared.shapes.Part.{Part}
use Rattle.rx_value.specs.declared.shapes.Index.{Index}
use Rattle.rx_index.specs.declared.indexed.Indexed.{Indexed}
use Rattle.rx_index.specs.Different.{HasDifferent, fronts}

-- so many rows for each of so many different keys, without rest; at least 1
abbrev pub per_key : ℕ → ℕ → ℕ
per_key rows zero = 1
per_key rows (suc different) = max 1 (rows / suc different)

-- the number of records per key of the first parts of an index
pub record IsPerKey (parts : List Part) (n : ℕ) (rows : List (List Value)) (number : ℕ) : Type 0 where
  pub different : ℕ
  pub has : HasDifferent (fronts parts n rows) different
  pub number_is : number ≡ per_key (length rows) different

-- the numbers of an index: of its first part, of its first two, and so on
pub record AreNumbers (parts : List Part) (rows : List (List Value)) (numbers : List ℕ) : Type 0 where
  pub as_many : length numbers ≡ length parts
  pub each : (i : ℕ) → i < length parts → IsPerKey parts (i + 1) rows (get_or numbers i 0)

-- each index has its numbers
abbrev pub AreComputed : List Index → List (List Value) → List (List ℕ) → Type 0
AreComputed [] rows [] = Unit {0}
AreComputed (index ∷ indexes) rows (numbers ∷ statistics) = AreNumbers index.parts rows numbers × AreComputed indexes rows statistics
AreComputed _ rows _ = ⊥

-- The statistics of a table: per index its numbers of records per key.
abbrev pub IsComputed : Indexed → List (List ℕ) → Type 0
IsComputed t statistics = AreComputed t.schema.indexes t.rows statistics
