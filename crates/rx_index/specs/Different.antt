-- Different keys of rows on the first parts of indexes.
use Rattle.std.specs.Prelude.{◌≡◌, ℕ, ◌+◌, ◌<◌, List, [], ◌∷◌, length, map, take, All}
use Rattle.std.specs.List.{AllPairs, Contains}
use Rattle.std.proofs.Common.{get_or}
use Rattle.rx_value.specs.declared.values.Value.{Value}
use Rattle.rx_value.specs.declared.shapes.Part.{Part}
use Rattle.rx_value.specs.declared.shapes.Index.{Index}
use Rattle.rx_value.specs.Keys.{key_of}

-- So many different keys are among these: as many as a list has that has each of them once and no other.
pub record HasDifferent (keys : List (List Value)) (count : ℕ) : Type 0 where
  pub each : List (List Value)
  pub apart : AllPairs (λ a b. a ≡ b → ⊥) each
  pub of_keys : All (Contains keys) each
  pub all : All (Contains each) keys
  pub count_is : length each ≡ count

-- the keys of rows on the first parts of an index
abbrev pub fronts : List Part → ℕ → List (List Value) → List (List Value)
fronts parts n rows = map (λ row. key_of (take n parts) row) rows

-- so many different keys an index has on its first part, on its first two, and so on up to so many
pub record AreDifferentTo (parts : List Part) (rows : List (List Value)) (n : ℕ) (counts : List ℕ) : Type 0 where
  pub as_many : length counts ≡ n
  pub each : (i : ℕ) → i < n → HasDifferent (fronts parts (i + 1) rows) (get_or counts i 0)

-- the same on each number of first parts
abbrev pub AreDifferent : List Part → List (List Value) → List ℕ → Type 0
AreDifferent parts rows counts = AreDifferentTo parts rows (length parts) counts

-- each index has as many different keys on each number of its first parts
abbrev pub AreAllDifferent : List Index → List (List Value) → List (List ℕ) → Type 0
AreAllDifferent [] rows [] = Unit {0}
AreAllDifferent (index ∷ indexes) rows (counts ∷ different) = AreDifferent index.parts rows counts × AreAllDifferent indexes rows different
AreAllDifferent _ rows _ = ⊥
