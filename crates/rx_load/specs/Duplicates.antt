-- The first duplicate of a file.
use Rattle.std.specs.Prelude.{◌≡◌, ℕ, ◌+◌, Bool, not, ◌&&◌, List, [], ◌∷◌, ◌++◌, length, position, Option, Some, None}
use Rattle.std.specs.List.{list_any}
use Rattle.rx_value.specs.declared.values.Value.{Value}
use Rattle.rx_value.specs.declared.shapes.Index.{Index}
use Rattle.rx_value.specs.declared.shapes.Schema.{Schema}
use Rattle.rx_value.specs.Keys.{key_of}
use Rattle.rx_index.specs.declared.faults.IndexFault.{IndexFault}
use Rattle.rx_index.specs.declared.faults.IndexFault.TheVariants.{DuplicateKey, NoMemory}
use Rattle.rx_index.specs.Duplicates.{is_null}
use Rattle.rx_group.specs.Classes.{same_values}

-- a row of a file, from 0, that has the key of an earlier one, and the index by its number
pub record Duplicate : Type 0 where
  pub index : ℕ
  pub row : ℕ

-- a row has the key of an earlier one on an index that is unique, without NULL
abbrev pub repeats : List (List Value) → List Value → Index → Bool
repeats earlier row index =
    index.unique && (not (list_any is_null (key_of index.parts row)) && list_any (λ first. same_values (key_of index.parts first) (key_of index.parts row)) earlier)

-- the first row that repeats a key, of those that follow the earlier ones
abbrev pub duplicate_behind : List Index → List (List Value) → List (List Value) → Option Duplicate
duplicate_behind indexes earlier [] = None
duplicate_behind indexes earlier (row ∷ rows) = elim (position (repeats earlier row) indexes) [
  | Some index ↦ Some (record { index = index; row = length earlier })
  | None ↦ duplicate_behind indexes (earlier ++ row ∷ []) rows
]

-- The first row that has the key of an earlier one on a unique index, without NULL, and the first such index for it.
abbrev pub first_duplicate : Schema → List (List Value) → Option Duplicate
first_duplicate schema file = duplicate_behind schema.indexes [] file

-- why a file makes no table: its first duplicate, rows being numbered from 1; want of memory is free
abbrev pub IsFault : Schema → List (List Value) → IndexFault → Type 0
IsFault schema file (DuplicateKey index row) = (place : ℕ) × (row ≡ place + 1) × (first_duplicate schema file ≡ Some (record { index = index; row = place }))
IsFault schema file NoMemory = Unit {0}
