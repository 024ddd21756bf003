-- Rows in the order of their ids, and the entries of indexes over them.
use Rattle.std.specs.Prelude.{◌≡◌, ℕ, ◌≤◌, Bool, true, false, List, [], ◌∷◌, length, Some, None, slice_get, unwrap_or}
use Rattle.std.specs.declared.cmp.Ordering.{Ordering}
use Rattle.std.specs.Ordering.{ordering_then, nat_cmp}
use Rattle.std.specs.List.{range_with_len}
use Rattle.std.specs.List.Sorted.{IsPermutation, IsSorted}
use Rattle.rx_value.specs.declared.values.Value.{Value}
use Rattle.rx_value.specs.declared.shapes.Part.{Part}
use Rattle.rx_value.specs.declared.shapes.Index.{Index}
use Rattle.rx_value.specs.declared.shapes.Schema.{Schema}
use Rattle.rx_value.specs.Limits.{most_rows}
use Rattle.rx_value.specs.Keys.{key_of, key_cmp}
use Rattle.rx_index.specs.declared.indexed.Indexed.{Indexed}
use Rattle.rx_index.specs.Different.{AreAllDifferent}

-- the row with an id, without values where there is none
abbrev pub row_at : List (List Value) → ℕ → List Value
row_at rows id = unwrap_or (slice_get rows id) []

-- the key of an entry: that of the row with its id
abbrev pub entry_key : List Part → List (List Value) → ℕ → List Value
entry_key parts rows id = key_of parts (row_at rows id)

-- entries stand by key, and where keys are equal by rising id
abbrev pub entry_cmp : List Part → List (List Value) → ℕ → ℕ → Ordering
entry_cmp parts rows a b = ordering_then (key_cmp parts (entry_key parts rows a) (entry_key parts rows b)) (nat_cmp a b)

-- The entries of an index: each id once, in the order of entries.
pub record IsOrder (parts : List Part) (rows : List (List Value)) (ids : List ℕ) : Type 0 where
  pub each : IsPermutation (range_with_len 0 (length rows)) ids
  pub rising : IsSorted (entry_cmp parts rows) ids

-- each index has its entries
abbrev pub AreOrders : List Index → List (List Value) → List (List ℕ) → Type 0
AreOrders [] rows [] = Unit {0}
AreOrders (index ∷ indexes) rows (ids ∷ orders) = IsOrder index.parts rows ids × AreOrders indexes rows orders
AreOrders _ rows _ = ⊥

-- The same rows, by their keys on these parts.
pub record IsByKey (parts : List Part) (file rows : List (List Value)) : Type 0 where
  pub same : IsPermutation file rows
  pub rising : IsSorted (λ r s. key_cmp parts (key_of parts r) (key_of parts s)) rows

-- rows by their keys on the first index where it is primary, else as in the file
abbrev pub IsByPrimary : Bool → List Part → List (List Value) → List (List Value) → Type 0
IsByPrimary true parts file rows = IsByKey parts file rows
IsByPrimary false parts file rows = rows ≡ file

-- rows in the order of their ids: by primary key where there is one, which is the first index, else as in the file
abbrev pub IsInIdOrder : List Index → List (List Value) → List (List Value) → Type 0
IsInIdOrder [] file rows = rows ≡ file
IsInIdOrder (index ∷ others) file rows = IsByPrimary index.primary index.parts file rows

-- A table with its entries: few rows, and per index the entries and how many different keys there are.
pub record IsEntered (t : Indexed) : Type 0 where
  pub few : length t.rows ≤ most_rows
  pub orders : AreOrders t.schema.indexes t.rows t.orders
  pub different : AreAllDifferent t.schema.indexes t.rows t.different

-- the parts of an index by number
abbrev pub parts_at : Indexed → ℕ → List Part
parts_at t n = elim (slice_get t.schema.indexes n) [ Some index ↦ index.parts | None ↦ [] ]

-- the entries of an index by number
abbrev pub ids_at : Indexed → ℕ → List ℕ
ids_at t n = unwrap_or (slice_get t.orders n) []

-- how many different keys an index by number has on its first part, on its first two, and so on
abbrev pub different_at : Indexed → ℕ → List ℕ
different_at t n = unwrap_or (slice_get t.different n) []

-- What is made of a schema and the rows of a file.
pub record IsIndexed (schema : Schema) (file : List (List Value)) (t : Indexed) : Type 0 where
  pub schema_is : t.schema ≡ schema
  pub rows_are : IsInIdOrder schema.indexes file t.rows
  pub entered : IsEntered t
