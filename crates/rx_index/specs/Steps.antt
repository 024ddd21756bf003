-- What the steps of a sort compare.
use Rattle.std.specs.Prelude.{◌≡◌, ℕ, ◌-◌, ◌<◌, ◌≤◌, min, Bool, true, false, not, ◌&&◌, List, Option, Some, None, slice_get, unwrap_or, length}
use Rattle.std.specs.declared.cmp.Ordering.{Ordering}
use Rattle.std.specs.Ordering.{ordering_then, nat_cmp, is_eq}
use Rattle.std.specs.List.{list_any}
use Rattle.std.proofs.Common.{get_or}
use Rattle.rx_value.specs.declared.values.Value.{Value}
use Rattle.rx_value.specs.declared.ranges.Rest.{Rest}
use Rattle.rx_value.specs.declared.shapes.Part.{Part}
use Rattle.rx_value.specs.Keys.{key_of, key_cmp, is_before}
use Rattle.rx_index.specs.Entries.{entry_key}
use Rattle.rx_index.specs.Duplicates.{is_null}

-- the row with an id, and another where there is none
abbrev pub row_or : List Value → List (List Value) → ℕ → List Value
row_or other rows id = unwrap_or (slice_get rows id) other

-- the order of entries, where an id without a row has the key of another row
abbrev pub cmp_with : List Value → List Part → List (List Value) → ℕ → ℕ → Ordering
cmp_with other parts rows a b = ordering_then (key_cmp parts (key_of parts (row_or other rows a)) (key_of parts (row_or other rows b))) (nat_cmp a b)

-- there is a row with the id, and its key stands before a bound
abbrev pub stands_before : List Value → Rest → List Part → List (List Value) → ℕ → Bool
stands_before points rest parts rows id = elim (slice_get rows id) [ Some row ↦ is_before points rest parts (key_of parts row) | None ↦ false ]

-- the second of two entries has the key of the first, without NULL
abbrev pub pairs_up : List Part → List (List Value) → ℕ → ℕ → Bool
pairs_up parts rows a b = is_eq (key_cmp parts (entry_key parts rows a) (entry_key parts rows b)) && not (list_any is_null (entry_key parts rows b))

-- the lesser of a number and the one that there may be
abbrev pub least_of : Option ℕ → ℕ → ℕ
least_of None row = row
least_of (Some first) row = min first row

-- a row is the second of two neighbours that pair up, before this place
pub record IsFound (parts : List Part) (rows : List (List Value)) (ids : List ℕ) (place row : ℕ) : Type 0 where
  pub at : ℕ
  pub behind : 1 ≤ at
  pub before : at < place
  pub within : at < length ids
  pub row_is : row ≡ get_or ids at 0
  pub pairs : pairs_up parts rows (get_or ids (at - 1) 0) row ≡ true
