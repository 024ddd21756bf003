-- The first duplicate among the first indexes.
use Rattle.std.specs.Prelude.{ℕ, ◌<◌, ◌≤◌, true, false, List, Option, Some, None, nat_le}
use Rattle.rx_value.specs.declared.values.Value.{Value}
use Rattle.rx_value.specs.declared.shapes.Index.{Index}
use Rattle.rx_index.specs.declared.duplicates.Duplicate.{Duplicate}
use Rattle.rx_index.specs.declared.duplicates.Entered.{Entered}
use Rattle.rx_index.specs.Entries.{IsOrder}
use Rattle.rx_index.specs.Different.{AreDifferent}
use Rattle.rx_index.specs.Duplicates.{IsFirst, Breaks, RepeatsUnique}

-- what is entered on one index: its entries, the first row that repeats a key where it is unique, and how many different keys there are
pub record IsEnteredOn (index : Index) (rows : List (List Value)) (e : Entered) : Type 0 where
  pub order : IsOrder index.parts rows e.ids
  pub repeat : IsFirst (RepeatsUnique index rows) e.repeat
  pub different : AreDifferent index.parts rows e.different

-- the first row that repeats a key of one of the first n indexes, and the first such index for it; or none
abbrev pub IsSoonest : List Index → List (List Value) → ℕ → Option Duplicate → Type 0
IsSoonest indexes file n None = (m row : ℕ) → m < n → Breaks indexes file m row → ⊥
IsSoonest indexes file n (Some d) =
    (d.index < n) × Breaks indexes file d.index d.row
    × ((m row : ℕ) → m < n → Breaks indexes file m row → d.row ≤ row)
    × ((m : ℕ) → m < n → Breaks indexes file m d.row → d.index ≤ m)

-- a duplicate that stays before a row
abbrev pub before_row : Duplicate → ℕ → ℕ → Duplicate
before_row d index row = elim (nat_le d.row row) [ true ↦ d | false ↦ record { index = index; row = row } ]

-- the sooner of a duplicate and the row of an index, the former where they are equal
abbrev pub sooner : Option Duplicate → ℕ → Option ℕ → Option Duplicate
sooner first index None = first
sooner None index (Some row) = Some (record { index = index; row = row })
sooner (Some d) index (Some row) = Some (before_row d index row)
