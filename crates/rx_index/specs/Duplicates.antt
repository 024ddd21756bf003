-- Equal keys of unique indexes.
use Rattle.std.specs.Prelude.{◌≡◌, ℕ, ◌+◌, ◌<◌, ◌≤◌, Bool, true, false, List, length, Option, Some, None, slice_get}
use Rattle.std.specs.List.{list_any}
use Rattle.rx_value.specs.declared.values.Value.{Value}
use Rattle.rx_value.specs.declared.values.Value.TheVariants.{Null, Int, Text}
use Rattle.rx_value.specs.declared.shapes.Part.{Part}
use Rattle.rx_value.specs.declared.shapes.Index.{Index}
use Rattle.rx_value.specs.declared.shapes.Schema.{Schema}
use Rattle.rx_index.specs.declared.faults.IndexFault.{IndexFault}
use Rattle.rx_index.specs.declared.faults.IndexFault.TheVariants.{DuplicateKey, NoMemory}
use Rattle.rx_index.specs.Entries.{entry_key}

abbrev pub is_null : Value → Bool
is_null Null = true
is_null (Int n) = false
is_null (Text text) = false

-- a row of the file, numbered from 0, has the key of an earlier one, without NULL
pub record Repeats (parts : List Part) (file : List (List Value)) (row : ℕ) : Type 0 where
  pub there : row < length file
  pub full : list_any is_null (entry_key parts file row) ≡ false
  pub earlier : (first : ℕ) × (first < row) × (entry_key parts file first ≡ entry_key parts file row)

-- the least number with a property, or none where no number has it
abbrev pub IsFirst : (ℕ → Type 0) → Option ℕ → Type 0
IsFirst P None = (n : ℕ) → P n → ⊥
IsFirst P (Some first) = P first × ((n : ℕ) → P n → first ≤ n)

-- a row repeats a key of an index that is unique
abbrev pub RepeatsUnique : Index → List (List Value) → ℕ → Type 0
RepeatsUnique index file row = (index.unique ≡ true) × Repeats index.parts file row

-- a row repeats a key of the unique index with a number
abbrev pub Breaks : List Index → List (List Value) → ℕ → ℕ → Type 0
Breaks indexes file n row = (index : Index) × (slice_get indexes n ≡ Some index) × RepeatsUnique index file row

-- no row repeats a key of a unique index
abbrev pub IsFree : Schema → List (List Value) → Type 0
IsFree schema file = (n row : ℕ) → Breaks schema.indexes file n row → ⊥

-- The first row that repeats a key of a unique index, and the first such index for it.
pub record IsFirstBreak (indexes : List Index) (file : List (List Value)) (n row : ℕ) : Type 0 where
  pub breaks : Breaks indexes file n row
  pub first : (m other : ℕ) → Breaks indexes file m other → row ≤ other
  pub least : (m : ℕ) → Breaks indexes file m row → n ≤ m

-- why no table is made: the rows of a file are numbered from 1; want of memory is free
abbrev pub CausesFault : Schema → List (List Value) → IndexFault → Type 0
CausesFault schema file (DuplicateKey n row) = (place : ℕ) × (row ≡ place + 1) × IsFirstBreak schema.indexes file n place
CausesFault schema file NoMemory = Unit {0}
