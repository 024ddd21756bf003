-- What a table means, and what its calls give, count and leave.
use Rattle.std.specs.Prelude.{Bool, true, ◌≡◌, ℕ, ◌<◌, ◌≤◌, List, [], length, slice_get, Option, Some, None, IfSome, IfNone, All}
use Rattle.rx_value.specs.declared.values.Value.{Value}
use Rattle.rx_value.specs.declared.shapes.Schema.{Schema}
use Rattle.rx_value.specs.declared.ranges.Rest.{Rest}
use Rattle.rx_value.specs.Limits.{most_rows}
use Rattle.rx_value.specs.Shape.{IsSchema, FitsRow}
use Rattle.rx_value.specs.Counting.{rise, Rose}
use Rattle.rx_index.specs.declared.indexed.Indexed.{Indexed}
use Rattle.rx_index.specs.Entries.{IsEntered, entry_key, parts_at, ids_at}
use Rattle.rx_index.specs.Bounds.{count_before, index_keys}
use Rattle.rx_stats.specs.Statistics.{IsStatistics}
use Rattle.rx_store.specs.declared.tables.Counts.{Counts}
use Rattle.rx_store.specs.declared.tables.Entry.{Entry}
use Rattle.rx_store.specs.declared.tables.TableFault.{TableFault}
use Rattle.rx_store.specs.declared.tables.TableFault.TheVariants.{ReadFault, Damaged, NoMemory}
use Rattle.rx_store.specs.FittingKeys.{FitsKey}

-- What a table means and no call changes: its shape and its statistics; its rows in the order of their ids and its entries, where told;
-- the number of its rows, told or not; the offsets at which nothing of a table stands; and whether no read can fail.
pub record Meaning : Type 0 where
  pub schema : Schema
  pub statistics : List (List ℕ)
  pub told : Option Indexed
  pub count : ℕ
  pub flawed : ℕ → Bool
  pub sure : Bool

-- rows and entries that a table tells: of its shape, so many as it says, each fitting, and each index in order
pub record IsTold (table : Meaning) (t : Indexed) : Type 0 where
  pub schema_is : t.schema ≡ table.schema
  pub count_is : length t.rows ≡ table.count
  pub entered : IsEntered t
  pub fit : All (FitsRow t.schema) t.rows

-- A table keeps the limits, whether its rows are told or not, and what it tells is a table of its shape.
pub record IsMeaning (table : Meaning) : Type 0 where
  pub limits : IsSchema table.schema
  pub statistics : IsStatistics table.schema table.statistics
  pub few : table.count ≤ most_rows
  pub told : IfSome table.told (IsTold table)

-- the rows of a table, and none where they aren't told
abbrev pub rows_in : Meaning → List (List Value)
rows_in table = elim table.told [ Some t ↦ t.rows | None ↦ [] ]

-- this holds where the rows are told
abbrev pub WhereTold : Meaning → Type 0 → Type 0
WhereTold table P = IfSome table.told (λ t. P)

-- an index is there
abbrev pub HasIndex : Meaning → ℕ → Type 0
HasIndex table index = index < length table.schema.indexes

-- where it is told, so many entries of an index stand before a bound
abbrev pub IsPlace : Meaning → ℕ → List Value → Rest → ℕ → Type 0
IsPlace table index points rest place =
    IfSome table.told (λ t. place ≡ count_before points rest (parts_at t index) (index_keys t index))

-- where it is told, the entry at a place of an index has this id
abbrev pub IsEntryId : Meaning → ℕ → ℕ → ℕ → Type 0
IsEntryId table index place id = IfSome table.told (λ t. slice_get (ids_at t index) place ≡ Some id)

-- where it is told, the key of the row with an id on an index is this
abbrev pub IsKey : Meaning → ℕ → ℕ → List Value → Type 0
IsKey table index id key = IfSome table.told (λ t. key ≡ entry_key (parts_at t index) t.rows id)

-- where it is told, this is the entry at a place of an index
abbrev pub IsEntry : Meaning → ℕ → ℕ → Entry → Type 0
IsEntry table index place entry = IsEntryId table index place entry.id × IsKey table index entry.id entry.key

-- an entry of an index of this table, told or not: the id of a row, and for each part a value that fits it
pub record FitsEntry (table : Meaning) (index : ℕ) (entry : Entry) : Type 0 where
  pub id : entry.id < table.count
  pub key : FitsKey table.schema index entry.key

-- where it is told, the row with an id is this
abbrev pub IsRow : Meaning → ℕ → List Value → Type 0
IsRow table id row = IfSome table.told (λ t. slice_get t.rows id ≡ Some row)

-- What the calls of a table raise: what was read, how often a read failed, and how often something damaged was read.
pub record Tally : Type 0 where
  pub counts : Counts
  pub faults : ℕ
  pub damages : ℕ

-- the counts after one more seek
abbrev pub with_seek : Counts → Counts
with_seek c = record c { seeks = rise 1 c.seeks }

-- the counts after one more entry
abbrev pub with_entry : Counts → Counts
with_entry c = record c { entries = rise 1 c.entries }

-- the counts after n more rows
abbrev pub with_rows : ℕ → Counts → Counts
with_rows n c = record c { rows = rise n c.rows }

-- the counts after one more row
abbrev pub with_row : Counts → Counts
with_row = with_rows 1

-- the counts after these more
abbrev pub add_counts : Counts → Counts → Counts
add_counts more counts = record { seeks = rise more.seeks counts.seeks; entries = rise more.entries counts.entries; rows = rise more.rows counts.rows }

-- Why a call stops: a read fails only where the count of faults rose, and never where the table is sure;
-- damage comes only where its count rose, at an offset that is flawed; want of memory is free.
abbrev pub Caused : Meaning → Tally → Tally → TableFault → Type 0
Caused table old new ReadFault = Rose old.faults new.faults × (table.sure ≡ true → ⊥)
Caused table old new (Damaged at) = Rose old.damages new.damages × (table.flawed at ≡ true)
Caused table old new NoMemory = Unit {0}

-- a fault of reading, and no want of memory
abbrev pub IsOfReading : TableFault → Type 0
IsOfReading ReadFault = Unit {0}
IsOfReading (Damaged at) = Unit {0}
IsOfReading NoMemory = ⊥

-- What is owed of a table by calls that all answered, and by those of which the last stopped with a fault: what the table means and what
-- it keeps by its own law; what it spends by its own law where all answered; no count falls, no read fails where the table is sure, and a
-- stop has its cause.
pub record Keeps {S : Type 0} (means : S → Meaning) (tally : S → Tally) (kept spent : S → S → Type 0)
    (stop : Option TableFault) (old new : S) : Type 0 where
  pub means_stays : means new ≡ means old
  pub kept_so : kept old new
  pub spent_so : IfNone stop (spent old new)
  pub faults_later : (tally old).faults ≤ (tally new).faults
  pub damages_later : (tally old).damages ≤ (tally new).damages
  pub sure : (means old).sure ≡ true → (tally new).faults ≡ (tally old).faults
  pub cause : IfSome stop (Caused (means old) (tally old) (tally new))

-- A law of two states of a table: it holds from each state to itself, and over a middle state.
pub record IsChained {S : Type 0} (law : S → S → Type 0) : Type 0 where
  pub same : (t : S) → law t t
  pub chain : (a b c : S) → law a b → law b c → law a c
