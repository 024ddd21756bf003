-- A scan that runs: the places that are left, what is handed out for each, and what is read for it.
use Rattle.std.specs.Prelude.{◌≡◌, ℕ, ◌<◌, ◌*◌, ◌-◌, Bool, true, false, List, [], ◌∷◌, length, map, slice_index, Option, Some, None, IfSome, All}
use Rattle.std.specs.List.{range_with_len}
use Rattle.rx_value.specs.declared.values.Value.{Value}
use Rattle.rx_value.specs.declared.shapes.Schema.{Schema}
use Rattle.rx_index.specs.declared.indexed.Indexed.{Indexed}
use Rattle.rx_index.specs.Entries.{row_at, ids_at}
use Rattle.rx_store.specs.declared.tables.Counts.{Counts}
use Rattle.rx_store.specs.Tables.{Meaning, HasIndex}
use Rattle.rx_cost.specs.declared.candidates.Kind.{Kind}
use Rattle.rx_cost.specs.declared.candidates.Kind.TheVariants.{Index, Range}
use Rattle.rx_cost.specs.declared.candidates.Candidate.{Candidate}
use Rattle.rx_scan.specs.declared.ways.Way.{Way}
use Rattle.rx_scan.specs.declared.ways.Way.TheVariants.{Row, EntryAndRow, Entry}
use Rattle.rx_scan.specs.declared.places.Extent.{Extent}
use Rattle.rx_scan.specs.Visits.{row_by_entry, index_of, ranges_of, is_primary, visited_of, visits_of, visited, visits, WhereCounted}

-- how a scan hands out rows, and the places of which it has still to do so, in order
pub record Run : Type 0 where
  pub way : Way
  pub left : List ℕ

-- the row that is handed out for a place
abbrev pub handed : Way → Indexed → ℕ → List Value
handed Row t place = row_at t.rows place
handed (EntryAndRow n) t place = row_at t.rows (slice_index (ids_at t n) place)
handed (Entry n) t place = row_by_entry t n (slice_index (ids_at t n) place)

-- the rows that are left
abbrev pub rows_left : Run → Indexed → List (List Value)
rows_left run t = map (handed run.way t) run.left

-- what is read for so many rows
abbrev pub reads_for : Way → ℕ → Counts
reads_for Row n = record { seeks = 0; entries = 0; rows = n }
reads_for (EntryAndRow index) n = record { seeks = 0; entries = n; rows = n }
reads_for (Entry index) n = record { seeks = 0; entries = n; rows = 0 }

-- what is read for the rows that are left
abbrev pub reads_left : Run → Counts
reads_left run = reads_for run.way (length run.left)

-- the index that entries are read of is there
abbrev pub HasIndexFor : Way → Meaning → Type 0
HasIndexFor Row table = Unit {0}
HasIndexFor (EntryAndRow n) table = HasIndex table n
HasIndexFor (Entry n) table = HasIndex table n

-- a run over a table: its index is there, and so is what stands at the places that are left
pub record IsRunOver (table : Meaning) (run : Run) : Type 0 where
  pub index : HasIndexFor run.way table
  pub places : All (λ place. place < table.count) run.left

-- no row or one was handed out: none exactly where none was left, else that of the first place, which is left no more
abbrev pub HandsOut : Meaning → Run → Run → Option (List Value) → Type 0
HandsOut table old new None = (old.left ≡ []) × (new ≡ old)
HandsOut table old new (Some row) =
    (place : ℕ) × (old.left ≡ place ∷ new.left) × (new.way ≡ old.way) × IfSome table.told (λ t. row ≡ handed old.way t place)

-- how many rows were handed out
abbrev pub count_handed : Option (List Value) → ℕ
count_handed None = 0
count_handed (Some row) = 1

-- how a range scan hands out rows: by id on the primary key, by entries where its index has all columns, else by entries and their rows
abbrev pub range_way : Bool → Bool → ℕ → Way
range_way true index_only n = Row
range_way false true n = Entry n
range_way false false n = EntryAndRow n

-- how a kind of candidate hands out rows
abbrev pub way_of_kind : Kind → Schema → Candidate → Way
way_of_kind Index schema candidate = Entry (index_of candidate)
way_of_kind Range schema candidate = range_way (is_primary schema (index_of candidate)) candidate.index_only (index_of candidate)
way_of_kind _ schema candidate = Row

-- the seeks that open a kind of candidate: two for each range
abbrev pub seeks_to_open : Kind → Candidate → ℕ
seeks_to_open Range candidate = 2 * length (ranges_of candidate)
seeks_to_open _ candidate = 0

-- what a run reads from its opening to its end, where it was opened by so many seeks
abbrev pub reads_in_all : ℕ → Run → Counts
reads_in_all seeks run = record (reads_left run) { seeks = seeks }

-- the places from one on, before another
abbrev pub places_between : ℕ → ℕ → List ℕ
places_between begin end = range_with_len begin (end - begin)

-- the places of an extent
abbrev pub extent_places : Extent → List ℕ
extent_places extent = places_between extent.begin extent.end

-- What is opened for a kind of candidate: it hands out rows in that kind's way, over what is there, in that kind's order, and reads what that
-- kind reads from the opening to the end.
pub record IsOpenedAs (kind : Kind) (table : Meaning) (candidate : Candidate) (run : Run) : Type 0 where
  pub way : run.way ≡ way_of_kind kind table.schema candidate
  pub over : IsRunOver table run
  pub rows : IfSome table.told (λ t. rows_left run t ≡ visited_of kind candidate table)
  pub visits : WhereCounted kind table (visits_of kind candidate table ≡ reads_in_all (seeks_to_open kind candidate) run)

-- the run that is opened for a candidate
abbrev pub IsOpened : Meaning → Candidate → Run → Type 0
IsOpened table candidate run = IsOpenedAs candidate.kind table candidate run

-- a run from one state to its end hands out these rows, one call after the other
abbrev pub HandsOutAll : Meaning → Run → List (List Value) → Type 0
HandsOutAll table run [] = HandsOut table run run None
HandsOutAll table run (row ∷ rows) = (next : Run) × HandsOut table run next (Some row) × HandsOutAll table next rows

-- A run from its opening to its end hands out the rows that its candidate visits, and reads in all what the candidate reads.
pub record HandsOutVisited (table : Meaning) (candidate : Candidate) (run : Run) (rows : List (List Value)) : Type 0 where
  pub told : IfSome table.told (λ t. rows ≡ visited candidate table)
  pub reads : WhereCounted candidate.kind table (visits candidate table ≡ record (reads_for run.way (length rows)) { seeks = seeks_to_open candidate.kind candidate })
