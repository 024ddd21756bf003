-- What table scans, index scans and range scans read, and the rows that they hand out in order.
use Rattle.std.specs.Prelude.{ℕ, ◌*◌, Bool, true, false, List, [], ◌∷◌, length, map, filter, slice_get, slice_index_or, Some, None}
use Rattle.std.specs.List.{flat_map, sum_by, range_with_len}
use Rattle.rx_value.specs.declared.values.Value.{Value}
use Rattle.rx_value.specs.declared.ranges.KeyRange.{KeyRange}
use Rattle.rx_value.specs.declared.shapes.Schema.{Schema}
use Rattle.rx_value.specs.Keys.{holds}
use Rattle.rx_index.specs.declared.indexed.Indexed.{Indexed}
use Rattle.rx_index.specs.Entries.{row_at, entry_key, parts_at, ids_at}
use Rattle.rx_index.specs.Bounds.{index_keys, count_held}
use Rattle.rx_store.specs.declared.tables.Counts.{Counts}
use Rattle.rx_store.specs.Tables.{Meaning, WhereTold}
use Rattle.rx_cost.specs.declared.candidates.Kind.{Kind}
use Rattle.rx_cost.specs.declared.candidates.Kind.TheVariants.{Table, Index, Range}
use Rattle.rx_cost.specs.declared.candidates.Candidate.{Candidate}
use Rattle.rx_scan.specs.Handed.{entry_row}

-- the index of the first scan of a candidate
abbrev pub index_of : Candidate → ℕ
index_of candidate = elim candidate.scans [ scan ∷ others ↦ scan.index | [] ↦ 0 ]

-- the ranges of the first scan of a candidate
abbrev pub ranges_of : Candidate → List KeyRange
ranges_of candidate = elim candidate.scans [ scan ∷ others ↦ scan.ranges | [] ↦ [] ]

-- the index with a number is the primary key
abbrev pub is_primary : Schema → ℕ → Bool
is_primary schema n = elim (slice_get schema.indexes n) [ Some index ↦ index.primary | None ↦ false ]

-- ---- the rows in order

-- the entry of a row on an index, as it is handed out where no row is fetched
abbrev pub row_by_entry : Indexed → ℕ → ℕ → List Value
row_by_entry t n id = entry_row (length t.schema.columns) (parts_at t n) (entry_key (parts_at t n) t.rows id)

-- the ids of an index's entries in a range, in their order
abbrev pub ids_held : Indexed → ℕ → KeyRange → List ℕ
ids_held t n range = filter (λ id. holds range (entry_key (parts_at t n) t.rows id)) (ids_at t n)

-- the places of an index's entries in a range, in their order
abbrev pub places_held : Indexed → ℕ → KeyRange → List ℕ
places_held t n range = filter (λ place. holds range (slice_index_or (index_keys t n) place [])) (range_with_len 0 (length (index_keys t n)))

-- a table scan: the rows by id
abbrev pub table_rows : Indexed → List (List Value)
table_rows t = t.rows

-- an index scan: the entries in order, NULL in every column that is no part
abbrev pub index_rows : Indexed → ℕ → List (List Value)
index_rows t n = map (row_by_entry t n) (ids_at t n)

-- a range scan of the primary key, whose places are row ids: for each range its rows by id
abbrev pub primary_rows : Indexed → ℕ → List KeyRange → List (List Value)
primary_rows t n ranges = map (row_at t.rows) (flat_map (places_held t n) ranges)

-- a range scan of an index that has all columns of the query: for each range its entries in order, NULL in every column that is no part
abbrev pub covering_rows : Indexed → ℕ → List KeyRange → List (List Value)
covering_rows t n ranges = map (row_by_entry t n) (flat_map (ids_held t n) ranges)

-- any other range scan: for each range the rows of its entries in order
abbrev pub fetched_rows : Indexed → ℕ → List KeyRange → List (List Value)
fetched_rows t n ranges = map (row_at t.rows) (flat_map (ids_held t n) ranges)

-- a range scan, by whether its index is primary, and whether it has all columns of the query
abbrev pub range_rows : Bool → Bool → Indexed → ℕ → List KeyRange → List (List Value)
range_rows true index_only t n ranges = primary_rows t n ranges
range_rows false true t n ranges = covering_rows t n ranges
range_rows false false t n ranges = fetched_rows t n ranges

-- the rows in the order of a kind of candidate, over a told table; the kinds that aren't scans of one index or of the table have none here
abbrev pub rows_of_kind : Kind → Candidate → Indexed → List (List Value)
rows_of_kind Table candidate t = table_rows t
rows_of_kind Index candidate t = index_rows t (index_of candidate)
rows_of_kind Range candidate t = range_rows (is_primary t.schema (index_of candidate)) candidate.index_only t (index_of candidate) (ranges_of candidate)
rows_of_kind _ candidate t = []

-- the rows in the order in which a kind of candidate hands them out, and none where they aren't told
abbrev pub visited_of : Kind → Candidate → Meaning → List (List Value)
visited_of kind candidate table = elim table.told [ Some t ↦ rows_of_kind kind candidate t | None ↦ [] ]

-- the rows in the order in which a candidate hands them out
abbrev pub visited : Candidate → Meaning → List (List Value)
visited candidate table = visited_of candidate.kind candidate table

-- ---- what is read

-- how many entries the ranges hold, a range that stands twice counted twice
abbrev pub count_in_ranges : Indexed → ℕ → List KeyRange → ℕ
count_in_ranges t n ranges = sum_by (λ range. count_held range (index_keys t n)) ranges

-- the same of any table, and none where it isn't told
abbrev pub entries_in : Meaning → ℕ → List KeyRange → ℕ
entries_in table n ranges = elim table.told [ Some t ↦ count_in_ranges t n ranges | None ↦ 0 ]

-- a table scan reads each row once
abbrev pub table_visits : Meaning → Counts
table_visits table = record { seeks = 0; entries = 0; rows = table.count }

-- an index scan reads each entry once
abbrev pub index_visits : Meaning → Counts
index_visits table = record { seeks = 0; entries = table.count; rows = 0 }

-- a range scan makes two seeks for each range, and reads for each entry in it: the row alone on the primary key, else the entry, and the row where the index has not all columns
abbrev pub range_visits : Bool → Bool → ℕ → ℕ → Counts
range_visits true index_only ranges held = record { seeks = 2 * ranges; entries = 0; rows = held }
range_visits false true ranges held = record { seeks = 2 * ranges; entries = held; rows = 0 }
range_visits false false ranges held = record { seeks = 2 * ranges; entries = held; rows = held }

-- what a kind of candidate reads; the kinds that aren't scans of one index or of the table read nothing here
abbrev pub visits_of : Kind → Candidate → Meaning → Counts
visits_of Table candidate table = table_visits table
visits_of Index candidate table = index_visits table
visits_of Range candidate table =
    range_visits (is_primary table.schema (index_of candidate)) candidate.index_only (length (ranges_of candidate)) (entries_in table (index_of candidate) (ranges_of candidate))
visits_of _ candidate table = record { seeks = 0; entries = 0; rows = 0 }

-- what a candidate reads
abbrev pub visits : Candidate → Meaning → Counts
visits candidate table = visits_of candidate.kind candidate table

-- what a kind of candidate reads is known: of a range scan only where the table is told
abbrev pub WhereCounted : Kind → Meaning → Type 0 → Type 0
WhereCounted Range table P = WhereTold table P
WhereCounted _ table P = P
