-- How many rows ranges of an index are taken to have, and what is read to know it.
use Rattle.std.specs.Prelude.{ℕ, zero, suc, ◌≡◌, min, Bool, not, ◌&&◌, nat_eq, nat_le, if◌then◌else◌, List, [], count_by, length, slice_get, slice_index, unwrap_or, Some, None, IfSome}
use Rattle.std.specs.List.{sum_by}
use Rattle.std.specs.Option.{is_none}
use Rattle.rx_value.specs.declared.values.Value.{Value}
use Rattle.rx_value.specs.declared.ranges.KeyRange.{KeyRange}
use Rattle.rx_value.specs.declared.shapes.Part.{Part}
use Rattle.rx_value.specs.declared.shapes.Schema.{Schema}
use Rattle.rx_value.specs.Counting.{rise}
use Rattle.rx_index.specs.Bounds.{count_held, index_keys}
use Rattle.rx_store.specs.declared.tables.Counts.{Counts}
use Rattle.rx_store.specs.Tables.{Meaning}

-- an equality range has points alone, and no span
abbrev pub is_equality : KeyRange → Bool
is_equality range = is_none range.last

-- how many of the ranges are equality ranges
abbrev pub equalities_in : List KeyRange → ℕ
equalities_in ranges = count_by is_equality ranges

-- statistics stand in for dives into equality ranges: there is a limit, and so many of these
abbrev pub uses_statistics : ℕ → List KeyRange → Bool
uses_statistics limit ranges = not (nat_eq limit 0) && nat_le limit (equalities_in ranges)

-- a range is dived, that is, its entries are counted: each is but an equality range for which statistics stand in
abbrev pub is_dived : Bool → KeyRange → Bool
is_dived by_statistics range = not (by_statistics && is_equality range)

-- how many rows have one key on the first parts of an index, by its statistics: all rows on none of its parts, and none on parts that it hasn't
abbrev pub records_per_key : ℕ → List ℕ → ℕ → ℕ
records_per_key count numbers zero = count
records_per_key count numbers (suc part) = slice_index numbers part

-- how many rows a range is taken to have: those that it holds where it is dived, else as many as there are for one key of its points
abbrev pub rows_taken : Bool → ℕ → List ℕ → List (List Value) → KeyRange → ℕ
rows_taken by_statistics count numbers keys range = if is_dived by_statistics range then count_held range keys else records_per_key count numbers (length range.points)

-- The estimate of ranges by a limit on dives, over a table of so many rows, with the statistics and the keys of the index: what each is taken to
-- have, summed, and no more than there are rows.
abbrev pub estimate_of : ℕ → ℕ → List ℕ → List (List Value) → List KeyRange → ℕ
estimate_of limit count numbers keys ranges = min count (sum_by (rows_taken (uses_statistics limit ranges) count numbers keys) ranges)

-- the parts of an index by number
abbrev pub parts_in : Schema → ℕ → List Part
parts_in schema index = elim (slice_get schema.indexes index) [ Some x ↦ x.parts | None ↦ [] ]

-- the statistics of an index by number
abbrev pub numbers_at : List (List ℕ) → ℕ → List ℕ
numbers_at statistics index = unwrap_or (slice_get statistics index) []

-- where the table is told, so many rows are the estimate of ranges of an index
abbrev pub IsEstimate : Meaning → ℕ → ℕ → List KeyRange → ℕ → Type 0
IsEstimate table index limit ranges rows =
    IfSome table.told (λ t. rows ≡ estimate_of limit table.count (numbers_at table.statistics index) (index_keys t index) ranges)

-- how many seeks are made for a range: two where it is dived
abbrev pub seeks_for : Bool → KeyRange → ℕ
seeks_for by_statistics range = if is_dived by_statistics range then 2 else 0

-- how many seeks the estimate of ranges takes
abbrev pub dive_seeks : ℕ → List KeyRange → ℕ
dive_seeks limit ranges = sum_by (seeks_for (uses_statistics limit ranges)) ranges

-- the counts after n more seeks
abbrev pub with_seeks : ℕ → Counts → Counts
with_seeks n counts = record counts { seeks = rise n counts.seeks }
