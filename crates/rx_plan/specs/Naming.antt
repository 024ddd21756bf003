-- The columns that a question names, the indexes that have them all, and those that it may use.
use Rattle.std.specs.Prelude.{ℕ, Bool, false, not, ◌&&◌, nat_eq, List, length, Some, None, slice_get, unwrap_or}
use Rattle.std.specs.List.{list_any, list_all, filter, range_with_len}
use Rattle.std.specs.Option.{is_none}
use Rattle.rx_value.specs.declared.shapes.Part.{Part}
use Rattle.rx_value.specs.declared.shapes.Schema.{Schema}
use Rattle.rx_query.specs.Steps.{Question}
use Rattle.rx_estimate.specs.Estimates.{parts_in}
use Rattle.rx_named.specs.Naming.{names}

-- the columns of a table that a question names, in order
abbrev pub columns_named : Question → Schema → List ℕ
columns_named q schema = filter (names q) (range_with_len 0 (length schema.columns))

-- a column is a part of an index
abbrev pub is_part : List Part → ℕ → Bool
is_part parts column = list_any (λ part. nat_eq part.column column) parts

-- no part of an index has a prefix length
abbrev pub are_whole : List Part → Bool
are_whole parts = list_all (λ part. is_none part.chars) parts

-- an index has these columns: each is a part of it, and no part has a prefix length
abbrev pub has_columns : List ℕ → List Part → Bool
has_columns columns parts = are_whole parts && list_all (is_part parts) columns

-- an index covers a question: it has all columns of the table that the question names
abbrev pub covers : Question → Schema → ℕ → Bool
covers q schema index = has_columns (columns_named q schema) (parts_in schema index)

-- an index is the primary key
abbrev pub is_primary : Schema → ℕ → Bool
is_primary schema index = elim (slice_get schema.indexes index) [ Some x ↦ x.primary | None ↦ false ]

-- entries alone answer a question: the index isn't the primary key, and covers it
abbrev pub is_index_only : Question → Schema → ℕ → Bool
is_index_only q schema index = not (is_primary schema index) && covers q schema index

-- the hints of a question leave an index
abbrev pub is_usable : Question → ℕ → Bool
is_usable q index = unwrap_or (slice_get q.usable index) false

-- the numbers of all indexes, in order
abbrev pub index_numbers : Schema → List ℕ
index_numbers schema = range_with_len 0 (length schema.indexes)
