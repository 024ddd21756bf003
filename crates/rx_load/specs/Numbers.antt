-- The statistics of a table.
use Rattle.std.specs.Prelude.{ℕ, List, length, map}
use Rattle.std.specs.List.{range_with_len}
use Rattle.rx_value.specs.declared.values.Value.{Value}
use Rattle.rx_value.specs.declared.shapes.Part.{Part}
use Rattle.rx_index.specs.declared.indexed.Indexed.{Indexed}
use Rattle.rx_stats.specs.Computed.{per_key}
use Rattle.rx_load.specs.Loaded.{different}

-- the numbers of records per key of the first part of an index, of its first two, and so on
abbrev pub numbers_of : List Part → List (List Value) → List ℕ
numbers_of parts rows = map (λ n. per_key (length rows) (different parts rows n)) (range_with_len 1 (length parts))

-- The statistics of a table: per index its numbers of records per key.
abbrev pub statistics_of : Indexed → List (List ℕ)
statistics_of t = map (λ index. numbers_of index.parts t.rows) t.schema.indexes
