-- What a table in memory holds.
use Rattle.std.specs.Prelude.{ℕ, false, true, List, length, All, Some}
use Rattle.rx_value.specs.Shape.{IsSchema, FitsRow}
use Rattle.rx_index.specs.declared.indexed.Indexed.{Indexed}
use Rattle.rx_index.specs.Entries.{IsEntered}
use Rattle.rx_stats.specs.Statistics.{IsStatistics}
use Rattle.rx_store.specs.declared.tables.Counts.{Counts}
use Rattle.rx_store.specs.Tables.{Meaning}

-- a table with its entries, its statistics, and what was read of it
pub record Stored : Type 0 where
  pub table : Indexed
  pub statistics : List (List ℕ)
  pub counts : Counts

-- nothing was read yet
abbrev pub no_counts : Counts
no_counts = record { seeks = 0; entries = 0; rows = 0 }

-- what a table in memory means: all is told, and no read fails
abbrev pub in_memory : Indexed → List (List ℕ) → Meaning
in_memory t statistics =
    record { schema = t.schema; statistics = statistics; told = Some t; count = length t.rows; flawed = λ at. false; sure = true }

-- what may be a table in memory: rows that fit the shape, with their entries and statistics
pub record IsStorable (t : Indexed) (numbers : List (List ℕ)) : Type 0 where
  pub limits : IsSchema t.schema
  pub entered : IsEntered t
  pub fit : All (FitsRow t.schema) t.rows
  pub statistics : IsStatistics t.schema numbers
