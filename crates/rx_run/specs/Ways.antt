-- How a run hands out rows, and what it reads for each.
use Rattle.std.specs.Prelude.{ℕ, List, ◌⊎◌, All}
use Rattle.rx_value.specs.declared.values.Value.{Value}
use Rattle.rx_value.specs.declared.shapes.Schema.{Schema}
use Rattle.rx_aggregate.specs.Aggregates.{IsSmall}
use Rattle.rx_index.specs.declared.indexed.Indexed.{Indexed}
use Rattle.rx_index.specs.Entries.{row_at}
use Rattle.rx_store.specs.declared.tables.Counts.{Counts}
use Rattle.rx_store.specs.Tables.{Meaning, add_counts}
use Rattle.rx_store.specs.Stored.{no_counts}
use Rattle.rx_scan.specs.declared.ways.Way.{Way as ScanWay}
use Rattle.rx_scan.specs.Handed.{IsOfTypes}
use Rattle.rx_scan.specs.Runs.{handed as handed_by_scan, reads_for, HasIndexFor}

-- How a run hands out rows: as a scan does, the row with each id, or one row for each id.
pub data Way : Type 0 where
  scanned : ScanWay → Way
  by_id : Way
  made : List Value → Way

-- the row that is handed out for a place, or an id
abbrev pub handed : Way → Indexed → ℕ → List Value
handed (scanned way) t place = handed_by_scan way t place
handed by_id t id = row_at t.rows id
handed (made row) t id = row

-- what is read for so many rows
abbrev pub reads_each : Way → ℕ → Counts
reads_each (scanned way) n = reads_for way n
reads_each by_id n = record { seeks = 0; entries = 0; rows = n }
reads_each (made row) n = no_counts

-- what a way needs of a table: the index whose entries are read, and of a row that is made, no integer that no column can have
abbrev pub SuitsTable : Way → Meaning → Type 0
SuitsTable (scanned way) table = HasIndexFor way table
SuitsTable by_id table = Unit {0}
SuitsTable (made row) table = All IsSmall row

-- a row has values of the columns' types, or no integer that no column can have
abbrev pub IsOfTable : Schema → List Value → Type 0
IsOfTable schema row = IsOfTypes schema row ⊎ All IsSmall row

-- numbers as counts have them, each of which stays at its last value
abbrev pub counted : Counts → Counts
counted reads = add_counts reads no_counts
