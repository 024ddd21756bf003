-- What the steps of a run make.
use Rattle.std.specs.Prelude.{◌≡◌, ℕ, ◌*◌, if◌then◌else◌, List, [], ◌∷◌, Option, Some, None, IfSome}
use Rattle.rx_value.specs.declared.values.Value.{Value}
use Rattle.rx_value.specs.declared.shapes.Schema.{Schema}
use Rattle.rx_store.specs.Stored.{no_counts}
use Rattle.rx_store.specs.Tables.{Meaning}
use Rattle.rx_cost.specs.declared.candidates.Candidate.{Candidate}
use Rattle.rx_scan.specs.Handed.{IsOfTypes}
use Rattle.rx_scan.specs.Runs.{reads_for, way_of_kind, seeks_to_open}
use Rattle.rx_merge.specs.Merged.{count_ranges}
use Rattle.rx_merge.specs.Runs.{Merging}
use Rattle.rx_run.specs.declared.reads.Reads.{Reads}
use Rattle.rx_run.specs.Made.{made_row}
use Rattle.rx_run.specs.Reads.{counted_number}
use Rattle.rx_run.specs.Ways.{Way, handed}
use Rattle.rx_run.specs.Ways.Way.{by_id, made}

-- the seeks that open a scan, and what it reads for each row
pub record IsScanReads (schema : Schema) (candidate : Candidate) (reads : Reads) : Type 0 where
  pub opened : reads.opened ≡ record no_counts { seeks = counted_number (seeks_to_open candidate.kind candidate) }
  pub each : reads.each ≡ reads_for (way_of_kind candidate.kind schema candidate) 1

-- the seeks and the entries that open a merge, and what it reads for each row
pub record IsMergeReads (candidate : Candidate) (entries : ℕ) (reads : Reads) : Type 0 where
  pub opened : reads.opened ≡ record { seeks = counted_number (2 * count_ranges candidate.scans); entries = entries; rows = 0 }
  pub each : reads.each ≡ record no_counts { rows = if candidate.index_only then 0 else 1 }

-- the row that a merge hands out for each id, where no row is read
abbrev pub row_of_merge : Schema → Candidate → Option (List Value)
row_of_merge schema candidate = if candidate.index_only then Some (made_row schema candidate.scans) else None

-- how a merge hands out rows, by the row that is given for each id, where there is one
abbrev pub way_of_row : Option (List Value) → Way
way_of_row None = by_id
way_of_row (Some row) = made row

-- a row for an id: the one that is given, or else that with the id, whose values are of the columns' types
pub record IsRowFor (table : Meaning) (given : Option (List Value)) (id : ℕ) (row : List Value) : Type 0 where
  pub told : IfSome table.told (λ t. row ≡ handed (way_of_row given) t id)
  pub given_is : IfSome given (λ r. row ≡ r)
  pub types : given ≡ None → IsOfTypes table.schema row

-- no row or one was handed out: none exactly where no id was left, else the row for the first, which is left no more
abbrev pub HandsOutFor : Meaning → Option (List Value) → Merging → Merging → Option (List Value) → Type 0
HandsOutFor table given old new None = (old.left ≡ []) × (new ≡ old)
HandsOutFor table given old new (Some row) = (id : ℕ) × (old.left ≡ id ∷ new.left) × (new.entries ≡ old.entries) × IsRowFor table given id row
