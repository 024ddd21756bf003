-- The candidates of a question, the one that runs, and what is read.
use Rattle.std.specs.Prelude.{ℕ, ◌+◌, List, map, Some, None}
use Rattle.rx_value.specs.declared.shapes.Schema.{Schema}
use Rattle.rx_index.specs.declared.indexed.Indexed.{Indexed}
use Rattle.rx_store.specs.declared.tables.Counts.{Counts}
use Rattle.rx_store.specs.Stored.{no_counts}
use Rattle.rx_store.specs.Tables.{Meaning}
use Rattle.rx_query.specs.Steps.{Question}
use Rattle.rx_query.specs.declared.settings.Settings.{Settings}
use Rattle.rx_cost.specs.declared.candidates.Candidate.{Candidate}
use Rattle.rx_cost.specs.declared.candidates.Reason.{Reason}
use Rattle.rx_plan.specs.Known.{known_of, reason_of, seeks_known}
use Rattle.rx_candidates.specs.Candidates.{candidates, chosen}
use Rattle.rx_scan.specs.Visits.{visits}

-- the reason of each index, in order
abbrev pub reasons_of : Settings → Question → Schema → List Reason
reasons_of settings q schema = map reason_of (known_of settings q schema)

-- how many seeks are made to estimate the ranges of all indexes
abbrev pub dives_of : Settings → Question → Schema → ℕ
dives_of settings q schema = seeks_known settings (known_of settings q schema)

-- all candidates of a question in order, over a told table
abbrev pub candidates_of : Settings → Question → Meaning → Indexed → List Candidate
candidates_of settings q table t = candidates settings q table t (known_of settings q table.schema)

-- the candidate that runs
abbrev pub chosen_of : Settings → Question → Meaning → Indexed → Candidate
chosen_of settings q table t = chosen settings q table t (known_of settings q table.schema)

-- reads with so many seeks before them
abbrev pub behind_seeks : ℕ → Counts → Counts
behind_seeks seeks reads = record reads { seeks = seeks + reads.seeks }

-- what a statement reads of a table: the seeks of the estimates, and what the candidate that runs reads; nothing is said where the rows aren't told
abbrev pub reads_of : Settings → Question → Meaning → Counts
reads_of settings q table = elim table.told [
  | Some t ↦ behind_seeks (dives_of settings q table.schema) (visits (chosen_of settings q table t) table)
  | None ↦ no_counts
]
