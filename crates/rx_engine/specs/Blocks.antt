-- The block of a SELECT.
use Rattle.std.specs.Prelude.{ℕ, ◌+◌, List, [], ◌++◌, length, if◌then◌else◌, Some, None}
use Rattle.rx_value.specs.declared.values.Value.{Value}
use Rattle.rx_index.specs.declared.indexed.Indexed.{Indexed}
use Rattle.rx_store.specs.Tables.{Meaning}
use Rattle.rx_query.specs.Steps.{Question}
use Rattle.rx_query.specs.declared.settings.Settings.{Settings}
use Rattle.rx_rows.specs.Finish.{answered}
use Rattle.rx_rows.specs.Lines.{block_of}
use Rattle.rx_cost.specs.Choice.{chosen_place}
use Rattle.rx_scan.specs.Visits.{visits, visited}
use Rattle.rx_trace.specs.Trace.{Trace, trace_line}
use Rattle.rx_engine.specs.declared.engine.Report.{Report}
use Rattle.rx_engine.specs.Candidates.{reasons_of, dives_of, candidates_of, chosen_of}

-- what a question answers over the rows in the order in which the candidate that runs hands them out
abbrev pub output_of : Settings → Question → Meaning → Indexed → List (List Value)
output_of settings q table t = answered q (visited (chosen_of settings q table t) table)

-- what the trace of the statement with this number tells
abbrev pub told_of : Settings → ℕ → Question → Meaning → Indexed → Trace
told_of settings number q table t = record {
  statement = number;
  all = candidates_of settings q table t;
  chosen = chosen_place (candidates_of settings q table t);
  answers = reasons_of settings q table.schema;
  dive_seeks = dives_of settings q table.schema;
  reads = visits (chosen_of settings q table t) table;
}

-- the line of the trace, where that is on
abbrev pub trace_part : Settings → ℕ → Question → Meaning → Indexed → List ℕ
trace_part settings number q table t = if settings.trace then trace_line table.schema (told_of settings number q table t) else []

-- the block of a question over a told table: what it answers, and the trace
abbrev pub block_over : Settings → ℕ → Question → Meaning → Indexed → List ℕ
block_over settings number q table t = block_of (output_of settings q table t) ++ trace_part settings number q table t

-- the block of a question; nothing is said of it where the rows aren't told
abbrev pub block_for : Settings → ℕ → Question → Meaning → List ℕ
block_for settings number q table = elim table.told [ Some t ↦ block_over settings number q table t | None ↦ [] ]

-- the report of a question over a told table: the kind, the number and the cost of the candidate that ran, and how many rows were printed
abbrev pub report_of : Settings → Question → Meaning → Indexed → Report
report_of settings q table t = record {
  kind = (chosen_of settings q table t).kind;
  n = chosen_place (candidates_of settings q table t) + 1;
  cost = (chosen_of settings q table t).cost;
  rows = length (output_of settings q table t);
}
