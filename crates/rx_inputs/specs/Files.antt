-- The files of a command.
use Rattle.std.specs.Prelude.{ℕ, List, Option, Some, None}
use Rattle.rx_value.specs.declared.values.Value.{Value}
use Rattle.rx_value.specs.declared.shapes.Schema.{Schema as TheSchema}
use Rattle.rx_schema.specs.Schema.{read_of}
use Rattle.rx_data.specs.Rows.{data_rows}
use Rattle.rx_index.specs.declared.indexed.Indexed.{Indexed}
use Rattle.rx_load.specs.Loaded.{loaded}
use Rattle.rx_load.specs.Duplicates.{first_duplicate}
use Rattle.rx_load.specs.Numbers.{statistics_of}
use Rattle.rx_stats_file.specs.Statistics.{stats_of}
use Rattle.rx_statement.specs.Script.{read_of as script_read_of}
use Rattle.rx_query.specs.Steps.{Step}
use Rattle.rx_words.specs.Words.{SelectFiles}
use Rattle.rx_inputs.specs.declared.inputs.Input.TheVariants.{Schema, Data, Statistics, Script}
use Rattle.rx_inputs.specs.Refusals.{no_schema, no_rows, duplicate_key, no_statistics, no_script}
use Rattle.rx_inputs.specs.Checked.{Checked, and_then, text_of_file, unless_fault}
use Rattle.rx_inputs.specs.Checked.Checked.{Accepts, Refuses}

-- A table with its entries, its statistics and the steps of a script, all accepted.
pub record Held : Type 0 where
  pub table : Indexed
  pub statistics : List (List ℕ)
  pub steps : List Step

-- the schema of a file
abbrev pub schema_of_file : Option (List ℕ) → Checked TheSchema
schema_of_file told = and_then (text_of_file Schema told) (λ text. unless_fault no_schema (read_of text))

-- the rows of a file for a table of this schema
abbrev pub rows_of_file : TheSchema → Option (List ℕ) → Checked (List (List Value))
rows_of_file schema told = and_then (text_of_file Data told) (λ text. unless_fault (no_rows schema) (data_rows schema text))

-- the table of these rows, unless one of them repeats a key of a unique index
abbrev pub table_of_rows : TheSchema → List (List Value) → Checked Indexed
table_of_rows schema rows = elim (first_duplicate schema rows) [ Some d ↦ Refuses (duplicate_key schema d) | None ↦ Accepts (loaded schema rows) ]

-- the table of the rows of a file
abbrev pub table_of_file : TheSchema → Option (List ℕ) → Checked Indexed
table_of_file schema told = and_then (rows_of_file schema told) (table_of_rows schema)

-- the statistics of a table with those of a file in their place
abbrev pub statistics_of_file : Indexed → Option (List ℕ) → Checked (List (List ℕ))
statistics_of_file t told = and_then (text_of_file Statistics told) (λ text. unless_fault no_statistics (stats_of t.schema (statistics_of t) text))

-- the statistics of a table: its own, with those of a file in their place where one is named
abbrev pub statistics_by : (List ℕ → Option (List ℕ)) → Option (List ℕ) → Indexed → Checked (List (List ℕ))
statistics_by told None t = Accepts (statistics_of t)
statistics_by told (Some name) t = statistics_of_file t (told name)

-- the steps of a file over a table of this schema
abbrev pub steps_of_file : TheSchema → Option (List ℕ) → Checked (List Step)
steps_of_file schema told = and_then (text_of_file Script told) (λ text. unless_fault no_script (script_read_of schema text))

-- the files behind the data, read and checked one after the other: statistics where they are named, script
abbrev pub rest_by : (List ℕ → Option (List ℕ)) → SelectFiles → Indexed → Checked Held
rest_by told names t =
    and_then (statistics_by told names.statistics t) (λ statistics.
    and_then (steps_of_file t.schema (told names.script)) (λ steps.
    Accepts (record { table = t; statistics = statistics; steps = steps })))

-- the files behind the schema: data with its indexes, and the rest
abbrev pub contents_by : (List ℕ → Option (List ℕ)) → SelectFiles → TheSchema → Checked Held
contents_by told names schema = and_then (table_of_file schema (told names.rows)) (rest_by told names)

-- all files, read and checked one after the other: schema, data with its indexes, statistics, script
abbrev pub held_by : (List ℕ → Option (List ℕ)) → SelectFiles → Checked Held
held_by told names = and_then (schema_of_file (told names.schema)) (contents_by told names)
