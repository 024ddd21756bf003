-- The blocks of a script, and what its run counts.
use Rattle.std.specs.Prelude.{ℕ, List, [], ◌∷◌, ◌++◌}
use Rattle.std.specs.List.{sum_by}
use Rattle.rx_store.specs.declared.tables.Counts.{Counts}
use Rattle.rx_store.specs.Stored.{no_counts}
use Rattle.rx_store.specs.Tables.{Meaning, add_counts}
use Rattle.rx_query.specs.Steps.{Step, Request}
use Rattle.rx_query.specs.Steps.Request.{select, change}
use Rattle.rx_query.specs.declared.settings.Settings.{Settings}
use Rattle.rx_query.specs.Settings.{default_settings, settings_after}
use Rattle.rx_engine.specs.Candidates.{reads_of}
use Rattle.rx_engine.specs.Blocks.{block_for}

-- what a request puts, as the statement of this number
abbrev pub blocks_of_request : Settings → ℕ → Request → Meaning → List (List ℕ)
blocks_of_request settings number (select q) table = block_for settings number q table ∷ []
blocks_of_request settings number (change listed) table = []

-- what a step puts
abbrev pub blocks_of_step : Settings → Step → Meaning → List (List ℕ)
blocks_of_step settings step table = blocks_of_request settings step.number step.request table

-- the blocks of the steps in order, the first one under these settings
abbrev pub blocks_from : Settings → List Step → Meaning → List (List ℕ)
blocks_from settings [] table = []
blocks_from settings (step ∷ steps) table = blocks_of_step settings step table ++ blocks_from (settings_after settings step) steps table

-- the blocks of a script
abbrev pub blocks_of : List Step → Meaning → List (List ℕ)
blocks_of steps table = blocks_from default_settings steps table

-- what a request reads
abbrev pub reads_of_request : Settings → Request → Meaning → Counts
reads_of_request settings (select q) table = reads_of settings q table
reads_of_request settings (change listed) table = no_counts

-- what each of the steps reads, the first one under these settings
abbrev pub reads_from : Settings → List Step → Meaning → List Counts
reads_from settings [] table = []
reads_from settings (step ∷ steps) table =
    reads_of_request settings step.request table ∷ reads_from (settings_after settings step) steps table

-- the sums of counts
abbrev pub summed : List Counts → Counts
summed reads = record { seeks = sum_by (λ r. r.seeks) reads; entries = sum_by (λ r. r.entries) reads; rows = sum_by (λ r. r.rows) reads }

-- what the steps of a script read, summed
abbrev pub reads_of_script : List Step → Meaning → Counts
reads_of_script steps table = summed (reads_from default_settings steps table)

-- the counts of a table after a request
abbrev pub counts_after_request : Settings → Request → Meaning → Counts → Counts
counts_after_request settings (select q) table counts = add_counts (reads_of settings q table) counts
counts_after_request settings (change listed) table counts = counts

-- the counts of a table after steps, the first one under these settings
abbrev pub counts_after : Settings → List Step → Meaning → Counts → Counts
counts_after settings [] table counts = counts
counts_after settings (step ∷ steps) table counts =
    counts_after (settings_after settings step) steps table (counts_after_request settings step.request table counts)
