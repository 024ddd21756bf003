-- What every SELECT of a script prints: the rows of filtering and grouping the whole table, as a bag and in the order asked for.
use Rattle.std.specs.Prelude.{ℕ, List, [], ◌∷◌, Option, Some, None}
use Rattle.rx_index.specs.declared.indexed.Indexed.{Indexed}
use Rattle.rx_store.specs.Tables.{Meaning}
use Rattle.rx_query.specs.Steps.{Step, Request}
use Rattle.rx_query.specs.Steps.Request.{select, change}
use Rattle.rx_query.specs.declared.settings.Settings.{Settings}
use Rattle.rx_query.specs.Settings.{default_settings, settings_after}
use Rattle.rx_engine.specs.Headline.{IsBagBlock}
use Rattle.rx_inputs.specs.Checked.{Checked}
use Rattle.rx_inputs.specs.Checked.Checked.{Accepts, Refuses, Untold}
use Rattle.rx_inputs.specs.Files.{Held, held_by}
use Rattle.rx_words.specs.Words.{Task}
use Rattle.rx_words.specs.Words as words
use Rattle.rx_tool.specs.Owes.{table_of}

-- the block of a SELECT has the rows of filtering and grouping the whole table, as a bag and in order; a change of settings has no block
abbrev pub HasBag : Settings → ℕ → Request → Meaning → Indexed → Type 0
HasBag settings number (select q) table t = IsBagBlock settings number q table t
HasBag settings number (change listed) table t = Unit {0}

-- the same of each of the steps in order, the first one under these settings
abbrev pub BagsFrom : Settings → List Step → Meaning → Indexed → Type 0
BagsFrom settings [] table t = Unit {0}
BagsFrom settings (step ∷ steps) table t = HasBag settings step.number step.request table t × BagsFrom (settings_after settings step) steps table t

-- the same of each step of an accepted script over its table
abbrev pub AreBags : Held → Type 0
AreBags held = BagsFrom default_settings held.steps (table_of held) held.table

-- the same where the files are told and accepted
abbrev pub BagsOf : Checked Held → Type 0
BagsOf (Accepts held) = AreBags held
BagsOf (Refuses refusal) = Unit {0}
BagsOf Untold = Unit {0}

-- what a task prints over files that tell so much are bags; words that are no task print none
abbrev pub PrintsBags : Option Task → (List ℕ → Option (List ℕ)) → Type 0
PrintsBags None told = Unit {0}
PrintsBags (Some (words.select names)) told = BagsOf (held_by told names)
