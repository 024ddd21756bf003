-- The files that are read, and what reading them takes.
use Rattle.std.specs.Prelude.{ℕ, ◌+◌, Bool, List, [], ◌∷◌, ◌++◌, Option, Some, None, option_map, IsTrue}
use denote.Ref.{Bor}
use Rattle.rx_value.specs.declared.shapes.Schema.{Schema as TheSchema}
use Rattle.rx_outside.specs.Files.{most_taken}
use Rattle.rx_index.specs.declared.indexed.Indexed.{Indexed}
use Rattle.rx_words.specs.Words.{SelectFiles}
use Rattle.rx_inputs.specs.declared.inputs.Input.{Input}
use Rattle.rx_inputs.specs.declared.inputs.Input.TheVariants.{Schema, Data, Statistics, Script}
use Rattle.rx_inputs.specs.Refusals.{limit_of}
use Rattle.rx_inputs.specs.Checked.{Checked}
use Rattle.rx_inputs.specs.Checked.Checked.{Accepts, Refuses, Untold}
use Rattle.rx_inputs.specs.Files.{schema_of_file, table_of_file, statistics_by}

-- a file by what it is for and its name
pub record File : Type 0 where
  pub input : Input
  pub name : List ℕ

abbrev pub file : Input → List ℕ → File
file input name = record { input = input; name = name }

-- the files that are read after a check: none where it refuses, and where nothing is told maybe all of these
abbrev pub unless_refused : {A : Type 0} → Checked A → List File → (A → List File) → List File
unless_refused (Accepts a) files next = next a
unless_refused (Refuses refusal) files next = []
unless_refused Untold files next = files

-- the name of a file, where it is given
abbrev pub name_given : Option (Bor (List ℕ)) → Option (List ℕ)
name_given name = option_map (λ s. s.now) name

-- the file of statistics, where one is named
abbrev pub statistics_files : Option (List ℕ) → List File
statistics_files None = []
statistics_files (Some name) = file Statistics name ∷ []

-- the file of the script alone
abbrev pub script_file : SelectFiles → List File
script_file names = file Script names.script ∷ []

-- the files that are read after a table was made
abbrev pub files_after : (List ℕ → Option (List ℕ)) → SelectFiles → Indexed → List File
files_after told names t =
    statistics_files names.statistics ++ unless_refused (statistics_by told names.statistics t) (script_file names) (λ statistics. script_file names)

-- the files that are read after a schema was accepted
abbrev pub files_behind : (List ℕ → Option (List ℕ)) → SelectFiles → TheSchema → List File
files_behind told names schema =
    file Data names.rows ∷ unless_refused (table_of_file schema (told names.rows)) (statistics_files names.statistics ++ script_file names) (files_after told names)

-- the files that are read: the schema, the data, the statistics and the script, up to the first that is refused
abbrev pub files_read : (List ℕ → Option (List ℕ)) → SelectFiles → List File
files_read told names =
    file Schema names.schema
    ∷ unless_refused (schema_of_file (told names.schema)) (file Data names.rows ∷ statistics_files names.statistics ++ script_file names) (files_behind told names)

-- no read of these files can fail
abbrev pub AreSure : (List ℕ → Bool) → List File → Type 0
AreSure sure [] = Unit {0}
AreSure sure (f ∷ fs) = IsTrue (sure f.name) × AreSure sure fs

-- how many bytes these files have at most
abbrev pub most_bytes : (List ℕ → Option (List ℕ)) → List File → ℕ
most_bytes told [] = 0
most_bytes told (f ∷ fs) = most_taken (told f.name) (limit_of f.input) + most_bytes told fs
