-- The words behind a command as `clap` knows them, and what is made of its answer.
use Rattle.std.specs.Prelude.{Bool, true, false, not, ◌==◌, ◌&&◌, ◌||◌, List, [], ◌∷◌, Option, Some, None, codes, if◌then◌else◌, option_map}
use Rattle.std.specs.Str.{bytes_eq}
use Rattle.clap.specs.Words.{App, Rule, Row, Kinds, new_rule, new_app, with_rule, first_of}
use Rattle.rx_words.specs.Words.{Word, SelectFiles, Task}
use Rattle.rx_words.specs.Words.Task.{select}
use Rattle.rx_words.specs.declared.parse.Given.{Given}

-- `clap` reads the word as the commands do
abbrev pub is_usual : Word → Bool
is_usual [] = false
is_usual (a ∷ []) = not (a == 45)
is_usual (a ∷ b ∷ []) = not (a == 45)
is_usual (a ∷ b ∷ c ∷ rest) =
    not (a == 45) || (b == 45 && not (bytes_eq (a ∷ b ∷ c ∷ rest) (codes "--stats=")))

-- an option with a value
abbrev pub stats_rule : Rule
stats_rule = record (new_rule (codes "stats")) { long = Some (codes "stats") }

-- a command without help or version
abbrev pub empty_app : App
empty_app = let app = new_app (codes "yogfrid") in record app {
  top = record app.top {
    no_binary_name = true;
    disable_help_flag = true;
    disable_version_flag = true;
  };
}

-- at most three operands, and the option
abbrev pub words_app : App
words_app = with_rule (with_rule (with_rule
    (with_rule empty_app (new_rule (codes "first")))
    (new_rule (codes "second")))
    (new_rule (codes "third"))) stats_rule

-- at most three operands in order, and the file of `--stats`
pub record Slots : Type 0 where
  pub first : Option Word
  pub second : Option Word
  pub third : Option Word
  pub statistics : Option Word

-- what is given as plain data
abbrev pub slots_of : Given → Slots
slots_of given = record {
  first = option_map (λ s. s.now) given.first;
  second = option_map (λ s. s.now) given.second;
  third = option_map (λ s. s.now) given.third;
  statistics = option_map (λ s. s.now) given.statistics;
}

-- what the rows of matches hold
abbrev pub slots_in : List Row → Slots
slots_in found = record {
  first = first_of (codes "first") found;
  second = first_of (codes "second") found;
  third = first_of (codes "third") found;
  statistics = first_of (codes "stats") found;
}

-- what the rows hold, where no fault stands against them
abbrev pub taken : Kinds → List Row → Option Slots
taken [] found = Some (slots_in found)
taken (kind ∷ kinds) found = None

-- the files of `select`, where three operands are there
abbrev pub select_given : Option Word → Option Word → Option Word → Option Word → Option SelectFiles
select_given (Some schema) (Some rows) (Some script) file =
    Some (record { schema = schema; rows = rows; script = script; statistics = file })
select_given _ _ _ file = None

-- the task of the command of a name, with what is given
abbrev pub task_given : Word → Slots → Option Task
task_given name given = if bytes_eq name (codes "select")
    then option_map select (select_given given.first given.second given.third given.statistics)
    else None
