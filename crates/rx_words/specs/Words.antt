-- What the words after the program's name ask for. A word is the list of its bytes, and 45 is `-`.
use Rattle.std.specs.Prelude.{ℕ, Bool, false, not, ◌==◌, List, [], ◌∷◌, Option, Some, None, codes, take, drop, if◌then◌else◌, option_map, option_and_then}
use Rattle.std.specs.Str.{bytes_eq}
use Rattle.rx_words.specs.declared.words.SelectWords.{SelectWords}
use Rattle.rx_words.specs.declared.words.Command.{Command}
use Rattle.rx_words.specs.declared.words.Command.TheVariants as of_code

-- the bytes of a word
abbrev pub Word : Type 0
Word = List ℕ

-- ---- what single words say

-- what a word says, or `--stats` and a word
pub data Part : Type 0 where
  operand : Word → Part
  statistics : Word → Part

-- the word isn't empty and doesn't begin with `-`
abbrev pub is_plain : Word → Bool
is_plain [] = false
is_plain (byte ∷ bytes) = not (byte == 45)

-- the word, where it isn't empty
abbrev pub nonempty : Word → Option Word
nonempty [] = None
nonempty (byte ∷ bytes) = Some (byte ∷ bytes)

-- F of `--stats=F`, where the word has this form and F isn't empty
abbrev pub attached : Word → Option Word
attached word =
    if bytes_eq (take 8 word) (codes "--stats=") then nonempty (drop 8 word) else None

-- what a word says by itself: a plain word is an operand, and of those with `-` only `--stats=F` says something
abbrev pub part_alone : Word → Option Part
part_alone word =
    if is_plain word then Some (operand word) else option_map statistics (attached word)

-- what a word says behind `--stats`
abbrev pub part_behind : Word → Option Part
part_behind word = if is_plain word then Some (statistics word) else None

-- one more part before the others, where all say something
abbrev pub with_part : Option Part → Option (List Part) → Option (List Part)
with_part (Some part) (Some parts) = Some (part ∷ parts)
with_part _ _ = None

-- what all the words behind the command say, where each says something
unfoldable pub parts_of : List Word → Option (List Part)
parts_of [] = Some []
parts_of (word ∷ []) = with_part (part_alone word) (Some [])
parts_of (word ∷ next ∷ rest) =
    if bytes_eq word (codes "--stats") then with_part (part_behind next) (parts_of rest)
    else with_part (part_alone word) (parts_of (next ∷ rest))

-- the operands in order
abbrev pub operands : List Part → List Word
operands [] = []
operands (operand word ∷ parts) = word ∷ operands parts
operands (statistics file ∷ parts) = operands parts

-- the files of statistics
abbrev pub files : List Part → List Word
files [] = []
files (operand word ∷ parts) = files parts
files (statistics file ∷ parts) = file ∷ files parts

-- none or one, where there are no more
abbrev pub at_most_one : List Word → Option (Option Word)
at_most_one [] = Some None
at_most_one (file ∷ []) = Some (Some file)
at_most_one _ = None

-- what the words behind a command hold, in sum
pub record Said : Type 0 where
  pub operands : List Word
  pub statistics : Option Word

-- the operands, and the file of statistics, of which there is at most one
abbrev pub said_by : List Part → Option Said
said_by parts = option_map (λ file. record { operands = operands parts; statistics = file })
    (at_most_one (files parts))

-- ---- the commands

-- the files of `select`
pub record SelectFiles : Type 0 where
  pub schema : Word
  pub rows : Word
  pub script : Word
  pub statistics : Option Word

-- what is to be done, and with which files
pub data Task : Type 0 where
  select : SelectFiles → Task

-- `select SCHEMA DATA SCRIPT [--stats FILE]`
abbrev pub select_files : List Word → Option Word → Option SelectFiles
select_files (schema ∷ rows ∷ script ∷ []) file =
    Some (record { schema = schema; rows = rows; script = script; statistics = file })
select_files _ file = None

-- the task of the command of a name, with what the words behind it hold: a line for each command
abbrev pub task_named : Word → Said → Option Task
task_named name said =
    if bytes_eq name (codes "select")
    then option_map select (select_files said.operands said.statistics)
    else None

-- what the words ask for
abbrev pub task_of : List Word → Option Task
task_of [] = None
task_of (name ∷ words) =
    option_and_then (task_named name) (option_and_then said_by (parts_of words))

-- ---- of the code

-- the files as plain data
abbrev pub files_of : SelectWords → SelectFiles
files_of words = record {
  schema = words.schema.now;
  rows = words.«data».now;
  script = words.script.now;
  statistics = option_map (λ s. s.now) words.statistics;
}

-- the task of a command
abbrev pub task : Command → Task
task (of_code.Select words) = select (files_of words)
