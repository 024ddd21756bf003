-- The task of words, by `clap`'s answer to them.
use Rattle.std.proofs.Common.{◌≡◌, ◌∙◌, Bool, true, false, List, [], ◌∷◌, codes, inl, inr, Option, Some, None, refl, ap, ap₂, sym, is_some}
use Rattle.std.specs.Prelude.{if◌then◌else◌, option_and_then, option_map}
use Rattle.std.specs.List.{list_all}
use Rattle.std.specs.Str.{bytes_eq}
use Rattle.clap.specs.Words.{Kinds, Row, built, fault_of, kind_of, matches_of}
use Rattle.clap.specs.Walk.{nothing_held, walk}
use Rattle.clap.specs.Simple.{entered}
use Rattle.clap.specs.Faults.{entered_fault, level_fault}
use Rattle.clap.specs.Kinds.{HasKind}
use Rattle.clap.specs.declared.error.Error.{Error}
use Rattle.clap.specs.declared.error.kind.ErrorKind.TheVariants.{OutOfMemory}
use Rattle.rx_words.specs.Words.{Word, Part, Task, at_most_one, files, operands, parts_of, said_by, task_named, task_of}
use Rattle.rx_words.specs.Reading.{Slots, is_usual, taken, task_given, words_app}
use Rattle.rx_words.proofs.Parts.{given, not_usual, slots}
use Rattle.rx_words.proofs.Walk.{at, fault_from, first, rules, said, shape, walks}

-- the command has no subcommand
no_stop : (o : Option (Word × List Word)) → is_some (entered (built words_app) o) ≡ false
no_stop None = refl
no_stop (Some p) = refl

no_below : (o : Option (Word × List Word)) → entered_fault (built words_app) o ≡ []
no_below None = refl
no_below (Some p) = refl

fault_is : (words : List Word) → fault_of words_app words ≡ fault_from (at nothing_held first) words
fault_is words =
    let stop = (walk rules [] nothing_held words).stopped in
    ap₂ (level_fault shape [] nothing_held words) (no_stop stop) (no_below stop)

-- what parts hold, where there are at most three operands
abbrev slots_said : Option (List Part) → Option Slots
slots_said = option_and_then (λ parts. option_and_then (slots (operands parts)) (at_most_one (files parts)))

said_is : (o : Option (List Part)) → said first [] o ≡ slots_said o
said_is None = refl
said_is (Some parts) = given parts

answer_is : (words : List Word) → list_all is_usual words ≡ true → taken (fault_of words_app words) (matches_of words_app words) ≡ slots_said (parts_of words)
answer_is words usual =
    ap (λ kinds. taken kinds (matches_of words_app words)) (fault_is words)
    ∙ walks words usual nothing_held first ∙ said_is (parts_of words)

-- no command takes four operands
too_many : (b : Bool) → ◌≡◌ {A = Option Task} None (if b then None else None)
too_many true = refl
too_many false = refl

by_slots : (name : Word) (words : List Word) (file : Option Word)
    → option_and_then (task_given name) (slots words file) ≡ task_named name (record { operands = words; statistics = file })
by_slots name [] file = refl
by_slots name (a ∷ []) file = refl
by_slots name (a ∷ b ∷ []) file = refl
by_slots name (a ∷ b ∷ c ∷ []) file = refl
by_slots name (a ∷ b ∷ c ∷ d ∷ words) file = too_many (bytes_eq name (codes "select"))

by_files : (name : Word) (words : List Word) (o : Option (Option Word)) → option_and_then (task_given name) (option_and_then (slots words) o)
    ≡ option_and_then (task_named name) (option_map (λ file. record { operands = words; statistics = file }) o)
by_files name words None = refl
by_files name words (Some file) = by_slots name words file

by_parts : (name : Word) (o : Option (List Part)) → option_and_then (task_given name) (slots_said o) ≡ option_and_then (task_named name) (option_and_then said_by o)
by_parts name None = refl
by_parts name (Some parts) = by_files name (operands parts) (at_most_one (files parts))

-- a word that isn't usual
pub unusual : (name : Word) (words : List Word) → list_all is_usual words ≡ false → None ≡ task_of (name ∷ words)
unusual name words e = sym (ap (λ o. option_and_then (task_named name) (option_and_then said_by o)) (not_usual words e))

-- what `clap` answers
pub asked : (name : Word) (words : List Word) → list_all is_usual words ≡ true → (o : Option Slots)
    → o ≡ taken (fault_of words_app words) (matches_of words_app words) → option_and_then (task_given name) o ≡ task_of (name ∷ words)
asked name words usual o e = ap (option_and_then (task_given name)) (e ∙ answer_is words usual) ∙ by_parts name (parts_of words)

-- an error that isn't want of memory stands for a fault
pub refused : (kinds : Kinds) (error : Error) → HasKind kinds error → (kind_of error ≡ OutOfMemory → ⊥) → (rows : List Row) → None ≡ taken kinds rows
refused [] error (inl memory) other rows = absurd (other memory)
refused [] error (inr none) other rows = absurd none
refused (kind ∷ kinds) error h other rows = refl
