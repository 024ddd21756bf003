use Rattle.std.proofs.Common.{◌≡◌, ◌∙◌, map, string_bytes, true, false, Some, None, rules}
use Rattle.std.specs.List.{list_all}
use Rattle.std.proofs.lemmas.List.Folds.{list_all-map}
use Rattle.rx_words.specs.Reading.{is_usual, slots_of}
use Rattle.rx_words.proofs.Meaning.{asked, unusual}
use Rattle.rx_words.proofs.words.command_named.Goals as goal

pub returns-then-not-are_usual : goal.returns-then-not-are_usual
returns-then-not-are_usual c =
    let words = map string_bytes c.args.words.now in
    let odd : list_all is_usual words ≡ false = list_all-map is_usual string_bytes c.args.words.now ∙ search rules in
    unusual c.args.name.now words odd

pub returns-in-Ok-Some : goal.returns-in-Ok-Some
returns-in-Ok-Some c =
    let words = map string_bytes c.args.words.now in
    let usual : list_all is_usual words ≡ true = list_all-map is_usual string_bytes c.args.words.now ∙ search rules in
    c.with_given.ensures ∙ asked c.args.name.now words usual (Some (slots_of c.in-Ok-Some.given)) (search rules)

pub returns-in-Ok-None : goal.returns-in-Ok-None
returns-in-Ok-None c =
    let words = map string_bytes c.args.words.now in
    let usual : list_all is_usual words ≡ true = list_all-map is_usual string_bytes c.args.words.now ∙ search rules in
    asked c.args.name.now words usual None (search rules)
