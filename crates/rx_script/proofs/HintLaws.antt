-- Hints: what is read is spelled, and what is spelled is read.
use Rattle.std.proofs.Common.{◌≡◌, ℕ, List, [], ◌∷◌, length, map, Option, Some, None, refl, ap, subst, ◌∙◌, ⊎_elim, codes, arith}
use Rattle.std.specs.Option.{option_and_then, option_or}
use Rattle.rx_token.specs.declared.kinds.Token.{Token}
use Rattle.rx_token.specs.declared.signs.TheConstants.{OPEN, CLOSE, COMMA}
use Rattle.rx_reading.specs.Reading.{after_word, after_key, after_sign, name_at, past, more_at, gathered, items_at, enclosed_at}
use Rattle.rx_reading.specs.declared.items.Separator.TheVariants.{Nothing}
use Rattle.rx_reading.specs.Forms.{Form, ◌>>◌, Word, Sign, Name, Listed, last, before, values, SpellsListed, SpellsEnclosed, SpellsEach, IndexWord, SpellsIndexWord}
use Rattle.rx_reading.proofs.Steps.{stepped, then_gives, then_none, one_of, first_gives, second_gives, same_value}
use Rattle.rx_reading.proofs.Spelled.{word_spelled, word_read, sign_spelled, sign_read, name_spelled, name_read, Read, behind_short, one_forward}
use Rattle.rx_reading.proofs.Each.{Shrinks, Within, shrinks_within, then_shrinks, then_within, shorter_less, each_spelled, each_read, listed_shrinks, list_read}
use Rattle.rx_reading.proofs.Enclosed.{enclosed_spelled}
use Rattle.rx_reading.proofs.FirstTokens.{pair, sign_shrinks, word_shrinks, word_no_word, close_no_comma}
use Rattle.rx_reading.proofs.Choices.{index_word_spelled, index_word_read, index_word_shrinks}
use Rattle.rx_script.specs.declared.statements.HintKind.{HintKind}
use Rattle.rx_script.specs.declared.statements.HintKind.TheVariants.{Use, Ignore}
use Rattle.rx_script.specs.declared.statements.RawHint.{RawHint}
use Rattle.rx_script.specs.Hints.{after_hint, no_names_at, usable_names_at, use_at, ignore_at, hint_at, hints_at}
use Rattle.rx_script.specs.Grammar.{itself, SpellsNames, name_list, HintForm, use_none, use_some, ignore, SpellsHint, hint_value}
use Rattle.rx_script.proofs.ItemLaws.{name_shrinks, names_read, names_shrink, name_no_sign}

abbrev named : HintKind → List (List ℕ) → RawHint
named kind names = record { kind = kind; indexes = names }

-- a word, and KEY or INDEX
hint_word_spelled : (word : List ℕ) (ts rest : List Token) → after_hint word ts ≡ Some rest → (w : IndexWord) × (Word word >> SpellsIndexWord w) ts rest
hint_word_spelled word ts rest e =
    let (mid, is, next) = stepped after_key (after_word word ts) rest e in
    let (w, s) = index_word_spelled mid rest next in
    (w, (mid, word_spelled word ts mid is, s))

hint_word_read : (word : List ℕ) (w : IndexWord) (ts mid rest : List Token) → Word word ts mid → SpellsIndexWord w mid rest → after_hint word ts ≡ Some rest
hint_word_read word w ts mid rest s m = then_gives after_key (word_read word ts mid s) (index_word_read w mid rest m)

-- names between parentheses
name_is : (ts : List Token) (x : List ℕ × List Token) → name_at ts ≡ Some x → Read Name itself ts x
name_is ts x e = record { form = x.0; spelled = name_spelled ts x e; stands = refl }

enclosed_names_spelled : (ts : List Token) (x : List (List ℕ) × List Token) → enclosed_at name_at ts ≡ Some x → Read (SpellsEnclosed Name) name_list ts x
enclosed_names_spelled ts x e = enclosed_spelled name_at Name itself name_is ts x e

abbrev close_names : List (List ℕ) × List Token → Option (List (List ℕ) × List Token)
close_names list = option_and_then (λ (rest : List Token). Some (pair list.0 rest)) (after_sign CLOSE list.1)

abbrev open_names : List Token → Option (List (List ℕ) × List Token)
open_names behind = option_and_then close_names (items_at (after_sign COMMA) name_at behind)

enclosed_names_read : (list : Listed (List ℕ)) (ts rest : List Token) → SpellsEnclosed Name list ts rest → enclosed_at name_at ts ≡ Some (pair (name_list list) rest)
enclosed_names_read list ts rest (behind, opened, (end, items, closed)) =
    then_gives open_names (sign_read OPEN ts behind opened)
    (then_gives close_names (names_read list behind end items (close_no_comma end rest closed))
    (then_gives (λ (rest : List Token). Some (pair (name_list list) rest)) (sign_read CLOSE end rest closed) refl))

list_no_close : (list : Listed (List ℕ)) (ts rest : List Token) → SpellsNames list ts rest → after_sign CLOSE ts ≡ None
list_no_close (last n) ts rest s = name_no_sign CLOSE n ts rest s
list_no_close (before n others) ts rest (end, s, more) = name_no_sign CLOSE n ts end s

abbrev no_names : List (List ℕ)
no_names = []

abbrev empty_step : List Token → Option (List (List ℕ) × List Token)
empty_step behind = option_and_then (λ (rest : List Token). Some (pair no_names rest)) (after_sign CLOSE behind)

abbrev use_step : List (List ℕ) × List Token → Option (RawHint × List Token)
use_step names = Some (pair (named Use names.0) names.1)

abbrev use_names : List Token → Option (RawHint × List Token)
use_names behind = option_and_then use_step (usable_names_at behind)

abbrev ignore_step : List (List ℕ) × List Token → Option (RawHint × List Token)
ignore_step names = Some (pair (named Ignore names.0) names.1)

abbrev ignore_names : List Token → Option (RawHint × List Token)
ignore_names behind = option_and_then ignore_step (enclosed_at name_at behind)

abbrev pub HintRead : List Token → RawHint × List Token → Type 0
HintRead ts x = Read SpellsHint hint_value ts x

use_spelled : (ts behind : List Token) (w : IndexWord) (y : List (List ℕ) × List Token) → (Word (codes "USE") >> SpellsIndexWord w) ts behind → usable_names_at behind ≡ Some y → HintRead ts (pair (named Use y.0) y.1)
use_spelled ts behind w y (mid, word, index) e =
    ⊎_elim
    (λ f.
    let (inside, opened, next) = stepped empty_step (after_sign OPEN behind) y f in
    let (rest, closed, same) = stepped (λ (rest : List Token). Some (pair no_names rest)) (after_sign CLOSE inside) y next in
    subst (λ (z : List (List ℕ) × List Token). HintRead ts (pair (named Use z.0) z.1)) (same_value (pair [] rest) y same) (record {
      form = use_none w;
      spelled = (mid, word, (behind, index, (inside, sign_spelled OPEN behind inside opened, sign_spelled CLOSE inside rest closed)));
      stands = refl;
    }))
    (λ f. let r = enclosed_names_spelled behind y f in record { form = use_some w r.form; spelled = (mid, word, (behind, index, r.spelled)); stands = ap (λ (n : List (List ℕ)). named Use n) r.stands })
    (one_of (no_names_at behind) (enclosed_at name_at behind) y e)

pub hint_spelled : (ts : List Token) (x : RawHint × List Token) → hint_at ts ≡ Some x → HintRead ts x
unfolding hint_at
hint_spelled ts x e =
    ⊎_elim
    (λ f.
    let (behind, word, next) = stepped use_names (after_hint (codes "USE") ts) x f in
    let (y, names_are, same) = stepped use_step (usable_names_at behind) x next in
    let (w, front) = hint_word_spelled (codes "USE") ts behind word in
    subst (HintRead ts) (same_value (pair (named Use y.0) y.1) x same) (use_spelled ts behind w y front names_are))
    (λ f.
    let (behind, word, next) = stepped ignore_names (after_hint (codes "IGNORE") ts) x f in
    let (y, names_are, same) = stepped ignore_step (enclosed_at name_at behind) x next in
    let (w, (mid, s, index)) = hint_word_spelled (codes "IGNORE") ts behind word in
    let r = enclosed_names_spelled behind y names_are in
    subst (HintRead ts) (same_value (pair (named Ignore y.0) y.1) x same) (record { form = ignore w r.form; spelled = (mid, s, (behind, index, r.spelled)); stands = ap (λ (n : List (List ℕ)). named Ignore n) r.stands }))
    (one_of (use_at ts) (ignore_at ts) x e)

pub hint_read : (h : HintForm) (ts rest : List Token) → SpellsHint h ts rest → hint_at ts ≡ Some (pair (hint_value h) rest)
unfolding hint_at
hint_read (use_none w) ts rest (mid, word, (behind, index, (inside, opened, closed))) =
    first_gives (ignore_at ts) (then_gives use_names (hint_word_read (codes "USE") w ts mid behind word index)
    (then_gives use_step (first_gives (enclosed_at name_at behind) (then_gives empty_step (sign_read OPEN behind inside opened) (then_gives (λ (rest : List Token). Some (pair no_names rest)) (sign_read CLOSE inside rest closed) refl))) refl))
hint_read (use_some w names) ts rest (mid, word, (behind, index, (inside, opened, (end, items, closed)))) =
    first_gives (ignore_at ts) (then_gives use_names (hint_word_read (codes "USE") w ts mid behind word index)
    (then_gives use_step (second_gives (then_gives empty_step (sign_read OPEN behind inside opened) (then_none (λ (rest : List Token). Some (pair no_names rest)) (list_no_close names inside end items))) (enclosed_names_read names behind rest (inside, opened, (end, items, closed)))) refl))
hint_read (ignore w names) ts rest (mid, word, (behind, index, list)) =
    second_gives (then_none use_names (then_none after_key (word_no_word (codes "IGNORE") (codes "USE") refl ts mid word)))
    (then_gives ignore_names (hint_word_read (codes "IGNORE") w ts mid behind word index) (then_gives ignore_step (enclosed_names_read names behind rest list) refl))

enclosed_names_within : (list : Listed (List ℕ)) → Within (SpellsEnclosed Name list)
enclosed_names_within list =
    then_within (Sign OPEN) (SpellsNames list >> Sign CLOSE) (shrinks_within (Sign OPEN) (sign_shrinks OPEN))
    (then_within (SpellsNames list) (Sign CLOSE) (shrinks_within (SpellsNames list) (names_shrink list)) (shrinks_within (Sign CLOSE) (sign_shrinks CLOSE)))

word_then : (word : List ℕ) (w : IndexWord) (form : Form) → Within form → Shrinks (Word word >> SpellsIndexWord w >> form)
word_then word w form within =
    then_shrinks (Word word) (SpellsIndexWord w >> form) (word_shrinks word) (then_within (SpellsIndexWord w) form (shrinks_within (SpellsIndexWord w) (index_word_shrinks w)) within)

pub hint_shrinks : (h : HintForm) → Shrinks (SpellsHint h)
hint_shrinks (use_none w) =
    word_then (codes "USE") w (Sign OPEN >> Sign CLOSE) (then_within (Sign OPEN) (Sign CLOSE) (shrinks_within (Sign OPEN) (sign_shrinks OPEN)) (shrinks_within (Sign CLOSE) (sign_shrinks CLOSE)))
hint_shrinks (use_some w names) = word_then (codes "USE") w (SpellsEnclosed Name names) (enclosed_names_within names)
hint_shrinks (ignore w names) = word_then (codes "IGNORE") w (SpellsEnclosed Name names) (enclosed_names_within names)

-- all hints
abbrev pub HintsRead : List Token → List RawHint × List Token → Type 0
HintsRead ts x = Read (SpellsEach SpellsHint) (map hint_value) ts x

pub hints_spelled : (ts : List Token) (x : List RawHint × List Token) → hints_at ts ≡ Some x → HintsRead ts x
hints_spelled ts x e =
    subst (HintsRead ts) (same_value (gathered [] (more_at (past Nothing) hint_at (length ts) ts)) x e) (each_spelled (past Nothing) hint_at SpellsHint hint_value hint_spelled (length ts) ts)

pub hints_read : (list : List HintForm) (ts rest : List Token) → SpellsEach SpellsHint list ts rest → hint_at rest ≡ None → hints_at ts ≡ Some (pair (map hint_value list) rest)
hints_read list ts rest s none =
    ap (λ (m : List RawHint × List Token). Some (gathered [] m)) (each_read (past Nothing) hint_at SpellsHint hint_value hint_shrinks hint_read list (length ts) ts rest s (omega arith) none)

pub no_hint : (ts : List Token) → after_word (codes "USE") ts ≡ None → after_word (codes "IGNORE") ts ≡ None → hint_at ts ≡ None
unfolding hint_at
no_hint ts no_use no_ignore = second_gives (then_none use_names (then_none after_key no_use)) (then_none ignore_names (then_none after_key no_ignore))
