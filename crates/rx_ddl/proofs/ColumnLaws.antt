-- Columns: what is read is spelled, and what is spelled is read.
use Rattle.std.proofs.Common.{◌≡◌, ℕ, false, Bool, cond, List, [], ◌∷◌, length, map, Option, Some, None, refl, sym, ap, subst, ◌∙◌, ⊎_elim, codes, arith}
use Rattle.std.specs.Option.{option_and_then, option_or}
use Rattle.std.specs.Str.{str_eq_ignore_ascii_case}
use Rattle.rx_token.specs.declared.kinds.Token.{Token}
use Rattle.rx_token.specs.declared.signs.TheConstants.{OPEN, PLUS, MINUS}
use Rattle.rx_reading.specs.Reading.{after_word, after_sign, word_at, name_at, text_at, past, more_at, gathered, number_at}
use Rattle.rx_reading.specs.declared.items.Separator.TheVariants.{Nothing}
use Rattle.rx_reading.specs.Forms.{◌>>◌, Word, Sign, Name, Text, SpellsEach, AnyWord, Number}
use Rattle.rx_reading.proofs.Steps.{stepped, then_gives, then_none, one_of, first_gives, second_gives, same_value}
use Rattle.rx_reading.proofs.Spelled.{word_spelled, word_read, sign_spelled, sign_read, name_spelled, text_spelled, text_read, Read}
use Rattle.rx_ddl.specs.declared.statements.Argument.{Argument}
use Rattle.rx_ddl.specs.declared.statements.Argument.TheVariants as argument
use Rattle.rx_ddl.specs.declared.statements.Attribute.{Attribute}
use Rattle.rx_ddl.specs.declared.statements.Attribute.TheVariants as attribute
use Rattle.rx_ddl.specs.declared.statements.ColumnDefinition.{ColumnDefinition}
use Rattle.rx_ddl.specs.Columns.{number_argument_at, text_argument_at, argument_at, arguments_of, arguments_at, mark_at, not_null_at, marked_at, past_text, past_word, past_number, past_signed, past_default, past_comment, other_at, character_set_at, collate_at, attribute_at, attributes_at, column_at}
use Rattle.rx_ddl.specs.ColumnForms.{ArgumentForm, number, string, SpellsArgument, argument_value, ArgumentsForm, bare, between, SpellsArguments, arguments_value, DefaultForm, of_string, of_word, of_number, plus, minus, SpellsDefault, AttributeForm, unsigned, zerofill, not_null, null, auto_increment, comment, default_is, character_set, collate, SpellsAttribute, attribute_value, ColumnName, ColumnForm, SpellsColumn, column_value}
use Rattle.rx_reading.proofs.Each.{Shrinks, Within, one_shrinks, shrinks_within, then_shrinks, then_within, no_token_within, each_within, each_spelled, each_read}
use Rattle.rx_ddl.proofs.Enclosed.{enclosed_spelled, enclosed_read, enclosed_within}
use Rattle.rx_reading.proofs.FirstTokens.{sign_shrinks, word_shrinks, any_word_shrinks, text_shrinks, number_shrinks, word_no_word, word_no_sign, sign_no_any_word, sign_no_text, sign_no_number, sign_no_sign, any_word_no_text, number_no_text, number_no_any_word, text_no_number, Ends, end_no_word, end_no_open, pair, any_word_spelled, any_word_read, number_spelled, number_read}

-- how many tokens the forms take
argument_shrinks : (a : ArgumentForm) → Shrinks (SpellsArgument a)
argument_shrinks (number n) = number_shrinks n
argument_shrinks (string text) = text_shrinks text

-- an argument
abbrev number_step : ℕ × List Token → Option (Argument × List Token)
number_step n = Some (argument.Number n.0, n.1)

abbrev text_step : List ℕ × List Token → Option (Argument × List Token)
text_step text = Some (argument.Text text.0, text.1)

abbrev ArgumentRead : List Token → Argument × List Token → Type 0
ArgumentRead ts x = Read SpellsArgument argument_value ts x

argument_spelled : (ts : List Token) (x : Argument × List Token) → argument_at ts ≡ Some x → ArgumentRead ts x
argument_spelled ts x e =
    ⊎_elim
    (λ f.
    let (y, is, same) = stepped number_step (number_at ts) x f in
    subst (ArgumentRead ts) (same_value (pair (argument.Number y.0) y.1) x same) (record { form = number y.0; spelled = number_spelled ts y is; stands = refl }))
    (λ f.
    let (y, is, same) = stepped text_step (text_at ts) x f in
    subst (ArgumentRead ts) (same_value (pair (argument.Text y.0) y.1) x same) (record { form = string y.0; spelled = text_spelled ts y is; stands = refl }))
    (one_of (number_argument_at ts) (text_argument_at ts) x e)

argument_read : (a : ArgumentForm) (ts rest : List Token) → SpellsArgument a ts rest → argument_at ts ≡ Some (pair (argument_value a) rest)
argument_read (number n) ts rest s = first_gives (text_argument_at ts) (then_gives number_step (number_read n ts rest s) refl)
argument_read (string text) ts rest s = second_gives (then_none number_step (text_no_number text ts rest s)) (then_gives text_step (text_read text ts rest s) refl)

-- arguments between parentheses, or none
abbrev ArgumentsRead : List Token → List Argument × List Token → Type 0
ArgumentsRead ts x = Read SpellsArguments arguments_value ts x

arguments_by : (ts : List Token) (o : Option (List Token)) → after_sign OPEN ts ≡ o → (x : List Argument × List Token) → arguments_of ts o ≡ Some x → ArgumentsRead ts x
arguments_by ts None is x e = subst (ArgumentsRead ts) (same_value (pair [] ts) x e) (record { form = bare; spelled = refl; stands = refl })
arguments_by ts (Some behind) is x e =
    let all = enclosed_spelled argument_at SpellsArgument argument_value argument_spelled ts x e in
    record { form = between all.form; spelled = all.spelled; stands = all.stands }

arguments_spelled : (ts : List Token) (x : List Argument × List Token) → arguments_at ts ≡ Some x → ArgumentsRead ts x
unfolding arguments_at
arguments_spelled ts x e = arguments_by ts (after_sign OPEN ts) refl x e

arguments_read : (a : ArgumentsForm) (ts rest : List Token) → SpellsArguments a ts rest → after_sign OPEN rest ≡ None → arguments_at ts ≡ Some (pair (arguments_value a) rest)
unfolding arguments_at
arguments_read bare ts rest s none = subst (λ (us : List Token). arguments_of us (after_sign OPEN us) ≡ Some (pair [] rest)) (sym s) (ap (arguments_of rest) none)
arguments_read (between list) ts rest (behind, opened, more) none =
    ap (arguments_of ts) (sign_read OPEN ts behind opened) ∙ enclosed_read argument_at SpellsArgument argument_value argument_shrinks (λ a us mid s end. argument_read a us mid s) list ts rest (behind, opened, more)

arguments_within : (a : ArgumentsForm) → Within (SpellsArguments a)
arguments_within bare = no_token_within
arguments_within (between list) = enclosed_within SpellsArgument argument_shrinks list

-- what stands behind DEFAULT
abbrev drop_text : List ℕ × List Token → Option (List Token)
drop_text x = Some x.1

abbrev drop_number : ℕ × List Token → Option (List Token)
drop_number x = Some x.1

pub DefaultRead : List Token → List Token → Type 0
DefaultRead ts rest = (d : DefaultForm) × SpellsDefault d ts rest

same_rest : (x y : List Token) → Some x ≡ Some y → x ≡ y
same_rest x y e = cc

pub past_text_spelled : (ts rest : List Token) → past_text ts ≡ Some rest → (text : List ℕ) × Text text ts rest
past_text_spelled ts rest e =
    let (y, is, same) = stepped drop_text (text_at ts) rest e in
    (y.0, subst (Text y.0 ts) (same_rest y.1 rest same) (text_spelled ts y is))

past_word_spelled : (ts rest : List Token) → past_word ts ≡ Some rest → (word : List ℕ) × AnyWord word ts rest
past_word_spelled ts rest e =
    let (y, is, same) = stepped drop_text (word_at ts) rest e in
    (y.0, subst (AnyWord y.0 ts) (same_rest y.1 rest same) (any_word_spelled ts y is))

past_number_spelled : (ts rest : List Token) → past_number ts ≡ Some rest → (n : ℕ) × Number n ts rest
past_number_spelled ts rest e =
    let (y, is, same) = stepped drop_number (number_at ts) rest e in
    (y.0, subst (Number y.0 ts) (same_rest y.1 rest same) (number_spelled ts y is))

past_signed_spelled : (sign : ℕ) (ts rest : List Token) → past_signed sign ts ≡ Some rest → (n : ℕ) × (Sign sign >> Number n) ts rest
past_signed_spelled sign ts rest e =
    let (mid, is, next) = stepped past_number (after_sign sign ts) rest e in
    let (n, s) = past_number_spelled mid rest next in
    (n, (mid, sign_spelled sign ts mid is, s))

default_spelled : (ts rest : List Token) → past_default ts ≡ Some rest → DefaultRead ts rest
unfolding past_default DefaultRead
default_spelled ts rest e =
    ⊎_elim (λ f. let (text, s) = past_text_spelled ts rest f in (of_string text, s))
    (λ f. ⊎_elim (λ g. let (word, s) = past_word_spelled ts rest g in (of_word word, s))
    (λ g. ⊎_elim (λ h. let (n, s) = past_number_spelled ts rest h in (of_number n, s))
    (λ h. ⊎_elim (λ i. let (n, s) = past_signed_spelled PLUS ts rest i in (plus n, s)) (λ i. let (n, s) = past_signed_spelled MINUS ts rest i in (minus n, s))
    (one_of (past_signed PLUS ts) (past_signed MINUS ts) rest h))
    (one_of (past_number ts) (option_or (past_signed PLUS ts) (past_signed MINUS ts)) rest g))
    (one_of (past_word ts) (option_or (past_number ts) (option_or (past_signed PLUS ts) (past_signed MINUS ts))) rest f))
    (one_of (past_text ts) (option_or (past_word ts) (option_or (past_number ts) (option_or (past_signed PLUS ts) (past_signed MINUS ts)))) rest e)

pub past_text_read : (text : List ℕ) (ts rest : List Token) → Text text ts rest → past_text ts ≡ Some rest
past_text_read text ts rest s = then_gives drop_text (text_read text ts rest s) refl

past_number_read : (n : ℕ) (ts rest : List Token) → Number n ts rest → past_number ts ≡ Some rest
past_number_read n ts rest s = then_gives drop_number (number_read n ts rest s) refl

default_read : (d : DefaultForm) (ts rest : List Token) → SpellsDefault d ts rest → past_default ts ≡ Some rest
unfolding past_default
default_read (of_string text) ts rest s = first_gives _ (past_text_read text ts rest s)
default_read (of_word word) ts rest s =
    second_gives (then_none drop_text (any_word_no_text word ts rest s)) (first_gives _ (then_gives drop_text (any_word_read word ts rest s) refl))
default_read (of_number n) ts rest s =
    second_gives (then_none drop_text (number_no_text n ts rest s)) (second_gives (then_none drop_text (number_no_any_word n ts rest s)) (first_gives _ (past_number_read n ts rest s)))
default_read (plus n) ts rest (mid, s, m) =
    second_gives (then_none drop_text (sign_no_text PLUS ts mid s)) (second_gives (then_none drop_text (sign_no_any_word PLUS ts mid s)) (second_gives (then_none drop_number (sign_no_number PLUS ts mid s))
    (first_gives _ (then_gives past_number (sign_read PLUS ts mid s) (past_number_read n mid rest m)))))
default_read (minus n) ts rest (mid, s, m) =
    second_gives (then_none drop_text (sign_no_text MINUS ts mid s)) (second_gives (then_none drop_text (sign_no_any_word MINUS ts mid s)) (second_gives (then_none drop_number (sign_no_number MINUS ts mid s))
    (second_gives (then_none past_number (sign_no_sign MINUS PLUS refl ts mid s)) (then_gives past_number (sign_read MINUS ts mid s) (past_number_read n mid rest m)))))

default_within : (d : DefaultForm) → Within (SpellsDefault d)
default_within (of_string text) = shrinks_within (Text text) (text_shrinks text)
default_within (of_word word) = shrinks_within (AnyWord word) (any_word_shrinks word)
default_within (of_number n) = shrinks_within (Number n) (number_shrinks n)
default_within (plus n) = then_within (Sign PLUS) (Number n) (shrinks_within (Sign PLUS) (sign_shrinks PLUS)) (shrinks_within (Number n) (number_shrinks n))
default_within (minus n) = then_within (Sign MINUS) (Number n) (shrinks_within (Sign MINUS) (sign_shrinks MINUS)) (shrinks_within (Number n) (number_shrinks n))

-- an attribute
abbrev AttributeRead : List Token → Attribute × List Token → Type 0
AttributeRead ts x = Read SpellsAttribute attribute_value ts x

abbrev mark_step : Attribute → List Token → Option (Attribute × List Token)
mark_step a rest = Some (a, rest)

mark_spelled : (a : AttributeForm) (word : List ℕ) → ((ts rest : List Token) → Word word ts rest → SpellsAttribute a ts rest) → (ts : List Token) (x : Attribute × List Token) → mark_at word (attribute_value a) ts ≡ Some x → AttributeRead ts x
mark_spelled a word spells ts x e =
    let (rest, is, same) = stepped (mark_step (attribute_value a)) (after_word word ts) x e in
    subst (AttributeRead ts) (same_value (pair (attribute_value a) rest) x same) (record { form = a; spelled = spells ts rest (word_spelled word ts rest is); stands = refl })

not_null_spelled : (ts : List Token) (x : Attribute × List Token) → not_null_at ts ≡ Some x → AttributeRead ts x
not_null_spelled ts x e =
    let (mid, is, next) = stepped (mark_at (codes "NULL") attribute.NotNull) (after_word (codes "NOT") ts) x e in
    let (rest, null_is, same) = stepped (mark_step attribute.NotNull) (after_word (codes "NULL") mid) x next in
    subst (AttributeRead ts) (same_value (pair attribute.NotNull rest) x same) (record { form = not_null; spelled = (mid, word_spelled (codes "NOT") ts mid is, word_spelled (codes "NULL") mid rest null_is); stands = refl })

marked_spelled : (ts : List Token) (x : Attribute × List Token) → marked_at ts ≡ Some x → AttributeRead ts x
unfolding marked_at
marked_spelled ts x e =
    ⊎_elim (mark_spelled unsigned (codes "UNSIGNED") (λ us rest s. s) ts x)
    (λ f. ⊎_elim (mark_spelled zerofill (codes "ZEROFILL") (λ us rest s. s) ts x)
    (λ g. ⊎_elim (not_null_spelled ts x)
    (λ h. ⊎_elim (mark_spelled null (codes "NULL") (λ us rest s. s) ts x) (mark_spelled auto_increment (codes "AUTO_INCREMENT") (λ us rest s. s) ts x)
    (one_of (mark_at (codes "NULL") attribute.Null ts) (mark_at (codes "AUTO_INCREMENT") attribute.Other ts) x h))
    (one_of (not_null_at ts) (option_or (mark_at (codes "NULL") attribute.Null ts) (mark_at (codes "AUTO_INCREMENT") attribute.Other ts)) x g))
    (one_of (mark_at (codes "ZEROFILL") attribute.Zerofill ts) (option_or (not_null_at ts) (option_or (mark_at (codes "NULL") attribute.Null ts) (mark_at (codes "AUTO_INCREMENT") attribute.Other ts))) x f))
    (one_of (mark_at (codes "UNSIGNED") attribute.Unsigned ts) (option_or (mark_at (codes "ZEROFILL") attribute.Zerofill ts) (option_or (not_null_at ts) (option_or (mark_at (codes "NULL") attribute.Null ts) (mark_at (codes "AUTO_INCREMENT") attribute.Other ts)))) x e)

abbrev other_step : List Token → Option (Attribute × List Token)
other_step rest = Some (attribute.Other, rest)

other_spelled : (ts : List Token) (x : Attribute × List Token) → other_at ts ≡ Some x → AttributeRead ts x
unfolding DefaultRead
other_spelled ts x e =
    let (rest, is, same) = stepped other_step (option_or (past_comment ts) (option_and_then past_default (after_word (codes "DEFAULT") ts))) x e in
    subst (AttributeRead ts) (same_value (pair attribute.Other rest) x same)
    (⊎_elim
    (λ f.
    let (mid, word_is, next) = stepped past_text (after_word (codes "COMMENT") ts) rest f in
    let (text, s) = past_text_spelled mid rest next in
    record { form = comment text; spelled = (mid, word_spelled (codes "COMMENT") ts mid word_is, s); stands = refl })
    (λ f.
    let (mid, word_is, next) = stepped past_default (after_word (codes "DEFAULT") ts) rest f in
    let (d, s) = default_spelled mid rest next in
    record { form = default_is d; spelled = (mid, word_spelled (codes "DEFAULT") ts mid word_is, s); stands = refl })
    (one_of (past_comment ts) (option_and_then past_default (after_word (codes "DEFAULT") ts)) rest is))

abbrev set_value : List ℕ × List Token → Option (Attribute × List Token)
set_value word = Some (attribute.CharacterSet word.0, word.1)

abbrev set_step : List Token → Option (Attribute × List Token)
set_step set = option_and_then set_value (word_at set)

abbrev character_step : List Token → Option (Attribute × List Token)
character_step behind = option_and_then set_step (after_word (codes "SET") behind)

set_spelled : (ts : List Token) (x : Attribute × List Token) → character_set_at ts ≡ Some x → AttributeRead ts x
set_spelled ts x e =
    let (mid, is, next) = stepped character_step (after_word (codes "CHARACTER") ts) x e in
    let (set, set_is, last) = stepped set_step (after_word (codes "SET") mid) x next in
    let (y, word_is, same) = stepped set_value (word_at set) x last in
    subst (AttributeRead ts) (same_value (pair (attribute.CharacterSet y.0) y.1) x same) (record {
      form = character_set y.0;
      spelled = (mid, word_spelled (codes "CHARACTER") ts mid is, (set, word_spelled (codes "SET") mid set set_is, any_word_spelled set y word_is));
      stands = refl;
    })

abbrev collate_value : List ℕ × List Token → Option (Attribute × List Token)
collate_value word = Some (attribute.Collate word.0, word.1)

abbrev collate_step : List Token → Option (Attribute × List Token)
collate_step behind = option_and_then collate_value (word_at behind)

collate_spelled : (ts : List Token) (x : Attribute × List Token) → collate_at ts ≡ Some x → AttributeRead ts x
collate_spelled ts x e =
    let (mid, is, next) = stepped collate_step (after_word (codes "COLLATE") ts) x e in
    let (y, word_is, same) = stepped collate_value (word_at mid) x next in
    subst (AttributeRead ts) (same_value (pair (attribute.Collate y.0) y.1) x same) (record {
      form = collate y.0;
      spelled = (mid, word_spelled (codes "COLLATE") ts mid is, any_word_spelled mid y word_is);
      stands = refl;
    })

attribute_spelled : (ts : List Token) (x : Attribute × List Token) → attribute_at ts ≡ Some x → AttributeRead ts x
unfolding attribute_at
attribute_spelled ts x e =
    ⊎_elim (marked_spelled ts x)
    (λ f. ⊎_elim (other_spelled ts x)
    (λ g. ⊎_elim (set_spelled ts x) (collate_spelled ts x)
    (one_of (character_set_at ts) (collate_at ts) x g))
    (one_of (other_at ts) (option_or (character_set_at ts) (collate_at ts)) x f))
    (one_of (marked_at ts) (option_or (other_at ts) (option_or (character_set_at ts) (collate_at ts))) x e)

-- what stands where no such word does
no_mark : (word : List ℕ) (a : Attribute) (ts : List Token) → after_word word ts ≡ None → mark_at word a ts ≡ None
no_mark word a ts none = then_none (mark_step a) none

no_not_null : (ts : List Token) → after_word (codes "NOT") ts ≡ None → not_null_at ts ≡ None
no_not_null ts none = then_none (mark_at (codes "NULL") attribute.NotNull) none

no_marked : (ts : List Token) → after_word (codes "UNSIGNED") ts ≡ None → after_word (codes "ZEROFILL") ts ≡ None → after_word (codes "NOT") ts ≡ None → after_word (codes "NULL") ts ≡ None → after_word (codes "AUTO_INCREMENT") ts ≡ None → marked_at ts ≡ None
unfolding marked_at
no_marked ts a b c d e =
    second_gives (no_mark (codes "UNSIGNED") attribute.Unsigned ts a) (second_gives (no_mark (codes "ZEROFILL") attribute.Zerofill ts b) (second_gives (no_not_null ts c) (second_gives (no_mark (codes "NULL") attribute.Null ts d) (no_mark (codes "AUTO_INCREMENT") attribute.Other ts e))))

no_other : (ts : List Token) → after_word (codes "COMMENT") ts ≡ None → after_word (codes "DEFAULT") ts ≡ None → other_at ts ≡ None
no_other ts a b = then_none other_step (second_gives (then_none past_text a) (then_none past_default b))

pub no_attribute : (ts : List Token) → ((word : List ℕ) → after_word word ts ≡ None) → attribute_at ts ≡ None
unfolding attribute_at
no_attribute ts none =
    second_gives (no_marked ts (none (codes "UNSIGNED")) (none (codes "ZEROFILL")) (none (codes "NOT")) (none (codes "NULL")) (none (codes "AUTO_INCREMENT")))
    (second_gives (no_other ts (none (codes "COMMENT")) (none (codes "DEFAULT"))) (second_gives (then_none character_step (none (codes "CHARACTER"))) (then_none collate_step (none (codes "COLLATE")))))

-- a word that begins none of the attributes of one word
unmarked : (v : List ℕ) → str_eq_ignore_ascii_case v (codes "UNSIGNED") ≡ false → str_eq_ignore_ascii_case v (codes "ZEROFILL") ≡ false → str_eq_ignore_ascii_case v (codes "NOT") ≡ false → str_eq_ignore_ascii_case v (codes "NULL") ≡ false → str_eq_ignore_ascii_case v (codes "AUTO_INCREMENT") ≡ false → (ts mid : List Token) → Word v ts mid → marked_at ts ≡ None
unmarked v a b c d e ts mid s =
    no_marked ts (word_no_word v (codes "UNSIGNED") a ts mid s) (word_no_word v (codes "ZEROFILL") b ts mid s) (word_no_word v (codes "NOT") c ts mid s) (word_no_word v (codes "NULL") d ts mid s) (word_no_word v (codes "AUTO_INCREMENT") e ts mid s)

marked_read : (ts rest : List Token) (a : Attribute) → marked_at ts ≡ Some (pair a rest) → attribute_at ts ≡ Some (pair a rest)
unfolding attribute_at
marked_read ts rest a e = first_gives (option_or (other_at ts) (option_or (character_set_at ts) (collate_at ts))) e

mark_read : (word : List ℕ) (a : Attribute) (ts rest : List Token) → Word word ts rest → mark_at word a ts ≡ Some (pair a rest)
mark_read word a ts rest s = then_gives (mark_step a) (word_read word ts rest s) refl

one_mark_read : (a : AttributeForm) (ts rest : List Token) → SpellsAttribute a ts rest → attribute_at ts ≡ Some (pair (attribute_value a) rest)
unfolding attribute_at marked_at
one_mark_read unsigned ts rest s = first_gives _ (first_gives _ (mark_read (codes "UNSIGNED") attribute.Unsigned ts rest s))
one_mark_read zerofill ts rest s =
    first_gives _ (second_gives (no_mark (codes "UNSIGNED") attribute.Unsigned ts (word_no_word (codes "ZEROFILL") (codes "UNSIGNED") refl ts rest s)) (first_gives _ (mark_read (codes "ZEROFILL") attribute.Zerofill ts rest s)))
one_mark_read not_null ts rest (mid, s, m) =
    first_gives _ (second_gives (no_mark (codes "UNSIGNED") attribute.Unsigned ts (word_no_word (codes "NOT") (codes "UNSIGNED") refl ts mid s))
    (second_gives (no_mark (codes "ZEROFILL") attribute.Zerofill ts (word_no_word (codes "NOT") (codes "ZEROFILL") refl ts mid s))
    (first_gives _ (then_gives (mark_at (codes "NULL") attribute.NotNull) (word_read (codes "NOT") ts mid s) (mark_read (codes "NULL") attribute.NotNull mid rest m)))))
one_mark_read null ts rest s =
    first_gives _ (second_gives (no_mark (codes "UNSIGNED") attribute.Unsigned ts (word_no_word (codes "NULL") (codes "UNSIGNED") refl ts rest s))
    (second_gives (no_mark (codes "ZEROFILL") attribute.Zerofill ts (word_no_word (codes "NULL") (codes "ZEROFILL") refl ts rest s))
    (second_gives (no_not_null ts (word_no_word (codes "NULL") (codes "NOT") refl ts rest s))
    (first_gives _ (mark_read (codes "NULL") attribute.Null ts rest s)))))
one_mark_read auto_increment ts rest s =
    first_gives _ (second_gives (no_mark (codes "UNSIGNED") attribute.Unsigned ts (word_no_word (codes "AUTO_INCREMENT") (codes "UNSIGNED") refl ts rest s))
    (second_gives (no_mark (codes "ZEROFILL") attribute.Zerofill ts (word_no_word (codes "AUTO_INCREMENT") (codes "ZEROFILL") refl ts rest s))
    (second_gives (no_not_null ts (word_no_word (codes "AUTO_INCREMENT") (codes "NOT") refl ts rest s))
    (second_gives (no_mark (codes "NULL") attribute.Null ts (word_no_word (codes "AUTO_INCREMENT") (codes "NULL") refl ts rest s))
    (mark_read (codes "AUTO_INCREMENT") attribute.Other ts rest s)))))
one_mark_read (comment text) ts rest (mid, s, m) =
    second_gives (unmarked (codes "COMMENT") refl refl refl refl refl ts mid s)
    (first_gives _ (then_gives other_step (first_gives _ (then_gives past_text (word_read (codes "COMMENT") ts mid s) (past_text_read text mid rest m))) refl))
one_mark_read (default_is d) ts rest (mid, s, m) =
    second_gives (unmarked (codes "DEFAULT") refl refl refl refl refl ts mid s)
    (first_gives _ (then_gives other_step (second_gives (then_none past_text (word_no_word (codes "DEFAULT") (codes "COMMENT") refl ts mid s)) (then_gives past_default (word_read (codes "DEFAULT") ts mid s) (default_read d mid rest m))) refl))
one_mark_read (character_set word) ts rest (mid, s, (set, t, m)) =
    second_gives (unmarked (codes "CHARACTER") refl refl refl refl refl ts mid s)
    (second_gives (no_other ts (word_no_word (codes "CHARACTER") (codes "COMMENT") refl ts mid s) (word_no_word (codes "CHARACTER") (codes "DEFAULT") refl ts mid s))
    (first_gives _ (then_gives character_step (word_read (codes "CHARACTER") ts mid s) (then_gives set_step (word_read (codes "SET") mid set t) (then_gives set_value (any_word_read word set rest m) refl)))))
one_mark_read (collate word) ts rest (mid, s, m) =
    second_gives (unmarked (codes "COLLATE") refl refl refl refl refl ts mid s)
    (second_gives (no_other ts (word_no_word (codes "COLLATE") (codes "COMMENT") refl ts mid s) (word_no_word (codes "COLLATE") (codes "DEFAULT") refl ts mid s))
    (second_gives (then_none character_step (word_no_word (codes "COLLATE") (codes "CHARACTER") refl ts mid s))
    (then_gives collate_step (word_read (codes "COLLATE") ts mid s) (then_gives collate_value (any_word_read word mid rest m) refl))))

attribute_shrinks : (a : AttributeForm) → Shrinks (SpellsAttribute a)
attribute_shrinks unsigned = word_shrinks (codes "UNSIGNED")
attribute_shrinks zerofill = word_shrinks (codes "ZEROFILL")
attribute_shrinks not_null = then_shrinks (Word (codes "NOT")) (Word (codes "NULL")) (word_shrinks (codes "NOT")) (shrinks_within (Word (codes "NULL")) (word_shrinks (codes "NULL")))
attribute_shrinks null = word_shrinks (codes "NULL")
attribute_shrinks auto_increment = word_shrinks (codes "AUTO_INCREMENT")
attribute_shrinks (comment text) = then_shrinks (Word (codes "COMMENT")) (Text text) (word_shrinks (codes "COMMENT")) (shrinks_within (Text text) (text_shrinks text))
attribute_shrinks (default_is d) = then_shrinks (Word (codes "DEFAULT")) (SpellsDefault d) (word_shrinks (codes "DEFAULT")) (default_within d)
attribute_shrinks (character_set word) =
    then_shrinks (Word (codes "CHARACTER")) (Word (codes "SET") >> AnyWord word) (word_shrinks (codes "CHARACTER"))
    (then_within (Word (codes "SET")) (AnyWord word) (shrinks_within (Word (codes "SET")) (word_shrinks (codes "SET"))) (shrinks_within (AnyWord word) (any_word_shrinks word)))
attribute_shrinks (collate word) = then_shrinks (Word (codes "COLLATE")) (AnyWord word) (word_shrinks (codes "COLLATE")) (shrinks_within (AnyWord word) (any_word_shrinks word))

-- no parenthesis opens where attributes begin, or where they end
attribute_closed : (a : AttributeForm) (ts mid : List Token) → SpellsAttribute a ts mid → after_sign OPEN ts ≡ None
attribute_closed unsigned ts mid s = word_no_sign (codes "UNSIGNED") OPEN ts mid s
attribute_closed zerofill ts mid s = word_no_sign (codes "ZEROFILL") OPEN ts mid s
attribute_closed not_null ts mid (next, s, m) = word_no_sign (codes "NOT") OPEN ts next s
attribute_closed null ts mid s = word_no_sign (codes "NULL") OPEN ts mid s
attribute_closed auto_increment ts mid s = word_no_sign (codes "AUTO_INCREMENT") OPEN ts mid s
attribute_closed (comment text) ts mid (next, s, m) = word_no_sign (codes "COMMENT") OPEN ts next s
attribute_closed (default_is d) ts mid (next, s, m) = word_no_sign (codes "DEFAULT") OPEN ts next s
attribute_closed (character_set word) ts mid (next, s, m) = word_no_sign (codes "CHARACTER") OPEN ts next s
attribute_closed (collate word) ts mid (next, s, m) = word_no_sign (codes "COLLATE") OPEN ts next s

attributes_closed : (list : List AttributeForm) (ts rest : List Token) → SpellsEach SpellsAttribute list ts rest → Ends rest → after_sign OPEN ts ≡ None
attributes_closed [] ts rest s end = ap (after_sign OPEN) s ∙ end_no_open rest end
attributes_closed (a ∷ list) ts rest (mid, s, more) end = attribute_closed a ts mid s

-- attributes as many as follow
attributes_read : (list : List AttributeForm) (ts rest : List Token) → SpellsEach SpellsAttribute list ts rest → Ends rest → attributes_at ts ≡ Some (pair (map attribute_value list) rest)
attributes_read list ts rest s end =
    ap (λ (m : List Attribute × List Token). Some (gathered [] m)) (each_read (past Nothing) attribute_at SpellsAttribute attribute_value attribute_shrinks one_mark_read list (length ts) ts rest s (omega arith) (no_attribute rest (λ word. end_no_word word rest end)))

abbrev AttributesRead : List Token → List Attribute × List Token → Type 0
AttributesRead ts x = Read (SpellsEach SpellsAttribute) (map attribute_value) ts x

attributes_spelled : (ts : List Token) (x : List Attribute × List Token) → attributes_at ts ≡ Some x → AttributesRead ts x
attributes_spelled ts x e =
    subst (AttributesRead ts) (same_value (gathered [] (more_at (past Nothing) attribute_at (length ts) ts)) x e) (each_spelled (past Nothing) attribute_at SpellsAttribute attribute_value attribute_spelled (length ts) ts)

-- a column
abbrev made_column : List ℕ → List ℕ → List Argument → List Attribute × List Token → ColumnDefinition × List Token
made_column name kind arguments attributes = (record { name = name; kind = kind; arguments = arguments; attributes = attributes.0 }, attributes.1)

abbrev last_step : List ℕ → List ℕ → List Argument → List Attribute × List Token → Option (ColumnDefinition × List Token)
last_step name kind arguments attributes = Some (made_column name kind arguments attributes)

abbrev arguments_step : List ℕ → List ℕ → List Argument × List Token → Option (ColumnDefinition × List Token)
arguments_step name kind arguments = option_and_then (last_step name kind arguments.0) (attributes_at arguments.1)

abbrev kind_step : List ℕ → List ℕ × List Token → Option (ColumnDefinition × List Token)
kind_step name kind = option_and_then (arguments_step name kind.0) (arguments_at kind.1)

abbrev name_step : List ℕ × List Token → Option (ColumnDefinition × List Token)
name_step name = option_and_then (kind_step name.0) (word_at name.1)

abbrev pub ColumnRead : List Token → ColumnDefinition × List Token → Type 0
ColumnRead ts x = Read SpellsColumn column_value ts x

column_same : (f : ColumnForm) (n k : List ℕ) (g : List Argument) (h : List Attribute) → f.name ≡ n → f.kind ≡ k → arguments_value f.arguments ≡ g → map attribute_value f.attributes ≡ h → column_value f ≡ record { name = n; kind = k; arguments = g; attributes = h }
column_same f n k g h a b c d =
    ap (λ (v : List ℕ). record { name = v; kind = f.kind; arguments = arguments_value f.arguments; attributes = map attribute_value f.attributes }) a
    ∙ ap (λ (v : List ℕ). record { name = n; kind = v; arguments = arguments_value f.arguments; attributes = map attribute_value f.attributes }) b
    ∙ ap (λ (v : List Argument). record { name = n; kind = k; arguments = v; attributes = map attribute_value f.attributes }) c
    ∙ ap (λ (v : List Attribute). record { name = n; kind = k; arguments = g; attributes = v }) d

pub column_spelled : (ts : List Token) (x : ColumnDefinition × List Token) → ((name : List ℕ) (mid : List Token) → Name name ts mid → ColumnName name ts mid) → column_at ts ≡ Some x → ColumnRead ts x
unfolding column_at
column_spelled ts x no_key e =
    let (name, name_is, e1) = stepped name_step (name_at ts) x e in
    let (kind, kind_is, e2) = stepped (kind_step name.0) (word_at name.1) x e1 in
    let (arguments, arguments_is, e3) = stepped (arguments_step name.0 kind.0) (arguments_at kind.1) x e2 in
    let (attributes, attributes_is, same) = stepped (last_step name.0 kind.0 arguments.0) (attributes_at arguments.1) x e3 in
    let g = arguments_spelled kind.1 arguments arguments_is in
    let h = attributes_spelled arguments.1 attributes attributes_is in
    let form : ColumnForm = record { name = name.0; kind = kind.0; arguments = g.form; attributes = h.form } in
    subst (ColumnRead ts) (same_value (made_column name.0 kind.0 arguments.0 attributes) x same) (record {
      form = form;
      spelled = (name.1, no_key name.0 name.1 (name_spelled ts name name_is), (kind.1, any_word_spelled name.1 kind kind_is, (arguments.1, g.spelled, h.spelled)));
      stands = column_same form name.0 kind.0 arguments.0 attributes.0 refl refl g.stands h.stands;
    })

name_of_column : (name : List ℕ) (ts rest : List Token) → ColumnName name ts rest → name_at ts ≡ Some (pair name rest)
name_of_column name [] rest s = absurd s
name_of_column name (t ∷ ts) rest s = ap (λ (b : Bool). cond b (Some (pair t.text ts)) None) s.0.1 ∙ ap (λ (n : List ℕ). Some (pair n ts)) s.0.2 ∙ ap (λ (us : List Token). Some (pair name us)) s.1

pub column_read : (c : ColumnForm) (ts rest : List Token) → SpellsColumn c ts rest → Ends rest → column_at ts ≡ Some (pair (column_value c) rest)
unfolding column_at
column_read c ts rest (n, name_is, (k, kind_is, (a, arguments_are, attributes_are))) end =
    then_gives name_step (name_of_column c.name ts n name_is)
    (then_gives (kind_step c.name) (any_word_read c.kind n k kind_is)
    (then_gives (arguments_step c.name c.kind) (arguments_read c.arguments k a arguments_are (attributes_closed c.attributes a rest attributes_are end))
    (then_gives (last_step c.name c.kind (arguments_value c.arguments)) (attributes_read c.attributes a rest attributes_are end) refl)))

pub column_shrinks : (c : ColumnForm) → Shrinks (SpellsColumn c)
column_shrinks c =
    then_shrinks (ColumnName c.name) (AnyWord c.kind >> SpellsArguments c.arguments >> SpellsEach SpellsAttribute c.attributes) (one_shrinks _)
    (then_within (AnyWord c.kind) (SpellsArguments c.arguments >> SpellsEach SpellsAttribute c.attributes) (shrinks_within (AnyWord c.kind) (any_word_shrinks c.kind))
    (then_within (SpellsArguments c.arguments) (SpellsEach SpellsAttribute c.attributes) (arguments_within c.arguments)
    (each_within SpellsAttribute (λ a. shrinks_within (SpellsAttribute a) (attribute_shrinks a)) c.attributes)))
