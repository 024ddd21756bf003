-- SET: what is read is spelled, and what is spelled is read.
use Rattle.std.proofs.Common.{◌≡◌, ℕ, Bool, true, false, List, [], ◌∷◌, Option, Some, None, refl, sym, ap, subst, ◌∙◌, ⊎_elim, codes}
use Rattle.std.specs.Option.{option_and_then, option_or}
use Rattle.rx_token.specs.declared.kinds.Token.{Token}
use Rattle.rx_token.specs.declared.kinds.TokenKind.{TokenKind}
use Rattle.rx_token.specs.declared.kinds.TokenKind.TheVariants as k
use Rattle.rx_token.specs.declared.signs.TheConstants.{COMMA, EQUAL, PLUS, MINUS}
use Rattle.rx_reading.specs.Reading.{after_word, after_sign, word_at, text_at, number_at, number_in, is_sign_kind, items_at}
use Rattle.rx_reading.specs.Forms.{Form, NoToken, ◌>>◌, Word, AnyWord, Number, Sign, Text, Listed, values, SpellsListed}
use Rattle.rx_reading.proofs.Steps.{stepped, then_gives, then_none, one_of, first_gives, second_gives, same_value}
use Rattle.rx_reading.proofs.Spelled.{word_spelled, word_read, sign_spelled, sign_read, text_spelled, text_read, Read, items_spelled}
use Rattle.rx_reading.proofs.Each.{Shrinks, Within, shrinks_within, within_then, then_shrinks, then_within, no_token_within, list_read}
use Rattle.rx_reading.proofs.FirstTokens.{pair, sign_shrinks, word_shrinks, any_word_shrinks, text_shrinks, number_shrinks, word_no_sign, word_no_word, any_word_no_sign, sign_no_sign, text_no_number, no_number_here, number_no_text, any_word_spelled, any_word_read, number_spelled, number_read}
use Rattle.rx_where.proofs.Leads.{first_free, others_free, free, no_word, no_sign}
use Rattle.rx_where.proofs.Leads as lead
use Rattle.rx_where.proofs.OperandLaws.{begins_word, begins_sign, begins_text}
use Rattle.rx_script.specs.declared.statements.RawValue.{RawValue}
use Rattle.rx_script.specs.declared.statements.RawValue.TheVariants as value
use Rattle.rx_script.specs.declared.statements.RawSetting.{RawSetting}
use Rattle.rx_script.specs.Selects.{if_whole}
use Rattle.rx_script.specs.Sets.{plain_name_at, setting_name_at, plain_number_at, number_value_of, number_value_at, text_value_at, default_at, value_at, setting_at, set_at}
use Rattle.rx_script.specs.Grammar.{ValueForm, number, plus, minus, string, default_value, SpellsValue, value_value, ScopeForm, no_scope, session, SpellsScope, SettingForm, SpellsSetting, setting_value, SpellsSet}
use Rattle.rx_script.proofs.ItemLaws.{Anything, comma_within}
use Rattle.rx_script.proofs.SelectLaws.{whole_by}

-- a word and "="
abbrev equal_step : List ℕ → List Token → Option (List ℕ × List Token)
equal_step word rest = Some (pair word rest)

abbrev word_step : List ℕ × List Token → Option (List ℕ × List Token)
word_step word = option_and_then (equal_step word.0) (after_sign EQUAL word.1)

plain_name_spelled : (ts : List Token) (x : List ℕ × List Token) → plain_name_at ts ≡ Some x → (AnyWord x.0 >> Sign EQUAL) ts x.1
plain_name_spelled ts x e =
    let (y, is, next) = stepped word_step (word_at ts) x e in
    let (rest, equal, same) = stepped (equal_step y.0) (after_sign EQUAL y.1) x next in
    subst (λ (z : List ℕ × List Token). (AnyWord z.0 >> Sign EQUAL) ts z.1) (same_value (pair y.0 rest) x same) (y.1, any_word_spelled ts y is, sign_spelled EQUAL y.1 rest equal)

plain_name_read : (name : List ℕ) (ts mid rest : List Token) → AnyWord name ts mid → Sign EQUAL mid rest → plain_name_at ts ≡ Some (pair name rest)
plain_name_read name ts mid rest word equal = then_gives word_step (any_word_read name ts mid word) (then_gives (equal_step name) (sign_read EQUAL mid rest equal) refl)

record NameRead (ts : List Token) (x : List ℕ × List Token) : Type 0 where
  pub scope : ScopeForm
  pub spelled : (SpellsScope scope >> AnyWord x.0 >> Sign EQUAL) ts x.1

name_spelled : (ts : List Token) (x : List ℕ × List Token) → setting_name_at ts ≡ Some x → NameRead ts x
name_spelled ts x e =
    ⊎_elim (λ f. record { scope = no_scope; spelled = (ts, refl, plain_name_spelled ts x f) })
    (λ f.
    let (behind, is, next) = stepped plain_name_at (after_word (codes "SESSION") ts) x f in
    record { scope = session; spelled = (behind, word_spelled (codes "SESSION") ts behind is, plain_name_spelled behind x next) })
    (one_of (plain_name_at ts) (option_and_then plain_name_at (after_word (codes "SESSION") ts)) x e)

-- the word SESSION and another word behind it
no_plain : (w : List ℕ) (ts behind : List Token) → Word w ts behind → after_sign EQUAL behind ≡ None → plain_name_at ts ≡ None
no_plain w [] behind s none = absurd s
no_plain w (t ∷ ts) behind s none = by_first (word_at (t ∷ ts)) refl
  where
    by_first : (o : Option (List ℕ × List Token)) → word_at (t ∷ ts) ≡ o → option_and_then word_step o ≡ None
    by_first None is = refl
    by_first (Some y) is =
        let (first, b) = any_word_spelled (t ∷ ts) y is in
        then_none (equal_step y.0) (ap (after_sign EQUAL) (sym b ∙ s.1) ∙ none)

name_read : (scope : ScopeForm) (name : List ℕ) (ts front mid rest : List Token) → SpellsScope scope ts front → AnyWord name front mid → Sign EQUAL mid rest → setting_name_at ts ≡ Some (pair name rest)
name_read no_scope name ts front mid rest s word equal =
    first_gives (option_and_then plain_name_at (after_word (codes "SESSION") ts)) (ap plain_name_at s ∙ plain_name_read name front mid rest word equal)
name_read session name ts front mid rest s word equal =
    second_gives (no_plain (codes "SESSION") ts front s (any_word_no_sign name EQUAL front mid word))
    (then_gives plain_name_at (word_read (codes "SESSION") ts front s) (plain_name_read name front mid rest word equal))

-- values
abbrev ValueRead : List Token → RawValue × List Token → Type 0
ValueRead ts x = Read SpellsValue value_value ts x

abbrev number_step : Bool → ℕ × List Token → Option (RawValue × List Token)
number_step negative n = Some (pair (value.Number negative n.0) n.1)

abbrev text_step : List ℕ × List Token → Option (RawValue × List Token)
text_step text = Some (pair (value.Text text.0) text.1)

abbrev default_step : List Token → Option (RawValue × List Token)
default_step rest = Some (pair value.Default rest)

number_by : (ts : List Token) (o p : Option (List Token)) → after_sign PLUS ts ≡ o → after_sign MINUS ts ≡ p → (x : RawValue × List Token) → number_value_of ts o p ≡ Some x → ValueRead ts x
number_by ts None None no_plus no_minus x e =
    let (y, is, same) = stepped (number_step false) (number_at ts) x e in
    subst (ValueRead ts) (same_value (pair (value.Number false y.0) y.1) x same) (record { form = number y.0; spelled = number_spelled ts y is; stands = refl })
number_by ts (Some behind) p plus_is p_is x e =
    let (y, is, same) = stepped (number_step false) (number_at behind) x e in
    subst (ValueRead ts) (same_value (pair (value.Number false y.0) y.1) x same) (record { form = plus y.0; spelled = (behind, sign_spelled PLUS ts behind plus_is, number_spelled behind y is); stands = refl })
number_by ts None (Some behind) no_plus minus_is x e =
    let (y, is, same) = stepped (number_step true) (number_at behind) x e in
    subst (ValueRead ts) (same_value (pair (value.Number true y.0) y.1) x same) (record { form = minus y.0; spelled = (behind, sign_spelled MINUS ts behind minus_is, number_spelled behind y is); stands = refl })

value_spelled : (ts : List Token) (x : RawValue × List Token) → value_at ts ≡ Some x → ValueRead ts x
unfolding value_at
value_spelled ts x e =
    ⊎_elim (number_by ts (after_sign PLUS ts) (after_sign MINUS ts) refl refl x)
    (λ f. ⊎_elim
    (λ g.
    let (rest, is, same) = stepped default_step (after_word (codes "DEFAULT") ts) x g in
    subst (ValueRead ts) (same_value (pair value.Default rest) x same) (record { form = default_value; spelled = word_spelled (codes "DEFAULT") ts rest is; stands = refl }))
    (λ g.
    let (y, is, same) = stepped text_step (text_at ts) x g in
    subst (ValueRead ts) (same_value (pair (value.Text y.0) y.1) x same) (record { form = string y.0; spelled = text_spelled ts y is; stands = refl }))
    (one_of (default_at ts) (text_value_at ts) x f))
    (one_of (number_value_at ts) (option_or (default_at ts) (text_value_at ts)) x e)

number_signless : (n m : ℕ) (kind : TokenKind) → number_in kind ≡ Some n → is_sign_kind m kind ≡ false
number_signless n m k.Word e = refl
number_signless n m k.Quoted e = refl
number_signless n m (k.Number i) e = refl
number_signless n m k.Str e = refl
number_signless n m (k.Sign i) e = absurd cc

number_no_sign : (n m : ℕ) (ts rest : List Token) → Number n ts rest → after_sign m ts ≡ None
number_no_sign n m [] rest s = absurd s
number_no_sign n m (t ∷ ts) rest s = no_sign m (t ∷ ts) (number_signless n m t.kind s.0)

word_numberless : (w : List ℕ) (ts rest : List Token) → Word w ts rest → number_at ts ≡ None
word_numberless w [] rest s = absurd s
word_numberless w (t ∷ ts) rest s = no_number_here t ts (numberless t.kind t.text (begins_word w (t ∷ ts) rest s))
  where
    numberless : (kind : TokenKind) (text : List ℕ) → lead.is_kind (lead.word w) kind text ≡ true → number_in kind ≡ None
    numberless k.Word text e = refl
    numberless k.Quoted text e = absurd cc
    numberless (k.Number i) text e = absurd cc
    numberless k.Str text e = absurd cc
    numberless (k.Sign i) text e = absurd cc

unsigned : (ts : List Token) → after_sign PLUS ts ≡ None → after_sign MINUS ts ≡ None → number_value_at ts ≡ plain_number_at false ts
unsigned ts no_plus no_minus = ap (λ (o : Option (List Token)). number_value_of ts o (after_sign MINUS ts)) no_plus ∙ ap (number_value_of ts None) no_minus

text_no_sign : (text : List ℕ) (n : ℕ) (ts rest : List Token) → Text text ts rest → after_sign n ts ≡ None
text_no_sign text n ts rest s = no_sign n ts (first_free (lead.sign n) [] ts (free lead.text (lead.sign n ∷ []) ts refl (begins_text text ts rest s)))

text_no_word : (text w : List ℕ) (ts rest : List Token) → Text text ts rest → after_word w ts ≡ None
text_no_word text w ts rest s = no_word w ts (first_free (lead.word w) [] ts (free lead.text (lead.word w ∷ []) ts refl (begins_text text ts rest s)))

value_read : (v : ValueForm) (ts rest : List Token) → SpellsValue v ts rest → value_at ts ≡ Some (pair (value_value v) rest)
unfolding value_at
value_read (number n) ts rest s =
    first_gives (option_or (default_at ts) (text_value_at ts)) (unsigned ts (number_no_sign n PLUS ts rest s) (number_no_sign n MINUS ts rest s) ∙ then_gives (number_step false) (number_read n ts rest s) refl)
value_read (plus n) ts rest (behind, sign, s) =
    first_gives (option_or (default_at ts) (text_value_at ts)) (ap (λ (o : Option (List Token)). number_value_of ts o (after_sign MINUS ts)) (sign_read PLUS ts behind sign) ∙ then_gives (number_step false) (number_read n behind rest s) refl)
value_read (minus n) ts rest (behind, sign, s) =
    first_gives (option_or (default_at ts) (text_value_at ts))
    (ap (λ (o : Option (List Token)). number_value_of ts o (after_sign MINUS ts)) (sign_no_sign MINUS PLUS refl ts behind sign)
    ∙ ap (number_value_of ts None) (sign_read MINUS ts behind sign) ∙ then_gives (number_step true) (number_read n behind rest s) refl)
value_read (string text) ts rest s =
    second_gives (unsigned ts (text_no_sign text PLUS ts rest s) (text_no_sign text MINUS ts rest s) ∙ then_none (number_step false) (text_no_number text ts rest s))
    (second_gives (then_none default_step (text_no_word text (codes "DEFAULT") ts rest s)) (then_gives text_step (text_read text ts rest s) refl))
value_read default_value ts rest s =
    second_gives (unsigned ts (word_no_sign (codes "DEFAULT") PLUS ts rest s) (word_no_sign (codes "DEFAULT") MINUS ts rest s) ∙ then_none (number_step false) (word_numberless (codes "DEFAULT") ts rest s))
    (first_gives (text_value_at ts) (then_gives default_step (word_read (codes "DEFAULT") ts rest s) refl))

-- a setting
abbrev made_setting : List ℕ → RawValue → RawSetting
made_setting name v = record { name = name; value = v }

abbrev value_step : List ℕ → RawValue × List Token → Option (RawSetting × List Token)
value_step name v = Some (pair (made_setting name v.0) v.1)

abbrev name_step : List ℕ × List Token → Option (RawSetting × List Token)
name_step name = option_and_then (value_step name.0) (value_at name.1)

abbrev SettingRead : List Token → RawSetting × List Token → Type 0
SettingRead ts x = Read SpellsSetting setting_value ts x

setting_spelled : (ts : List Token) (x : RawSetting × List Token) → setting_at ts ≡ Some x → SettingRead ts x
unfolding setting_at
setting_spelled ts x e =
    let (name, name_is, e1) = stepped name_step (setting_name_at ts) x e in
    let (v, v_is, same) = stepped (value_step name.0) (value_at name.1) x e1 in
    let n = name_spelled ts name name_is in
    let r = value_spelled name.1 v v_is in
    let (front, scope, (mid, word, equal)) = n.spelled in
    subst (SettingRead ts) (same_value (pair (made_setting name.0 v.0) v.1) x same) (record {
      form = record { scope = n.scope; name = name.0; value = r.form };
      spelled = (front, scope, (mid, word, (name.1, equal, r.spelled)));
      stands = ap (made_setting name.0) r.stands;
    })

setting_read : (s : SettingForm) (ts rest : List Token) → SpellsSetting s ts rest → setting_at ts ≡ Some (pair (setting_value s) rest)
unfolding setting_at
setting_read s ts rest (front, scope, (mid, word, (behind, equal, v))) =
    then_gives name_step (name_read s.scope s.name ts front mid behind scope word equal) (then_gives (value_step s.name) (value_read s.value behind rest v) refl)

scope_within : (s : ScopeForm) → Within (SpellsScope s)
scope_within no_scope = no_token_within
scope_within session = shrinks_within (Word (codes "SESSION")) (word_shrinks (codes "SESSION"))

value_shrinks : (v : ValueForm) → Shrinks (SpellsValue v)
value_shrinks (number n) = number_shrinks n
value_shrinks (plus n) = then_shrinks (Sign PLUS) (Number n) (sign_shrinks PLUS) (shrinks_within (Number n) (number_shrinks n))
value_shrinks (minus n) = then_shrinks (Sign MINUS) (Number n) (sign_shrinks MINUS) (shrinks_within (Number n) (number_shrinks n))
value_shrinks (string text) = text_shrinks text
value_shrinks default_value = word_shrinks (codes "DEFAULT")

setting_shrinks : (s : SettingForm) → Shrinks (SpellsSetting s)
setting_shrinks s =
    within_then (SpellsScope s.scope) (AnyWord s.name >> Sign EQUAL >> SpellsValue s.value) (scope_within s.scope)
    (then_shrinks (AnyWord s.name) (Sign EQUAL >> SpellsValue s.value) (any_word_shrinks s.name)
    (then_within (Sign EQUAL) (SpellsValue s.value) (shrinks_within (Sign EQUAL) (sign_shrinks EQUAL)) (shrinks_within (SpellsValue s.value) (value_shrinks s.value))))

-- a SET
abbrev list_step : List RawSetting × List Token → Option (List RawSetting)
list_step list = if_whole list.0 list.1

abbrev set_step : List Token → Option (List RawSetting)
set_step behind = option_and_then list_step (items_at (after_sign COMMA) setting_at behind)

pub set_spelled : (ts : List Token) (settings : List RawSetting) → set_at ts ≡ Some settings → (list : Listed SettingForm) × SpellsSet list ts [] × (values setting_value list ≡ settings)
unfolding set_at
set_spelled ts settings e =
    let (behind, is, e1) = stepped set_step (after_word (codes "SET") ts) settings e in
    let (y, y_is, e2) = stepped list_step (items_at (after_sign COMMA) setting_at behind) settings e1 in
    let (end, same) = whole_by y.0 settings y.1 e2 in
    let r = items_spelled (after_sign COMMA) (Sign COMMA) setting_at SpellsSetting setting_value (sign_spelled COMMA) setting_spelled behind y y_is in
    (r.form, subst (SpellsSet r.form ts) end (behind, word_spelled (codes "SET") ts behind is, r.spelled), r.stands ∙ same)

pub set_read : (list : Listed SettingForm) (ts : List Token) → SpellsSet list ts [] → set_at ts ≡ Some (values setting_value list)
unfolding set_at
set_read list ts (behind, word, s) =
    then_gives set_step (word_read (codes "SET") ts behind word)
    (then_gives list_step (list_read (after_sign COMMA) (Sign COMMA) setting_at SpellsSetting setting_value Anything (sign_read COMMA) comma_within (λ us mid comma. tt) setting_shrinks (λ d us end spelled stops. setting_read d us end spelled) list behind [] s tt refl) refl)
