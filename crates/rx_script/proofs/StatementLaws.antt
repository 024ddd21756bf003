-- A segment: what is read is a statement, a statement is read, and so two statements that one segment spells are one.
use Rattle.std.proofs.Common.{◌≡◌, List, [], Option, Some, None, refl, sym, ap, subst, ◌∙◌, ⊎_elim, codes}
use Rattle.std.specs.Prelude.{Result, Ok, Err, IfOk}
use Rattle.std.specs.Option.{option_and_then, option_or, option_map}
use Rattle.rx_token.specs.declared.kinds.Token.{Token}
use Rattle.rx_reading.specs.Reading.{after_word}
use Rattle.rx_reading.specs.Forms.{Listed, values}
use Rattle.rx_reading.proofs.Steps.{then_none, one_of, first_gives, second_gives, same_value}
use Rattle.rx_reading.proofs.FirstTokens.{word_no_word}
use Rattle.rx_script.specs.declared.statements.RawSetting.{RawSetting}
use Rattle.rx_script.specs.declared.statements.RawStatement.{RawStatement}
use Rattle.rx_script.specs.Statements.{WrittenSelect, Written, select, change, written_of}
use Rattle.rx_script.specs.Selects.{head_at, select_at}
use Rattle.rx_script.specs.Sets.{set_at}
use Rattle.rx_script.specs.Reading.{statement_at}
use Rattle.rx_script.specs.Grammar.{SelectForm, SpellsSelect, select_value, SettingForm, SpellsSet, setting_value, IsStatement, Judges}
use Rattle.rx_script.proofs.SelectLaws.{quantity_step, head_step, select_spelled, select_read}
use Rattle.rx_script.proofs.SetLaws.{set_spelled, set_read}

abbrev as_select : WrittenSelect → Written
as_select s = select s

abbrev as_change : List RawSetting → Written
as_change settings = change settings

mapped : {A B : Type 0} (f : A → B) (o : Option A) (y : B) → option_map f o ≡ Some y → (x : A) × (o ≡ Some x) × (f x ≡ y)
mapped f None y e = absurd cc
mapped f (Some x) y e = (x, refl, same_value (f x) y e)

select_is : (ts : List Token) (s : WrittenSelect) (w : Written) → select_at ts ≡ Some s → select s ≡ w → IsStatement ts w
select_is ts s w e same = subst (IsStatement ts) same (select_spelled ts s e)

change_is : (ts : List Token) (settings : List RawSetting) (w : Written) → set_at ts ≡ Some settings → change settings ≡ w → IsStatement ts w
change_is ts settings w e same = subst (IsStatement ts) same (set_spelled ts settings e)

-- what is read is a statement
pub statement_spelled : (ts : List Token) (w : Written) → statement_at ts ≡ Some w → IsStatement ts w
unfolding statement_at
statement_spelled ts w e =
    ⊎_elim (λ f. let (s, is, same) = mapped as_select (select_at ts) w f in select_is ts s w is same)
    (λ f. let (settings, is, same) = mapped as_change (set_at ts) w f in change_is ts settings w is same)
    (one_of (option_map as_select (select_at ts)) (option_map as_change (set_at ts)) w e)

no_select : (ts : List Token) → after_word (codes "SELECT") ts ≡ None → select_at ts ≡ None
unfolding select_at head_at
no_select ts none = then_none head_step (then_none quantity_step none)

-- a statement is read
pub statement_read : (ts : List Token) (w : Written) → IsStatement ts w → statement_at ts ≡ Some w
unfolding statement_at
statement_read ts (select w) (s, spelled, stands) =
    first_gives (option_map as_change (set_at ts)) (ap (option_map as_select) (select_read s ts spelled) ∙ ap (λ (v : WrittenSelect). Some (select v)) stands)
statement_read ts (change settings) (list, (behind, word, s), stands) =
    second_gives (ap (option_map as_select) (no_select ts (word_no_word (codes "SET") (codes "SELECT") refl ts behind word)))
    (ap (option_map as_change) (set_read list ts (behind, word, s)) ∙ ap (λ (v : List RawSetting). Some (change v)) stands)

none_is_some : (w : Written) → None ≡ Some w → ⊥
none_is_some w e = cc

pub judged : (ts : List Token) (o : Option Written) → o ≡ statement_at ts → Judges ts o
judged ts (Some w) e = statement_spelled ts w (sym e)
judged ts None e = λ w is. none_is_some w (e ∙ statement_read ts w is)

pub only : (ts : List Token) (a b : Written) → IsStatement ts a → IsStatement ts b → a ≡ b
only ts a b is other = same_value a b (sym (statement_read ts a is) ∙ statement_read ts b other)

-- the same of a result
pub answer_judged : {E : Type 0} (ts : List Token) (r : Result (Option RawStatement) E) → IfOk r (λ o. option_map written_of o ≡ statement_at ts) → IfOk r (λ o. Judges ts (option_map written_of o))
answer_judged ts (Ok o) e = judged ts (option_map written_of o) e
answer_judged ts (Err fault) e = tt
