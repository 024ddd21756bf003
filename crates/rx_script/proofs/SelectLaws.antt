-- SELECT: what is read is spelled, and what is spelled is read.
use Rattle.std.proofs.Common.{◌≡◌, ℕ, Bool, true, false, ◌==◌, List, [], ◌∷◌, length, map, Option, Some, None, refl, sym, ap, subst, ◌∙◌, codes}
use Rattle.std.specs.Option.{option_and_then}
use Rattle.rx_token.specs.declared.kinds.Token.{Token}
use Rattle.rx_token.specs.declared.signs.TheConstants.{OPEN, COMMA}
use Rattle.rx_reading.specs.Reading.{after_word, after_sign, name_at}
use Rattle.rx_reading.specs.Forms.{◌>>◌, Word, Name, SpellsEach}
use Rattle.rx_reading.proofs.Steps.{stepped, then_gives, same_value}
use Rattle.rx_reading.proofs.Spelled.{word_spelled, word_read, name_spelled, name_read, Read}
use Rattle.rx_reading.proofs.FirstTokens.{pair, word_no_sign}
use Rattle.rx_where.proofs.Leads.{first_free, others_free, no_word}
use Rattle.rx_where.proofs.Leads as lead
use Rattle.rx_script.specs.declared.statements.RawItems.{RawItems}
use Rattle.rx_script.specs.declared.statements.RawHint.{RawHint}
use Rattle.rx_script.specs.declared.selects.Head.{Head}
use Rattle.rx_script.specs.declared.selects.Source.{Source}
use Rattle.rx_script.specs.Items.{quantity_at, select_list_at}
use Rattle.rx_script.specs.Hints.{hint_at, hints_at}
use Rattle.rx_script.specs.Clauses.{WrittenClauses, clauses_at}
use Rattle.rx_script.specs.Statements.{WrittenSelect}
use Rattle.rx_script.specs.Selects.{head_at, source_at, made_select, if_whole, select_at}
use Rattle.rx_script.specs.Grammar.{QuantityForm, is_distinct, ItemsForm, items_value, HintForm, SpellsHint, hint_value, SelectForm, SpellsHead, SpellsSource, SpellsSelect, select_value}
use Rattle.rx_script.proofs.ItemLaws.{select_list_quiet, select_list_spelled, select_list_read, quantity_spelled, quantity_read}
use Rattle.rx_script.proofs.HintLaws.{hints_spelled, hints_read, no_hint}
use Rattle.rx_script.proofs.ClauseLaws.{clauses_value, clauses_spelled, clauses_read, clauses_quiet}

-- what stands before FROM
abbrev made_head : Bool → RawItems → Head
made_head distinct items = record { distinct = distinct; items = items }

abbrev items_step : Bool → RawItems × List Token → Option (Head × List Token)
items_step distinct items = Some (pair (made_head distinct items.0) items.1)

abbrev pub quantity_step : List Token → Option (Head × List Token)
quantity_step behind = option_and_then (items_step (quantity_at behind).0) (select_list_at (quantity_at behind).1)

record HeadRead (ts : List Token) (x : Head × List Token) : Type 0 where
  pub quantity : QuantityForm
  pub list : ItemsForm
  pub spelled : SpellsHead quantity list ts x.1
  pub stands : made_head (is_distinct quantity) (items_value list) ≡ x.0

head_spelled : (ts : List Token) (x : Head × List Token) → head_at ts ≡ Some x → HeadRead ts x
unfolding head_at
head_spelled ts x e =
    let (behind, is, e1) = stepped quantity_step (after_word (codes "SELECT") ts) x e in
    let q = quantity_spelled behind in
    let (y, items_are, same) = stepped (items_step (quantity_at behind).0) (select_list_at (quantity_at behind).1) x e1 in
    let l = select_list_spelled (quantity_at behind).1 y items_are in
    subst (HeadRead ts) (same_value (pair (made_head (quantity_at behind).0 y.0) y.1) x same) (record {
      quantity = q.form;
      list = l.form;
      spelled = (behind, word_spelled (codes "SELECT") ts behind is, ((quantity_at behind).1, q.spelled, l.spelled));
      stands = ap (λ (d : Bool). made_head d (items_value l.form)) q.stands ∙ ap (λ (i : RawItems). made_head (quantity_at behind).0 i) l.stands;
    })

head_read : (q : QuantityForm) (l : ItemsForm) (ts rest : List Token) → SpellsHead q l ts rest → after_sign OPEN rest ≡ None → after_sign COMMA rest ≡ None → head_at ts ≡ Some (pair (made_head (is_distinct q) (items_value l)) rest)
unfolding head_at
head_read q l ts rest (behind, word, (mid, q_is, l_is)) no_open no_comma =
    then_gives quantity_step (word_read (codes "SELECT") ts behind word)
    (ap (λ (x : Bool × List Token). option_and_then (items_step x.0) (select_list_at x.1)) (quantity_read q behind mid q_is (select_list_quiet l mid rest l_is))
    ∙ then_gives (items_step (is_distinct q)) (select_list_read l mid rest l_is no_open no_comma) refl)

-- the table and its hints
abbrev made_source : List ℕ → List RawHint → Source
made_source table hints = record { table = table; hints = hints }

abbrev hints_step : List ℕ → List RawHint × List Token → Option (Source × List Token)
hints_step table hints = Some (pair (made_source table hints.0) hints.1)

abbrev table_step : List ℕ × List Token → Option (Source × List Token)
table_step table = option_and_then (hints_step table.0) (hints_at table.1)

abbrev from_step : List Token → Option (Source × List Token)
from_step behind = option_and_then table_step (name_at behind)

record SourceRead (ts : List Token) (x : Source × List Token) : Type 0 where
  pub table : List ℕ
  pub hints : List HintForm
  pub spelled : SpellsSource table hints ts x.1
  pub stands : made_source table (map hint_value hints) ≡ x.0

source_spelled : (ts : List Token) (x : Source × List Token) → source_at ts ≡ Some x → SourceRead ts x
unfolding source_at
source_spelled ts x e =
    let (behind, is, e1) = stepped from_step (after_word (codes "FROM") ts) x e in
    let (table, table_is, e2) = stepped table_step (name_at behind) x e1 in
    let (y, hints_are, same) = stepped (hints_step table.0) (hints_at table.1) x e2 in
    let h = hints_spelled table.1 y hints_are in
    subst (SourceRead ts) (same_value (pair (made_source table.0 y.0) y.1) x same) (record {
      table = table.0;
      hints = h.form;
      spelled = (behind, word_spelled (codes "FROM") ts behind is, (table.1, name_spelled behind table table_is, h.spelled));
      stands = ap (made_source table.0) h.stands;
    })

source_read : (table : List ℕ) (hints : List HintForm) (ts rest : List Token) → SpellsSource table hints ts rest → hint_at rest ≡ None → source_at ts ≡ Some (pair (made_source table (map hint_value hints)) rest)
unfolding source_at
source_read table hints ts rest (behind, word, (mid, name, h)) none =
    then_gives from_step (word_read (codes "FROM") ts behind word)
    (then_gives table_step (name_read table behind mid name)
    (then_gives (hints_step table) (hints_read hints mid rest h none) refl))

-- a SELECT
abbrev clauses_step : Head → Source → WrittenClauses × List Token → Option WrittenSelect
clauses_step head source clauses = if_whole (made_select head source clauses.0) clauses.1

abbrev source_step : Head → Source × List Token → Option WrittenSelect
source_step head source = option_and_then (clauses_step head source.0) (clauses_at source.1)

abbrev pub head_step : Head × List Token → Option WrittenSelect
head_step head = option_and_then (source_step head.0) (source_at head.1)

pub whole_by : {A : Type 0} (a b : A) (ts : List Token) → if_whole a ts ≡ Some b → (ts ≡ []) × (a ≡ b)
whole_by a b [] e = (refl, same_value a b e)
whole_by a b (t ∷ ts) e = absurd cc

-- what is read is a SELECT
pub select_spelled : (ts : List Token) (w : WrittenSelect) → select_at ts ≡ Some w → (s : SelectForm) × SpellsSelect s ts [] × (select_value s ≡ w)
unfolding select_at
select_spelled ts w e =
    let (head, head_is, e1) = stepped head_step (head_at ts) w e in
    let (source, source_is, e2) = stepped (source_step head.0) (source_at head.1) w e1 in
    let (clauses, clauses_are, e3) = stepped (clauses_step head.0 source.0) (clauses_at source.1) w e2 in
    let (end, same) = whole_by (made_select head.0 source.0 clauses.0) w clauses.1 e3 in
    let h = head_spelled ts head head_is in
    let s = source_spelled head.1 source source_is in
    let c = clauses_spelled source.1 clauses clauses_are in
    let form : SelectForm = record { quantity = h.quantity; list = h.list; table = s.table; hints = s.hints; clauses = c.form } in (
      form,
      subst (SpellsSelect form ts) end (head.1, h.spelled, (source.1, s.spelled, c.spelled)),
      ap (λ (x : Head). made_select x (made_source s.table (map hint_value s.hints)) (clauses_value c.form)) h.stands
          ∙ ap (λ (x : Source). made_select head.0 x (clauses_value c.form)) s.stands
          ∙ ap (λ (x : WrittenClauses). made_select head.0 source.0 x) c.stands
          ∙ same,
    )

-- a SELECT is read
pub select_read : (s : SelectForm) (ts : List Token) → SpellsSelect s ts [] → select_at ts ≡ Some (select_value s)
unfolding select_at
select_read s ts (from, head_is, (behind, source_is, clauses_are)) =
    let (after, from_is, more) = source_is in
    let no_use : after_word (codes "USE") behind ≡ None = no_word (codes "USE") behind (first_free (lead.word (codes "USE")) [] behind (clauses_quiet (lead.word (codes "USE") ∷ []) refl refl refl s.clauses behind clauses_are)) in
    let no_ignore : after_word (codes "IGNORE") behind ≡ None = no_word (codes "IGNORE") behind (first_free (lead.word (codes "IGNORE")) [] behind (clauses_quiet (lead.word (codes "IGNORE") ∷ []) refl refl refl s.clauses behind clauses_are)) in
    then_gives head_step (head_read s.quantity s.list ts from head_is (word_no_sign (codes "FROM") OPEN from after from_is) (word_no_sign (codes "FROM") COMMA from after from_is))
    (then_gives (source_step (made_head (is_distinct s.quantity) (items_value s.list))) (source_read s.table s.hints from behind source_is (no_hint behind no_use no_ignore))
    (then_gives (clauses_step (made_head (is_distinct s.quantity) (items_value s.list)) (made_source s.table (map hint_value s.hints))) (clauses_read s.clauses behind clauses_are) refl))

more_left : {A : Type 0} (a : A) (rest : List Token) (b : Bool) → b ≡ (length rest == 0) → b ≡ false → if_whole a rest ≡ None
more_left a [] b e f = absurd cc
more_left a (t ∷ rest) b e f = refl

-- where something stands behind the clauses, there is no SELECT
pub unfinished : (ts : List Token) (head : Head) (from : List Token) (source : Source) (behind : List Token) (clauses : WrittenClauses) (rest : List Token) {b : Bool} → Some (pair head from) ≡ head_at ts → Some (pair source behind) ≡ source_at from → Some (pair clauses rest) ≡ clauses_at behind → b ≡ (length rest == 0) → b ≡ false → None ≡ select_at ts
unfolding select_at
unfinished ts head from source behind clauses rest {b} a e f empty more =
    sym (then_gives head_step (sym a) (then_gives (source_step head) (sym e) (then_gives (clauses_step head source) (sym f) (more_left (made_select head source clauses) rest b empty more))))
