-- Select lists: what is read is spelled, and what is spelled is read.
use Rattle.std.proofs.Common.{◌≡◌, ℕ, Bool, true, false, cond, List, [], ◌∷◌, Option, Some, None, refl, sym, ap, subst, ◌∙◌, ⊎_elim, codes}
use Rattle.std.specs.Option.{option_and_then, option_or}
use Rattle.std.specs.Str.{str_eq_ignore_ascii_case}
use Rattle.rx_token.specs.declared.kinds.Token.{Token}
use Rattle.rx_token.specs.declared.signs.TheConstants.{OPEN, CLOSE, COMMA, STAR}
use Rattle.rx_token.specs.Reserved.{is_word_of, is_reserved}
use Rattle.rx_reading.specs.Reading.{Reader, after_word, after_sign, name_at, items_at}
use Rattle.rx_reading.specs.Forms.{Form, ◌>>◌, Word, Sign, Name, Listed, last, before, values, SpellsListed}
use Rattle.rx_reading.proofs.Steps.{stepped, then_gives, then_none, one_of, first_gives, second_gives, same_value}
use Rattle.rx_reading.proofs.Spelled.{word_spelled, word_read, sign_spelled, sign_read, name_spelled, name_read, Read, items_spelled}
use Rattle.rx_reading.proofs.Each.{Shrinks, Within, one_shrinks, shrinks_within, then_shrinks, then_within, no_token_within, list_read, listed_shrinks}
use Rattle.rx_reading.proofs.FirstTokens.{pair, sign_shrinks, word_shrinks, word_no_word, word_no_sign, sign_no_sign, sign_no_word, close_no_comma}
use Rattle.rx_where.proofs.Leads.{What, starts, starts_any, free, first_free, others_free, no_word, no_sign}
use Rattle.rx_where.proofs.Leads as lead
use Rattle.rx_where.proofs.OperandLaws.{begins_word, begins_sign, begins_name}
use Rattle.rx_script.specs.declared.statements.Aggregate.{Aggregate}
use Rattle.rx_script.specs.declared.statements.Aggregate.TheVariants.{Count, Sum, Min, Max}
use Rattle.rx_script.specs.declared.statements.RawItem.{RawItem}
use Rattle.rx_script.specs.declared.statements.RawItem.TheVariants as item
use Rattle.rx_script.specs.declared.statements.RawItems.{RawItems}
use Rattle.rx_script.specs.declared.statements.RawItems.TheVariants as items
use Rattle.rx_script.specs.Items.{called_at, of_at, rows_at, different_at, counted_at, column_at, item_at, every_at, listed_at, select_list_at, quantity_of, quantity_at}
use Rattle.rx_script.specs.Grammar.{itself, SpellsNames, name_list, CountForm, rows, of_column, different, SpellsCount, count_item, FoldWord, sum, min, max, fold_word, fold_aggregate, ItemForm, column, counted, folded, Called, SpellsItem, item_value, ItemsForm, every, listed, SpellsItems, items_value, QuantityForm, unsaid, all, distinct, SpellsQuantity, is_distinct}

-- names
pub name_shrinks : (n : List ℕ) → Shrinks (Name n)
name_shrinks n = one_shrinks _

name_is : (ts : List Token) (x : List ℕ × List Token) → name_at ts ≡ Some x → Read Name itself ts x
name_is ts x e = record { form = x.0; spelled = name_spelled ts x e; stands = refl }

pub names_spelled : (ts : List Token) (x : List (List ℕ) × List Token) → items_at (after_sign COMMA) name_at ts ≡ Some x → Read SpellsNames name_list ts x
names_spelled ts x e = items_spelled (after_sign COMMA) (Sign COMMA) name_at Name itself (sign_spelled COMMA) name_is ts x e

-- anything may stand behind
abbrev pub Anything : List Token → Type 0
Anything ts = Unit {0}

pub comma_within : Within (Sign COMMA)
comma_within = shrinks_within (Sign COMMA) (sign_shrinks COMMA)

pub names_read : (list : Listed (List ℕ)) (ts rest : List Token) → SpellsNames list ts rest → after_sign COMMA rest ≡ None → items_at (after_sign COMMA) name_at ts ≡ Some (pair (name_list list) rest)
names_read list ts rest s none =
    list_read (after_sign COMMA) (Sign COMMA) name_at Name itself Anything (sign_read COMMA) comma_within (λ us mid comma. tt) name_shrinks (λ n us end spelled stops. name_read n us end spelled) list ts rest s tt none

-- a name begins with no word that is reserved, and with no sign
pub name_no_word : (w name : List ℕ) → lead.apart lead.name (lead.word w) ≡ true → (ts rest : List Token) → Name name ts rest → after_word w ts ≡ None
name_no_word w name d ts rest s = no_word w ts (first_free (lead.word w) [] ts (free lead.name (lead.word w ∷ []) ts (rw d refl) (begins_name name ts rest s)))

pub name_no_sign : (n : ℕ) (name : List ℕ) (ts rest : List Token) → Name name ts rest → after_sign n ts ≡ None
name_no_sign n name ts rest s = no_sign n ts (first_free (lead.sign n) [] ts (free lead.name (lead.sign n ∷ []) ts refl (begins_name name ts rest s)))

-- a word, and what stands between parentheses behind it
module _ {A : Type 0} (p : Reader A) where
  abbrev close_step : A × List Token → Option (A × List Token)
  close_step x = option_and_then (λ (rest : List Token). Some (pair x.0 rest)) (after_sign CLOSE x.1)

  abbrev open_step : List Token → Option (A × List Token)
  open_step behind = option_and_then close_step (p behind)

  abbrev word_step : List Token → Option (A × List Token)
  word_step front = option_and_then open_step (after_sign OPEN front)

  called_spelled : {D : Type 0} (word : List ℕ) (form : D → Form) (value : D → A) → ((ts : List Token) (x : A × List Token) → p ts ≡ Some x → Read form value ts x) → (ts : List Token) (x : A × List Token) → called_at word p ts ≡ Some x → Read (λ d. Called word (form d)) value ts x
  called_spelled word form value read ts x e =
      let (front, word_is, e1) = stepped word_step (after_word word ts) x e in
      let (behind, opened, e2) = stepped open_step (after_sign OPEN front) x e1 in
      let (y, y_is, e3) = stepped close_step (p behind) x e2 in
      let (rest, closed, same) = stepped (λ (rest : List Token). Some (pair y.0 rest)) (after_sign CLOSE y.1) x e3 in
      let r = read behind y y_is in
      subst (Read (λ d. Called word (form d)) value ts) (same_value (pair y.0 rest) x same) (record {
        form = r.form;
        spelled = (front, word_spelled word ts front word_is, (behind, sign_spelled OPEN front behind opened, (y.1, r.spelled, sign_spelled CLOSE y.1 rest closed)));
        stands = r.stands;
      })

  called_read : (word : List ℕ) (inner : Form) (v : A) → ((ts mid rest : List Token) → inner ts mid → Sign CLOSE mid rest → p ts ≡ Some (pair v mid)) → (ts rest : List Token) → Called word inner ts rest → called_at word p ts ≡ Some (pair v rest)
  called_read word inner v back ts rest (front, word_is, (behind, opened, (mid, s, closed))) =
      then_gives word_step (word_read word ts front word_is)
      (then_gives open_step (sign_read OPEN front behind opened)
      (then_gives close_step (back behind mid rest s closed)
      (then_gives (λ (rest : List Token). Some (pair v rest)) (sign_read CLOSE mid rest closed) refl)))

  no_call : (word : List ℕ) (ts : List Token) → after_word word ts ≡ None → called_at word p ts ≡ None
  no_call word ts none = then_none word_step none

  -- another word is called
  other_call : (v word : List ℕ) (inner : Form) → str_eq_ignore_ascii_case v word ≡ false → (ts rest : List Token) → Called v inner ts rest → called_at word p ts ≡ None
  other_call v word inner d ts rest (front, word_is, s) = no_call word ts (word_no_word v word d ts front word_is)

  by_word : (b : Bool) (ts rest : List Token) → ts ≡ rest → after_sign OPEN rest ≡ None → option_and_then word_step (cond b (Some ts) None) ≡ None
  by_word true ts rest e none = then_none open_step (ap (after_sign OPEN) e ∙ none)
  by_word false ts rest e none = refl

  -- a name without a parenthesis behind it calls nothing
  unopened : (word name : List ℕ) (ts rest : List Token) → Name name ts rest → after_sign OPEN rest ≡ None → called_at word p ts ≡ None
  unopened word name [] rest s none = absurd s
  unopened word name (t ∷ ts) rest s none = by_word (is_word_of word t) ts rest s.1 none

-- what stands between the parentheses of COUNT
abbrev rows_step : List Token → Option (RawItem × List Token)
rows_step rest = Some (pair item.CountRows rest)

abbrev names_step : List (List ℕ) × List Token → Option (RawItem × List Token)
names_step names = Some (pair (item.CountDistinct names.0) names.1)

abbrev distinct_step : List Token → Option (RawItem × List Token)
distinct_step behind = option_and_then names_step (items_at (after_sign COMMA) name_at behind)

abbrev of_step : Aggregate → List ℕ × List Token → Option (RawItem × List Token)
of_step aggregate name = Some (pair (item.Of aggregate name.0) name.1)

abbrev CountRead : List Token → RawItem × List Token → Type 0
CountRead ts x = Read SpellsCount count_item ts x

of_spelled : (aggregate : Aggregate) (ts : List Token) (x : RawItem × List Token) → of_at aggregate ts ≡ Some x → Read Name (item.Of aggregate) ts x
of_spelled aggregate ts x e =
    let (y, is, same) = stepped (of_step aggregate) (name_at ts) x e in
    subst (Read Name (item.Of aggregate) ts) (same_value (pair (item.Of aggregate y.0) y.1) x same) (record { form = y.0; spelled = name_spelled ts y is; stands = refl })

of_read : (aggregate : Aggregate) (name : List ℕ) (ts mid rest : List Token) → Name name ts mid → Sign CLOSE mid rest → of_at aggregate ts ≡ Some (pair (item.Of aggregate name) mid)
of_read aggregate name ts mid rest s closed = then_gives (of_step aggregate) (name_read name ts mid s) refl

count_spelled : (ts : List Token) (x : RawItem × List Token) → counted_at ts ≡ Some x → CountRead ts x
unfolding counted_at
count_spelled ts x e =
    ⊎_elim
    (λ f.
    let (rest, is, same) = stepped rows_step (after_sign STAR ts) x f in
    subst (CountRead ts) (same_value (pair item.CountRows rest) x same) (record { form = rows; spelled = sign_spelled STAR ts rest is; stands = refl }))
    (λ f. ⊎_elim
    (λ g.
    let (behind, is, next) = stepped distinct_step (after_word (codes "DISTINCT") ts) x g in
    let (y, names_are, same) = stepped names_step (items_at (after_sign COMMA) name_at behind) x next in
    let r = names_spelled behind y names_are in
    subst (CountRead ts) (same_value (pair (item.CountDistinct y.0) y.1) x same) (record { form = different r.form; spelled = (behind, word_spelled (codes "DISTINCT") ts behind is, r.spelled); stands = ap (λ (n : List (List ℕ)). item.CountDistinct n) r.stands }))
    (λ g. let r = of_spelled Count ts x g in record { form = of_column r.form; spelled = r.spelled; stands = r.stands })
    (one_of (different_at ts) (of_at Count ts) x f))
    (one_of (rows_at ts) (option_or (different_at ts) (of_at Count ts)) x e)

count_read : (c : CountForm) (ts mid rest : List Token) → SpellsCount c ts mid → Sign CLOSE mid rest → counted_at ts ≡ Some (pair (count_item c) mid)
unfolding counted_at is_reserved
count_read rows ts mid rest s closed = first_gives (option_or (different_at ts) (of_at Count ts)) (then_gives rows_step (sign_read STAR ts mid s) refl)
count_read (of_column name) ts mid rest s closed =
    second_gives (then_none rows_step (name_no_sign STAR name ts mid s))
    (second_gives (then_none distinct_step (name_no_word (codes "DISTINCT") name refl ts mid s)) (of_read Count name ts mid rest s closed))
count_read (different names) ts mid rest (behind, word, s) closed =
    second_gives (then_none rows_step (word_no_sign (codes "DISTINCT") STAR ts behind word))
    (first_gives (of_at Count ts) (then_gives distinct_step (word_read (codes "DISTINCT") ts behind word) (then_gives names_step (names_read names behind mid s (close_no_comma mid rest closed)) refl)))

-- an item
abbrev column_step : List ℕ × List Token → Option (RawItem × List Token)
column_step name = Some (pair (item.Column name.0) name.1)

abbrev pub ItemRead : List Token → RawItem × List Token → Type 0
ItemRead ts x = Read SpellsItem item_value ts x

folded_read : (f : FoldWord) (ts : List Token) (x : RawItem × List Token) → called_at (fold_word f) (of_at (fold_aggregate f)) ts ≡ Some x → ItemRead ts x
folded_read f ts x e =
    let r = called_spelled (of_at (fold_aggregate f)) (fold_word f) Name (item.Of (fold_aggregate f)) (of_spelled (fold_aggregate f)) ts x e in
    record { form = folded f r.form; spelled = r.spelled; stands = r.stands }

abbrev max_or_column : List Token → Option (RawItem × List Token)
max_or_column ts = option_or (called_at (codes "MAX") (of_at Max) ts) (column_at ts)

abbrev min_or_others : List Token → Option (RawItem × List Token)
min_or_others ts = option_or (called_at (codes "MIN") (of_at Min) ts) (max_or_column ts)

abbrev sum_or_others : List Token → Option (RawItem × List Token)
sum_or_others ts = option_or (called_at (codes "SUM") (of_at Sum) ts) (min_or_others ts)

pub item_spelled : (ts : List Token) (x : RawItem × List Token) → item_at ts ≡ Some x → ItemRead ts x
unfolding item_at
item_spelled ts x e =
    ⊎_elim
    (λ f. let r = called_spelled counted_at (codes "COUNT") SpellsCount count_item count_spelled ts x f in record { form = counted r.form; spelled = r.spelled; stands = r.stands })
    (λ f. ⊎_elim (folded_read sum ts x)
    (λ g. ⊎_elim (folded_read min ts x)
    (λ h. ⊎_elim (folded_read max ts x)
    (λ i.
    let (y, is, same) = stepped column_step (name_at ts) x i in
    subst (ItemRead ts) (same_value (pair (item.Column y.0) y.1) x same) (record { form = column y.0; spelled = name_spelled ts y is; stands = refl }))
    (one_of (called_at (codes "MAX") (of_at Max) ts) (column_at ts) x h))
    (one_of (called_at (codes "MIN") (of_at Min) ts) (max_or_column ts) x g))
    (one_of (called_at (codes "SUM") (of_at Sum) ts) (min_or_others ts) x f))
    (one_of (called_at (codes "COUNT") counted_at ts) (sum_or_others ts) x e)

-- behind an item no parenthesis opens
abbrev pub Unopened : List Token → Type 0
Unopened rest = after_sign OPEN rest ≡ None

folded_back : (f : FoldWord) (name : List ℕ) (ts rest : List Token) → Called (fold_word f) (Name name) ts rest → called_at (fold_word f) (of_at (fold_aggregate f)) ts ≡ Some (pair (item.Of (fold_aggregate f) name) rest)
folded_back f name ts rest s = called_read (of_at (fold_aggregate f)) (fold_word f) (Name name) (item.Of (fold_aggregate f) name) (of_read (fold_aggregate f) name) ts rest s

pub item_read : (i : ItemForm) (ts rest : List Token) → SpellsItem i ts rest → Unopened rest → item_at ts ≡ Some (pair (item_value i) rest)
unfolding item_at
item_read (column name) ts rest s stops =
    second_gives (unopened counted_at (codes "COUNT") name ts rest s stops)
    (second_gives (unopened (of_at Sum) (codes "SUM") name ts rest s stops)
    (second_gives (unopened (of_at Min) (codes "MIN") name ts rest s stops)
    (second_gives (unopened (of_at Max) (codes "MAX") name ts rest s stops)
    (then_gives column_step (name_read name ts rest s) refl))))
item_read (counted c) ts rest s stops = first_gives (sum_or_others ts) (called_read counted_at (codes "COUNT") (SpellsCount c) (count_item c) (count_read c) ts rest s)
item_read (folded sum name) ts rest s stops =
    second_gives (other_call counted_at (codes "SUM") (codes "COUNT") (Name name) refl ts rest s) (first_gives (min_or_others ts) (folded_back sum name ts rest s))
item_read (folded min name) ts rest s stops =
    second_gives (other_call counted_at (codes "MIN") (codes "COUNT") (Name name) refl ts rest s)
    (second_gives (other_call (of_at Sum) (codes "MIN") (codes "SUM") (Name name) refl ts rest s) (first_gives (max_or_column ts) (folded_back min name ts rest s)))
item_read (folded max name) ts rest s stops =
    second_gives (other_call counted_at (codes "MAX") (codes "COUNT") (Name name) refl ts rest s)
    (second_gives (other_call (of_at Sum) (codes "MAX") (codes "SUM") (Name name) refl ts rest s)
    (second_gives (other_call (of_at Min) (codes "MAX") (codes "MIN") (Name name) refl ts rest s) (first_gives (column_at ts) (folded_back max name ts rest s))))

called_shrinks : (word : List ℕ) (form : Form) → Within form → Shrinks (Called word form)
called_shrinks word form w =
    then_shrinks (Word word) (Sign OPEN >> form >> Sign CLOSE) (word_shrinks word)
    (then_within (Sign OPEN) (form >> Sign CLOSE) (shrinks_within (Sign OPEN) (sign_shrinks OPEN)) (then_within form (Sign CLOSE) w (shrinks_within (Sign CLOSE) (sign_shrinks CLOSE))))

pub names_shrink : (list : Listed (List ℕ)) → Shrinks (SpellsNames list)
names_shrink list = listed_shrinks (Sign COMMA) Name comma_within name_shrinks list

count_within : (c : CountForm) → Within (SpellsCount c)
count_within rows = shrinks_within (Sign STAR) (sign_shrinks STAR)
count_within (of_column name) = shrinks_within (Name name) (name_shrinks name)
count_within (different names) =
    then_within (Word (codes "DISTINCT")) (SpellsNames names) (shrinks_within (Word (codes "DISTINCT")) (word_shrinks (codes "DISTINCT"))) (shrinks_within (SpellsNames names) (names_shrink names))

pub item_shrinks : (i : ItemForm) → Shrinks (SpellsItem i)
item_shrinks (column name) = name_shrinks name
item_shrinks (counted c) = called_shrinks (codes "COUNT") (SpellsCount c) (count_within c)
item_shrinks (folded f name) = called_shrinks (fold_word f) (Name name) (shrinks_within (Name name) (name_shrinks name))

-- no item begins with a star, DISTINCT or ALL
abbrev before_items : List What
before_items = lead.sign STAR ∷ lead.word (codes "DISTINCT") ∷ lead.word (codes "ALL") ∷ []

item_quiet : (i : ItemForm) (ts rest : List Token) → SpellsItem i ts rest → starts_any before_items ts ≡ false
unfolding is_reserved
item_quiet (column name) ts rest s = free lead.name before_items ts refl (begins_name name ts rest s)
item_quiet (counted c) ts rest (front, word, s) = free (lead.word (codes "COUNT")) before_items ts refl (begins_word (codes "COUNT") ts front word)
item_quiet (folded sum name) ts rest (front, word, s) = free (lead.word (codes "SUM")) before_items ts refl (begins_word (codes "SUM") ts front word)
item_quiet (folded min name) ts rest (front, word, s) = free (lead.word (codes "MIN")) before_items ts refl (begins_word (codes "MIN") ts front word)
item_quiet (folded max name) ts rest (front, word, s) = free (lead.word (codes "MAX")) before_items ts refl (begins_word (codes "MAX") ts front word)

list_quiet : (list : Listed ItemForm) (ts rest : List Token) → SpellsListed (Sign COMMA) SpellsItem list ts rest → starts_any before_items ts ≡ false
list_quiet (last i) ts rest s = item_quiet i ts rest s
list_quiet (before i others) ts rest (end, s, more) = item_quiet i ts end s

abbrev behind_star : List What
behind_star = lead.word (codes "DISTINCT") ∷ lead.word (codes "ALL") ∷ []

pub select_list_quiet : (l : ItemsForm) (ts rest : List Token) → SpellsItems l ts rest → starts_any behind_star ts ≡ false
select_list_quiet every ts rest s = free (lead.sign STAR) behind_star ts refl (begins_sign STAR ts rest s)
select_list_quiet (listed list) ts rest s = others_free (lead.sign STAR) behind_star ts (list_quiet list ts rest s)

-- a select list
abbrev every_step : List Token → Option (RawItems × List Token)
every_step rest = Some (pair items.Every rest)

abbrev listed_step : List RawItem × List Token → Option (RawItems × List Token)
listed_step list = Some (pair (items.Listed list.0) list.1)

abbrev pub SelectListRead : List Token → RawItems × List Token → Type 0
SelectListRead ts x = Read SpellsItems items_value ts x

pub select_list_spelled : (ts : List Token) (x : RawItems × List Token) → select_list_at ts ≡ Some x → SelectListRead ts x
select_list_spelled ts x e =
    ⊎_elim
    (λ f.
    let (rest, is, same) = stepped every_step (after_sign STAR ts) x f in
    subst (SelectListRead ts) (same_value (pair items.Every rest) x same) (record { form = every; spelled = sign_spelled STAR ts rest is; stands = refl }))
    (λ f.
    let (y, is, same) = stepped listed_step (items_at (after_sign COMMA) item_at ts) x f in
    let r = items_spelled (after_sign COMMA) (Sign COMMA) item_at SpellsItem item_value (sign_spelled COMMA) item_spelled ts y is in
    subst (SelectListRead ts) (same_value (pair (items.Listed y.0) y.1) x same) (record { form = listed r.form; spelled = r.spelled; stands = ap (λ (n : List RawItem). items.Listed n) r.stands }))
    (one_of (every_at ts) (listed_at ts) x e)

pub select_list_read : (l : ItemsForm) (ts rest : List Token) → SpellsItems l ts rest → Unopened rest → after_sign COMMA rest ≡ None → select_list_at ts ≡ Some (pair (items_value l) rest)
select_list_read every ts rest s stops none = first_gives (listed_at ts) (then_gives every_step (sign_read STAR ts rest s) refl)
select_list_read (listed list) ts rest s stops none =
    second_gives (then_none every_step (no_sign STAR ts (first_free (lead.sign STAR) behind_star ts (list_quiet list ts rest s))))
    (then_gives listed_step (list_read (after_sign COMMA) (Sign COMMA) item_at SpellsItem item_value Unopened (sign_read COMMA) comma_within (λ us mid comma. sign_no_sign COMMA OPEN refl us mid comma) item_shrinks item_read list ts rest s stops none) refl)

-- DISTINCT and ALL
abbrev pub QuantityRead : List Token → Bool × List Token → Type 0
QuantityRead ts x = Read SpellsQuantity is_distinct ts x

quantity_by : (ts : List Token) (o p : Option (List Token)) → after_word (codes "DISTINCT") ts ≡ o → after_word (codes "ALL") ts ≡ p → QuantityRead ts (quantity_of ts o p)
quantity_by ts None None is_not all_not = record { form = unsaid; spelled = refl; stands = refl }
quantity_by ts (Some rest) p is p_is = record { form = distinct; spelled = word_spelled (codes "DISTINCT") ts rest is; stands = refl }
quantity_by ts None (Some rest) is_not is = record { form = all; spelled = word_spelled (codes "ALL") ts rest is; stands = refl }

pub quantity_spelled : (ts : List Token) → QuantityRead ts (quantity_at ts)
quantity_spelled ts = quantity_by ts (after_word (codes "DISTINCT") ts) (after_word (codes "ALL") ts) refl refl

pub quantity_read : (q : QuantityForm) (ts rest : List Token) → SpellsQuantity q ts rest → starts_any behind_star rest ≡ false → quantity_at ts ≡ (is_distinct q, rest)
quantity_read unsaid ts rest s quiet =
    let no_distinct : after_word (codes "DISTINCT") rest ≡ None = no_word (codes "DISTINCT") rest (first_free (lead.word (codes "DISTINCT")) (lead.word (codes "ALL") ∷ []) rest quiet) in
    let no_all : after_word (codes "ALL") rest ≡ None = no_word (codes "ALL") rest (first_free (lead.word (codes "ALL")) [] rest (others_free (lead.word (codes "DISTINCT")) (lead.word (codes "ALL") ∷ []) rest quiet)) in
    subst (λ (us : List Token). quantity_at us ≡ (false, rest)) (sym s) (ap (λ (o : Option (List Token)). quantity_of rest o (after_word (codes "ALL") rest)) no_distinct ∙ ap (quantity_of rest None) no_all)
quantity_read distinct ts rest s quiet = ap (λ (o : Option (List Token)). quantity_of ts o (after_word (codes "ALL") ts)) (word_read (codes "DISTINCT") ts rest s)
quantity_read all ts rest s quiet =
    ap (λ (o : Option (List Token)). quantity_of ts o (after_word (codes "ALL") ts)) (word_no_word (codes "ALL") (codes "DISTINCT") refl ts rest s)
    ∙ ap (quantity_of ts None) (word_read (codes "ALL") ts rest s)
