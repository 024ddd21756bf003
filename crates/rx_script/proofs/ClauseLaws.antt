-- WHERE, GROUP BY and ORDER BY: what is read is spelled, and what is spelled is read.
use Rattle.std.proofs.Common.{◌≡◌, ℕ, ◌≤◌, Bool, true, false, ◌||◌, List, [], ◌∷◌, Option, Some, None, refl, sym, ap, subst, ◌∙◌, ⊎_elim, codes, arith}
use Rattle.std.specs.Option.{option_and_then, option_or}
use Rattle.rx_token.specs.declared.kinds.Token.{Token}
use Rattle.rx_token.specs.declared.kinds.TokenKind.{TokenKind}
use Rattle.rx_token.specs.declared.kinds.TokenKind.TheVariants as k
use Rattle.rx_token.specs.declared.signs.TheConstants.{COMMA}
use Rattle.rx_reading.specs.Reading.{Reader, after_word, after_sign, name_at, number_in, direction_at, items_at}
use Rattle.rx_reading.specs.Forms.{Form, One, ◌>>◌, Word, Sign, Name, Listed, values, SpellsListed, DirectionForm, SpellsDirection, is_descending}
use Rattle.rx_reading.proofs.Steps.{stepped, then_gives, then_none, one_of, first_gives, second_gives, same_value}
use Rattle.rx_reading.proofs.Spelled.{word_spelled, word_read, sign_spelled, sign_read, name_spelled, name_read, Read, items_spelled}
use Rattle.rx_reading.proofs.Each.{Shrinks, one_shrinks, shrinks_within, then_shrinks, list_read}
use Rattle.rx_reading.proofs.FirstTokens.{pair, sign_no_word}
use Rattle.rx_reading.proofs.Choices.{direction_spelled, direction_read, direction_within}
use Rattle.rx_cond.specs.declared.conds.Tri.TheVariants.{T}
use Rattle.rx_where.specs.Raw.{RawTree, truth}
use Rattle.rx_where.specs.Conditions.{longest_at}
use Rattle.rx_where.specs.Grammar.{Cond, SpellsCond, cond_depth}
use Rattle.rx_where.proofs.Leads.{What, starts, starts_any, apart_all, free, first_free, others_free, no_word, no_sign}
use Rattle.rx_where.proofs.Leads as lead
use Rattle.rx_where.proofs.OperandLaws.{begins_word}
use Rattle.rx_where.proofs.TestReads.{predicates}
use Rattle.rx_where.proofs.CondReaches.{cond_goes_on, whole_reaches}
use Rattle.rx_where.proofs.Parsing.{found_of}
use Rattle.rx_script.specs.declared.statements.RawBy.{RawBy}
use Rattle.rx_script.specs.declared.statements.RawBy.TheVariants as by
use Rattle.rx_script.specs.declared.statements.RawOrder.{RawOrder}
use Rattle.rx_script.specs.Clauses.{optional_of, optional_at, by_items_at, where_at, group_at, by_column_at, by_place_at, by_at, order_part_at, order_at, WrittenClauses, clauses_at}
use Rattle.rx_script.specs.Grammar.{SpellsNames, name_list, SpellsOptional, optional_value, SpellsWhere, where_value, SpellsGroup, ByForm, by_column, by_place, SpellsBy, by_value, OrderForm, SpellsOrderPart, order_value, SpellsOrder, ClausesForm, SpellsClauses}
use Rattle.rx_script.proofs.ItemLaws.{comma_within, names_spelled, names_read, name_shrinks}

-- no token
any_none : (others : List What) → starts_any others [] ≡ false
any_none [] = refl
any_none (a ∷ others) = any_none others

-- what may stand behind a word
module _ {A : Type 0} (word : List ℕ) (absent : A) (p : Reader A) where
  module _ {D : Type 0} (form : D → Form) (value : D → A) where
    abbrev OptionalRead : List Token → A × List Token → Type 0
    OptionalRead ts x = Read (SpellsOptional word form) (optional_value absent value) ts x

    optional_by : ((ts : List Token) (x : A × List Token) → p ts ≡ Some x → Read form value ts x) → (ts : List Token) (o : Option (List Token)) → after_word word ts ≡ o → (x : A × List Token) → optional_of absent p ts o ≡ Some x → OptionalRead ts x
    optional_by read ts None is x e = subst (OptionalRead ts) (same_value (pair absent ts) x e) (record { form = None; spelled = refl; stands = refl })
    optional_by read ts (Some behind) is x e =
        let r = read behind x e in
        record { form = Some r.form; spelled = (behind, word_spelled word ts behind is, r.spelled); stands = r.stands }

    optional_spelled : ((ts : List Token) (x : A × List Token) → p ts ≡ Some x → Read form value ts x) → (ts : List Token) (x : A × List Token) → optional_at word absent p ts ≡ Some x → OptionalRead ts x
    optional_spelled read ts x e = optional_by read ts (after_word word ts) refl x e

    optional_read : (Stops : List Token → Type 0) → ((d : D) (ts rest : List Token) → form d ts rest → Stops rest → p ts ≡ Some (pair (value d) rest)) → (o : Option D) (ts rest : List Token) → SpellsOptional word form o ts rest → Stops rest → after_word word rest ≡ None → optional_at word absent p ts ≡ Some (pair (optional_value absent value o) rest)
    optional_read Stops back None ts rest s stops none =
        subst (λ (us : List Token). optional_at word absent p us ≡ Some (pair absent rest)) (sym s) (ap (optional_of absent p rest) none)
    optional_read Stops back (Some d) ts rest (behind, word_is, s) stops none = ap (optional_of absent p ts) (word_read word ts behind word_is) ∙ back d behind rest s stops

-- what none of the tokens behind begins with, these don't either
pub optional_quiet : {D : Type 0} (word : List ℕ) (form : D → Form) (others : List What) → apart_all (lead.word word) others ≡ true → (o : Option D) (ts rest : List Token) → SpellsOptional word form o ts rest → starts_any others rest ≡ false → starts_any others ts ≡ false
optional_quiet word form others d None ts rest s quiet = ap (starts_any others) s ∙ quiet
optional_quiet word form others d (Some x) ts rest (behind, word_is, s) quiet = free (lead.word word) others ts d (begins_word word ts behind word_is)

-- BY and items
module _ {A D : Type 0} (p : Reader A) (form : D → Form) (value : D → A) where
  abbrev ByRead : List Token → List A × List Token → Type 0
  ByRead ts x = Read (λ (list : Listed D). Word (codes "BY") >> SpellsListed (Sign COMMA) form list) (values value) ts x

  by_items_spelled : ((ts : List Token) (x : A × List Token) → p ts ≡ Some x → Read form value ts x) → (ts : List Token) (x : List A × List Token) → by_items_at p ts ≡ Some x → ByRead ts x
  by_items_spelled read ts x e =
      let (behind, is, next) = stepped (items_at (after_sign COMMA) p) (after_word (codes "BY") ts) x e in
      let r = items_spelled (after_sign COMMA) (Sign COMMA) p form value (sign_spelled COMMA) read behind x next in
      record { form = r.form; spelled = (behind, word_spelled (codes "BY") ts behind is, r.spelled); stands = r.stands }

-- conditions
where_spelled : (ts : List Token) (x : RawTree × List Token) → longest_at ts ≡ Some x → Read SpellsWhere where_value ts x
where_spelled ts x e = let (c, depth, s, stands) = found_of ts x e in record { form = c; spelled = (depth, s); stands = stands }

abbrev Ended : List Token → Type 0
Ended rest = cond_goes_on rest ≡ false

where_read : (c : Cond) (ts rest : List Token) → SpellsWhere c ts rest → Ended rest → longest_at ts ≡ Some (pair (where_value c) rest)
where_read c ts rest (depth, s) ended = ⊎_elim (λ e. e) (λ b. let f = b.follows in absurd cc) (whole_reaches c 65 (omega arith) ts rest s)

-- columns and places
abbrev ByRead2 : List Token → RawBy × List Token → Type 0
ByRead2 ts x = Read SpellsBy by_value ts x

abbrev column_step : List ℕ × List Token → Option (RawBy × List Token)
column_step name = Some (pair (by.Column name.0) name.1)

abbrev place_step : Token → List Token → ℕ → Option (RawBy × List Token)
place_step t ts n = Some (pair (by.Place n t.text) ts)

place_spelled : (ts : List Token) (x : RawBy × List Token) → by_place_at ts ≡ Some x → ByRead2 ts x
place_spelled [] x e = absurd cc
place_spelled (t ∷ ts) x e =
    let (n, is, same) = stepped (place_step t ts) (number_in t.kind) x e in
    subst (ByRead2 (t ∷ ts)) (same_value (pair (by.Place n t.text) ts) x same) (record { form = by_place n t.text; spelled = ((is, refl), refl); stands = refl })

place_read : (n : ℕ) (digits : List ℕ) (ts rest : List Token) → SpellsBy (by_place n digits) ts rest → by_place_at ts ≡ Some (pair (by.Place n digits) rest)
place_read n digits [] rest s = absurd s
place_read n digits (t ∷ ts) rest s =
    then_gives (place_step t ts) s.0.0 (ap (λ (d : List ℕ). Some (pair (by.Place n d) ts)) s.0.1 ∙ ap (λ (us : List Token). Some (pair (by.Place n digits) us)) s.1)

nameless : (n : ℕ) (kind : TokenKind) (text : List ℕ) → number_in kind ≡ Some n → lead.is_kind lead.name kind text ≡ false
nameless n k.Word text e = absurd cc
nameless n k.Quoted text e = absurd cc
nameless n (k.Number m) text e = refl
nameless n k.Str text e = absurd cc
nameless n (k.Sign m) text e = absurd cc

number_nameless : (n : ℕ) (digits : List ℕ) (ts rest : List Token) → SpellsBy (by_place n digits) ts rest → name_at ts ≡ None
number_nameless n digits [] rest s = absurd s
number_nameless n digits (t ∷ ts) rest s = lead.no_name (t ∷ ts) (nameless n t.kind t.text s.0.0)

by_spelled : (ts : List Token) (x : RawBy × List Token) → by_at ts ≡ Some x → ByRead2 ts x
by_spelled ts x e =
    ⊎_elim
    (λ f.
    let (y, is, same) = stepped column_step (name_at ts) x f in
    subst (ByRead2 ts) (same_value (pair (by.Column y.0) y.1) x same) (record { form = by_column y.0; spelled = name_spelled ts y is; stands = refl }))
    (place_spelled ts x)
    (one_of (by_column_at ts) (by_place_at ts) x e)

by_read : (b : ByForm) (ts rest : List Token) → SpellsBy b ts rest → by_at ts ≡ Some (pair (by_value b) rest)
by_read (by_column name) ts rest s = first_gives (by_place_at ts) (then_gives column_step (name_read name ts rest s) refl)
by_read (by_place n digits) ts rest s = second_gives (then_none column_step (number_nameless n digits ts rest s)) (place_read n digits ts rest s)

-- parts of ORDER BY
abbrev made_order : RawBy → Bool × List Token → RawOrder × List Token
made_order b direction = (record { by = b; falling = direction.0 }, direction.1)

abbrev direction_step : RawBy × List Token → Option (RawOrder × List Token)
direction_step b = Some (made_order b.0 (direction_at b.1))

abbrev OrderRead : List Token → RawOrder × List Token → Type 0
OrderRead ts x = Read SpellsOrderPart order_value ts x

order_same : (f : OrderForm) (b : RawBy) (d : Bool) → by_value f.by ≡ b → is_descending f.direction ≡ d → order_value f ≡ record { by = b; falling = d }
order_same f b d e g =
    ap (λ (v : RawBy). record { by = v; falling = is_descending f.direction }) e ∙ ap (λ (v : Bool). record { by = b; falling = v }) g

order_part_spelled : (ts : List Token) (x : RawOrder × List Token) → order_part_at ts ≡ Some x → OrderRead ts x
unfolding order_part_at
order_part_spelled ts x e =
    let (y, is, same) = stepped direction_step (by_at ts) x e in
    let b = by_spelled ts y is in
    let d = direction_spelled y.1 in
    let form : OrderForm = record { by = b.form; direction = d.form } in
    subst (OrderRead ts) (same_value (made_order y.0 (direction_at y.1)) x same) (record {
      form = form;
      spelled = (y.1, b.spelled, d.spelled);
      stands = order_same form y.0 (direction_at y.1).0 b.stands d.stands;
    })

-- behind a part of ORDER BY stands neither ASC nor DESC
abbrev Directed : List Token → Type 0
Directed rest = (after_word (codes "ASC") rest ≡ None) × (after_word (codes "DESC") rest ≡ None)

order_part_read : (o : OrderForm) (ts rest : List Token) → SpellsOrderPart o ts rest → Directed rest → order_part_at ts ≡ Some (pair (order_value o) rest)
unfolding order_part_at
order_part_read o ts rest (mid, b, d) none =
    then_gives direction_step (by_read o.by ts mid b)
    (ap (λ (x : Bool × List Token). Some (made_order (by_value o.by) x)) (direction_read o.direction mid rest d none.0 none.1))

by_shrinks : (b : ByForm) → Shrinks (SpellsBy b)
by_shrinks (by_column name) = name_shrinks name
by_shrinks (by_place n digits) = one_shrinks _

order_part_shrinks : (o : OrderForm) → Shrinks (SpellsOrderPart o)
order_part_shrinks o = then_shrinks (SpellsBy o.by) (SpellsDirection o.direction) (by_shrinks o.by) (direction_within o.direction)

comma_directed : (ts mid : List Token) → Sign COMMA ts mid → Directed ts
comma_directed ts mid s = (sign_no_word COMMA (codes "ASC") ts mid s, sign_no_word COMMA (codes "DESC") ts mid s)

-- the end of the tokens, or what doesn't go on
abbrev OrderEnds : List Token → Type 0
OrderEnds rest = Directed rest × (after_sign COMMA rest ≡ None)

orders_read : (list : Listed OrderForm) (ts rest : List Token) → SpellsOrder list ts rest → OrderEnds rest → by_items_at order_part_at ts ≡ Some (pair (values order_value list) rest)
orders_read list ts rest (behind, word, s) ends =
    then_gives (items_at (after_sign COMMA) order_part_at) (word_read (codes "BY") ts behind word)
    (list_read (after_sign COMMA) (Sign COMMA) order_part_at SpellsOrderPart order_value Directed (sign_read COMMA) comma_within comma_directed order_part_shrinks order_part_read list behind rest s ends.0 ends.1)

abbrev GroupEnds : List Token → Type 0
GroupEnds rest = after_sign COMMA rest ≡ None

group_names_read : (list : Listed (List ℕ)) (ts rest : List Token) → SpellsGroup list ts rest → GroupEnds rest → by_items_at name_at ts ≡ Some (pair (name_list list) rest)
group_names_read list ts rest (behind, word, s) none = then_gives (items_at (after_sign COMMA) name_at) (word_read (codes "BY") ts behind word) (names_read list behind rest s none)

group_names_spelled : (ts : List Token) (x : List (List ℕ) × List Token) → by_items_at name_at ts ≡ Some x → Read SpellsGroup name_list ts x
group_names_spelled ts x e =
    let (behind, is, next) = stepped (items_at (after_sign COMMA) name_at) (after_word (codes "BY") ts) x e in
    let r = names_spelled behind x next in
    record { form = r.form; spelled = (behind, word_spelled (codes "BY") ts behind is, r.spelled); stands = r.stands }

-- all clauses
abbrev made_clauses : RawTree → List (List ℕ) → List RawOrder → WrittenClauses
made_clauses cond group order = record { cond = cond; group = group; order = order }

abbrev order_step : RawTree → List (List ℕ) → List RawOrder × List Token → Option (WrittenClauses × List Token)
order_step cond group order = Some (pair (made_clauses cond group order.0) order.1)

abbrev group_step : RawTree → List (List ℕ) × List Token → Option (WrittenClauses × List Token)
group_step cond group = option_and_then (order_step cond group.0) (order_at group.1)

abbrev cond_step : RawTree × List Token → Option (WrittenClauses × List Token)
cond_step cond = option_and_then (group_step cond.0) (group_at cond.1)

abbrev pub clauses_value : ClausesForm → WrittenClauses
clauses_value f = made_clauses (optional_value (truth T) where_value f.where_is) (optional_value [] name_list f.group) (optional_value [] (values order_value) f.order)

abbrev pub ClausesRead : List Token → WrittenClauses × List Token → Type 0
ClausesRead ts x = Read SpellsClauses clauses_value ts x

clauses_same : (f : ClausesForm) (c : RawTree) (g : List (List ℕ)) (o : List RawOrder) → optional_value (truth T) where_value f.where_is ≡ c → optional_value [] name_list f.group ≡ g → optional_value [] (values order_value) f.order ≡ o → clauses_value f ≡ made_clauses c g o
clauses_same f c g o a b d =
    ap (λ (v : RawTree). made_clauses v (optional_value [] name_list f.group) (optional_value [] (values order_value) f.order)) a
    ∙ ap (λ (v : List (List ℕ)). made_clauses c v (optional_value [] (values order_value) f.order)) b
    ∙ ap (λ (v : List RawOrder). made_clauses c g v) d

pub clauses_spelled : (ts : List Token) (x : WrittenClauses × List Token) → clauses_at ts ≡ Some x → ClausesRead ts x
unfolding clauses_at
clauses_spelled ts x e =
    let (c, c_is, e1) = stepped cond_step (where_at ts) x e in
    let (g, g_is, e2) = stepped (group_step c.0) (group_at c.1) x e1 in
    let (o, o_is, same) = stepped (order_step c.0 g.0) (order_at g.1) x e2 in
    let a = optional_spelled (codes "WHERE") (truth T) longest_at SpellsWhere where_value where_spelled ts c c_is in
    let b = optional_spelled (codes "GROUP") [] (by_items_at name_at) SpellsGroup name_list group_names_spelled c.1 g g_is in
    let d = optional_spelled (codes "ORDER") [] (by_items_at order_part_at) SpellsOrder (values order_value) (by_items_spelled order_part_at SpellsOrderPart order_value order_part_spelled) g.1 o o_is in
    let form : ClausesForm = record { where_is = a.form; group = b.form; order = d.form } in
    subst (ClausesRead ts) (same_value (pair (made_clauses c.0 g.0 o.0) o.1) x same) (record {
      form = form;
      spelled = (c.1, a.spelled, (g.1, b.spelled, d.spelled));
      stands = clauses_same form c.0 g.0 o.0 a.stands b.stands d.stands;
    })

abbrev conditions : List What
conditions = lead.word (codes "OR") ∷ lead.word (codes "AND") ∷ predicates

-- all clauses, with nothing behind them
pub clauses_read : (f : ClausesForm) (ts : List Token) → SpellsClauses f ts [] → clauses_at ts ≡ Some (pair (clauses_value f) [])
unfolding clauses_at
clauses_read f ts (g, where_s, (o, group_s, order_s)) =
    let order_quiet : (others : List What) → apart_all (lead.word (codes "ORDER")) others ≡ true → starts_any others o ≡ false = λ others d. optional_quiet (codes "ORDER") SpellsOrder others d f.order o [] order_s (any_none others) in
    let group_quiet : (others : List What) → apart_all (lead.word (codes "ORDER")) others ≡ true → apart_all (lead.word (codes "GROUP")) others ≡ true → starts_any others g ≡ false = λ others d e. optional_quiet (codes "GROUP") SpellsGroup others e f.group g o group_s (order_quiet others d) in
    let group_ends : GroupEnds o = no_sign COMMA o (first_free (lead.sign COMMA) [] o (order_quiet (lead.sign COMMA ∷ []) refl)) in
    let no_group : after_word (codes "GROUP") o ≡ None = no_word (codes "GROUP") o (first_free (lead.word (codes "GROUP")) [] o (order_quiet (lead.word (codes "GROUP") ∷ []) refl)) in
    let no_where : after_word (codes "WHERE") g ≡ None = no_word (codes "WHERE") g (first_free (lead.word (codes "WHERE")) [] g (group_quiet (lead.word (codes "WHERE") ∷ []) refl refl)) in
    let order_end : OrderEnds [] = ((refl, refl), refl) in
    then_gives cond_step (optional_read (codes "WHERE") (truth T) longest_at SpellsWhere where_value Ended where_read f.where_is ts g where_s (group_quiet conditions refl refl) no_where)
    (then_gives (group_step (optional_value (truth T) where_value f.where_is)) (optional_read (codes "GROUP") [] (by_items_at name_at) SpellsGroup name_list GroupEnds group_names_read f.group g o group_s group_ends no_group)
    (then_gives (order_step (optional_value (truth T) where_value f.where_is) (optional_value [] name_list f.group)) (optional_read (codes "ORDER") [] (by_items_at order_part_at) SpellsOrder (values order_value) OrderEnds orders_read f.order o [] order_s order_end refl) refl))

-- clauses begin with none of these but their own words
pub clauses_quiet : (others : List What) → apart_all (lead.word (codes "ORDER")) others ≡ true → apart_all (lead.word (codes "GROUP")) others ≡ true → apart_all (lead.word (codes "WHERE")) others ≡ true → (f : ClausesForm) (ts : List Token) → SpellsClauses f ts [] → starts_any others ts ≡ false
clauses_quiet others a b c f ts (g, where_s, (o, group_s, order_s)) =
    optional_quiet (codes "WHERE") SpellsWhere others c f.where_is ts g where_s
    (optional_quiet (codes "GROUP") SpellsGroup others b f.group g o group_s (optional_quiet (codes "ORDER") SpellsOrder others a f.order o [] order_s (any_none others)))
