-- Tests of rows: what is read is spelled, and what is spelled is read.
use Rattle.std.proofs.Common.{◌≡◌, ℕ, ◌<◌, Bool, true, cond, List, [], ◌∷◌, length, Option, Some, None, nat_lt, ◌==◌, refl, ap, subst, ◌∙◌, ⊎_elim, codes, arith}
use Rattle.std.specs.Option.{option_and_then, option_or}
use Rattle.std.proofs.lemmas.Bool.{eqb-true}
use Rattle.std.proofs.lemmas.Bool.Decides.{Decides-eqb, Decides-ltb}
use Rattle.std.proofs.lemmas.Option.{cond_some}
use Rattle.rx_value.specs.declared.values.Value.{Value}
use Rattle.rx_token.specs.declared.kinds.Token.{Token}
use Rattle.rx_token.specs.declared.signs.TheConstants.{COMMA}
use Rattle.rx_reading.specs.Reading.{Reader, after_word, name_at, enclosed_at}
use Rattle.rx_reading.specs.Forms.{Form, ◌>>◌, Word, Name, Listed, last, before, values, SpellsEnclosed}
use Rattle.rx_reading.proofs.Steps.{stepped, then_gives, then_none, one_of, first_gives, second_gives, same_value}
use Rattle.rx_reading.proofs.Enclosed.{enclosed_spelled, enclosed_read}
use Rattle.rx_reading.proofs.Spelled.{behind_short, word_spelled, word_read, name_spelled, name_read, Read}
use Rattle.rx_where.specs.Operands.{constants_at}
use Rattle.rx_where.specs.Rows.{names_at, tuple_at, row_list_at, not_row_list_at, row_test_at}
use Rattle.rx_where.specs.Raw.{RawTree}
use Rattle.rx_where.specs.Raw as raw
use Rattle.rx_where.specs.Grammar.{Constant, constant_value, SpellsConstants, SpellsTuple, Sense, plain, negated, WithNot, with_not, rows, row_names, SpellsTest, test_tree}
use Rattle.rx_where.proofs.Leads.{starts, free, first_free, no_word, no_sign}
use Rattle.rx_where.proofs.Leads as lead
use Rattle.rx_where.proofs.OperandLaws.{found, begins_word, constants_spelled, constants_read, constants_forward, name_forward, sign_short, close_no_comma}
use Rattle.rx_where.proofs.TestLaws.{TestRead}

abbrev itself : List ℕ → List ℕ
itself text = text

one_name : (ts : List Token) (x : List ℕ × List Token) → name_at ts ≡ Some x → Read Name itself ts x
one_name ts x e = record { form = x.0; spelled = name_spelled ts x e; stands = refl }

name_short : (ts : List Token) (x : List ℕ × List Token) → name_at ts ≡ Some x → length x.1 < length ts
name_short ts x e = behind_short (Name x.0) ts x.1 (name_forward x.0 ts x.1 (name_spelled ts x e))

-- the names of a row test
record NamesRead (ts : List Token) (x : List (List ℕ) × List Token) : Type 0 where
  first : List ℕ
  others : Listed (List ℕ)
  spelled : SpellsEnclosed Name (before first others) ts x.1
  stands : row_names first others ≡ x.0

abbrev pub if_several : List (List ℕ) × List Token → Option (List (List ℕ) × List Token)
if_several names = cond (nat_lt 1 (length names.0)) (Some names) None

several : (list : Listed (List ℕ)) (ts rest : List Token) (x : List (List ℕ) × List Token) → SpellsEnclosed Name list ts rest → if_several (found (values itself list) rest) ≡ Some x → NamesRead ts x
several (last n) ts rest x s e = absurd cc
several (before n others) ts rest x s e =
    let (b, same) = cond_some (nat_lt 1 (length (values itself (before n others)))) (found (values itself (before n others)) rest) x e in
    subst (NamesRead ts) same (record { first = n; others = others; spelled = s; stands = refl })

names_spelled : (ts : List Token) (x : List (List ℕ) × List Token) → names_at ts ≡ Some x → NamesRead ts x
unfolding names_at
names_spelled ts x e =
    let (names, read, e1) = stepped if_several (enclosed_at name_at ts) x e in
    let all = enclosed_spelled name_at Name itself one_name ts names read in
    several all.form ts names.1 x all.spelled (ap (λ (list : List (List ℕ)). if_several (found list names.1)) all.stands ∙ e1)

more_than_one : (n : List ℕ) (others : Listed (List ℕ)) → nat_lt 1 (length (row_names n others)) ≡ true
more_than_one n (last m) = refl
more_than_one n (before m others) = (Decides-ltb 1 (length (row_names n (before m others)))).1 (omega arith)

names_read : (n : List ℕ) (others : Listed (List ℕ)) (ts rest : List Token) → SpellsEnclosed Name (before n others) ts rest → names_at ts ≡ Some (found (row_names n others) rest)
unfolding names_at
names_read n others ts rest s =
    then_gives if_several (enclosed_read name_at Name itself (sign_short COMMA) name_short name_read close_no_comma (before n others) ts rest s)
    (ap (λ (b : Bool). cond b (Some (found (row_names n others) rest)) None) (more_than_one n others))

-- tuples
abbrev if_as_long : ℕ → List Value × List Token → Option (List Value × List Token)
if_as_long count key = cond (length key.0 == count) (Some key) None

tuple_spelled : (count : ℕ) (ts : List Token) (x : List Value × List Token) → tuple_at count ts ≡ Some x → Read (SpellsTuple count) (values constant_value) ts x
unfolding tuple_at
tuple_spelled count ts x e =
    let (key, read, e1) = stepped (if_as_long count) (constants_at ts) x e in
    let (long, same) = cond_some (length key.0 == count) key x e1 in
    let r = constants_spelled ts key read in
    subst (Read (SpellsTuple count) (values constant_value) ts) same (record { form = r.form; spelled = (ap (λ (vs : List Value). length vs) r.stands ∙ eqb-true (length key.0) count long, r.spelled); stands = r.stands })

same_is_true : (n : ℕ) → (n == n) ≡ true
same_is_true n = (Decides-eqb n n).1 refl

tuple_read : (count : ℕ) (list : Listed Constant) (ts rest : List Token) → SpellsTuple count list ts rest → tuple_at count ts ≡ Some (found (values constant_value list) rest)
unfolding tuple_at
tuple_read count list ts rest (long, s) =
    then_gives (if_as_long count) (constants_read list ts rest s)
    (ap (λ (n : ℕ). cond (n == count) (Some (found (values constant_value list) rest)) None) long ∙ ap (λ (b : Bool). cond b (Some (found (values constant_value list) rest)) None) (same_is_true count))

tuple_short : (count : ℕ) (ts : List Token) (x : List Value × List Token) → tuple_at count ts ≡ Some x → length x.1 < length ts
tuple_short count ts x e = let r = tuple_spelled count ts x e in behind_short (SpellsConstants r.form) ts x.1 (constants_forward r.form ts x.1 r.spelled.1)

abbrev SpellsTuples : ℕ → Listed (Listed Constant) → Form
SpellsTuples count list = SpellsEnclosed (SpellsTuple count) list

abbrev tuples_at : ℕ → Reader (List (List Value))
tuples_at count ts = enclosed_at (tuple_at count) ts

tuples_spelled : (count : ℕ) (ts : List Token) (x : List (List Value) × List Token) → tuples_at count ts ≡ Some x → Read (SpellsTuples count) (values (values constant_value)) ts x
tuples_spelled count ts x e = enclosed_spelled (tuple_at count) (SpellsTuple count) (values constant_value) (tuple_spelled count) ts x e

tuples_read : (count : ℕ) (list : Listed (Listed Constant)) (ts rest : List Token) → SpellsTuples count list ts rest → tuples_at count ts ≡ Some (found (values (values constant_value) list) rest)
tuples_read count list ts rest s =
    enclosed_read (tuple_at count) (SpellsTuple count) (values constant_value) (sign_short COMMA) (tuple_short count) (tuple_read count) close_no_comma list ts rest s

-- IN and tuples
abbrev SpellsRows : ℕ → Listed (Listed Constant) → Form
SpellsRows count list = Word (codes "IN") >> SpellsTuples count list

abbrev pub tuples_step : List (List ℕ) → List (List Value) × List Token → Option (RawTree × List Token)
tuples_step names list = Some (found (raw.row_member names list.0) list.1)

abbrev pub in_step : List (List ℕ) → List Token → Option (RawTree × List Token)
in_step names behind = option_and_then (tuples_step names) (tuples_at (length names) behind)

abbrev row_tree : List (List ℕ) → Listed (Listed Constant) → RawTree
row_tree names list = raw.row_member names (values (values constant_value) list)

row_list_spelled : (names : List (List ℕ)) (ts : List Token) (x : RawTree × List Token) → row_list_at names ts ≡ Some x → Read (SpellsRows (length names)) (row_tree names) ts x
unfolding row_list_at
row_list_spelled names ts x e =
    let (mid, word, e1) = stepped (in_step names) (after_word (codes "IN") ts) x e in
    let (list, read, same) = stepped (tuples_step names) (tuples_at (length names) mid) x e1 in
    let all = tuples_spelled (length names) mid list read in
    subst (Read (SpellsRows (length names)) (row_tree names) ts) (same_value (found (raw.row_member names list.0) list.1) x same) (record {
      form = all.form;
      spelled = (mid, word_spelled (codes "IN") ts mid word, all.spelled);
      stands = ap (raw.row_member names) all.stands;
    })

row_list_read : (names : List (List ℕ)) (list : Listed (Listed Constant)) (ts rest : List Token) → SpellsRows (length names) list ts rest → row_list_at names ts ≡ Some (found (row_tree names list) rest)
unfolding row_list_at
row_list_read names list ts rest (mid, word, s) =
    then_gives (in_step names) (word_read (codes "IN") ts mid word) (then_gives (tuples_step names) (tuples_read (length names) list mid rest s) refl)

abbrev pub neg_step : RawTree × List Token → Option (RawTree × List Token)
neg_step x = Some (found (raw.neg x.0) x.1)

abbrev pub not_in_step : List (List ℕ) → List Token → Option (RawTree × List Token)
not_in_step names behind = option_and_then neg_step (row_list_at names behind)

abbrev pub rows_step : List (List ℕ) × List Token → Option (RawTree × List Token)
rows_step names = option_or (not_row_list_at names.0 names.1) (row_list_at names.0 names.1)

-- a row test, by what stands behind its names
rows_spelled : (first : List ℕ) (others : Listed (List ℕ)) (ts here : List Token) → SpellsEnclosed Name (before first others) ts here → (x : RawTree × List Token) → rows_step (row_names first others, here) ≡ Some x → TestRead ts x
unfolding not_row_list_at
rows_spelled first others ts here s x e =
    ⊎_elim
    (λ f.
    let (behind, word, e1) = stepped (not_in_step (row_names first others)) (after_word (codes "NOT") here) x f in
    let (y, read, same) = stepped neg_step (row_list_at (row_names first others) behind) x e1 in
    let r = row_list_spelled (row_names first others) behind y read in
    subst (TestRead ts) (same_value (found (raw.neg y.0) y.1) x same) (record {
      form = rows negated first others r.form;
      spelled = (here, s, (behind, word_spelled (codes "NOT") here behind word, r.spelled));
      stands = ap raw.neg r.stands;
    }))
    (λ f.
    let r = row_list_spelled (row_names first others) here x f in
    record {
      form = rows plain first others r.form;
      spelled = (here, s, r.spelled);
      stands = r.stands;
    })
    (one_of (not_row_list_at (row_names first others) here) (row_list_at (row_names first others) here) x e)

pub row_test_spelled : (ts : List Token) (x : RawTree × List Token) → row_test_at ts ≡ Some x → TestRead ts x
unfolding row_test_at
row_test_spelled ts x e =
    let (names, read, e1) = stepped rows_step (names_at ts) x e in
    let r = names_spelled ts names read in
    rows_spelled r.first r.others ts names.1 r.spelled x (ap (λ (list : List (List ℕ)). rows_step (list, names.1)) r.stands ∙ e1)

behind_names : (sense : Sense) (names : List (List ℕ)) (list : Listed (Listed Constant)) (here rest : List Token) → WithNot sense (SpellsRows (length names) list) here rest → rows_step (names, here) ≡ Some (found (with_not sense (row_tree names list)) rest)
unfolding not_row_list_at
behind_names plain names list here rest (mid, word, s) =
    second_gives (then_none (not_in_step names) (no_word (codes "NOT") here (first_free (lead.word (codes "NOT")) [] here (free (lead.word (codes "IN")) (lead.word (codes "NOT") ∷ []) here refl (begins_word (codes "IN") here mid word)))))
    (row_list_read names list here rest (mid, word, s))
behind_names negated names list here rest (mid, word, s) =
    first_gives (row_list_at names here) (then_gives (not_in_step names) (word_read (codes "NOT") here mid word) (then_gives neg_step (row_list_read names list mid rest s) refl))

pub row_test_read : (sense : Sense) (first : List ℕ) (others : Listed (List ℕ)) (tuples : Listed (Listed Constant)) (ts rest : List Token) → SpellsTest (rows sense first others tuples) ts rest → row_test_at ts ≡ Some (found (test_tree (rows sense first others tuples)) rest)
unfolding row_test_at
row_test_read sense first others tuples ts rest (here, s, t) =
    then_gives rows_step (names_read first others ts here s) (behind_names sense (row_names first others) tuples here rest t)
