-- A condition that is read is spelled so.
use Rattle.std.proofs.Common.{◌≡◌, ℕ, zero, suc, ◌<◌, List, ◌∷◌, length, Option, Some, refl, ap, subst, ◌∙◌, ⊎_elim, codes, arith}
use Rattle.std.specs.Option.{option_and_then, option_or}
use Rattle.rx_token.specs.declared.kinds.Token.{Token}
use Rattle.rx_token.specs.declared.signs.TheConstants.{OPEN, CLOSE}
use Rattle.rx_reading.specs.Reading.{Reader, after_word, after_sign, items_at}
use Rattle.rx_reading.specs.Forms.{Form, ◌>>◌, Word, Sign, Listed, last, before, values, SpellsListed}
use Rattle.rx_reading.proofs.Steps.{stepped, one_of, same_value}
use Rattle.rx_reading.proofs.Spelled.{Forward, then_forward, behind_short, word_spelled, sign_spelled, Read, items_spelled}
use Rattle.rx_where.specs.Conditions.{test_at, neg_at, conj_at, cond_at, not_at, parens_at, nest}
use Rattle.rx_where.specs.Raw.{RawTree, conj_of, disj_of}
use Rattle.rx_where.specs.Raw as raw
use Rattle.rx_where.specs.Grammar.{Neg, Conj, Cond, not, parens, test, last_neg, and, last_conj, or, SpellsNeg, SpellsConj, SpellsCond, neg_tree, conj_trees, cond_trees, neg_depth, conj_depth, cond_depth}
use Rattle.rx_where.proofs.OperandLaws.{found, word_forward, sign_forward}
use Rattle.rx_where.proofs.TestReaches.{test_spelled, test_forward}

-- forms that are nested less deep than so many levels
abbrev pub NegIn : ℕ → Neg → Form
NegIn levels n = λ ts rest. (neg_depth n < levels) × SpellsNeg n ts rest

abbrev pub ConjIn : ℕ → Conj → Form
ConjIn levels c = λ ts rest. (conj_depth c < levels) × SpellsConj c ts rest

abbrev pub CondIn : ℕ → Cond → Form
CondIn levels c = λ ts rest. (cond_depth c < levels) × SpellsCond c ts rest

abbrev pub conj_tree : Conj → RawTree
conj_tree c = conj_of (conj_trees c)

abbrev pub cond_tree : Cond → RawTree
cond_tree c = disj_of (cond_trees c)

abbrev pub NegRead : ℕ → List Token → RawTree × List Token → Type 0
NegRead levels ts x = Read (NegIn levels) neg_tree ts x

abbrev pub ConjRead : ℕ → List Token → RawTree × List Token → Type 0
ConjRead levels ts x = Read (ConjIn levels) conj_tree ts x

abbrev pub CondRead : ℕ → List Token → RawTree × List Token → Type 0
CondRead levels ts x = Read (CondIn levels) cond_tree ts x

-- a list of negations as a conjunction
conj_from : (levels : ℕ) (list : Listed Neg) (ts rest : List Token) → SpellsListed (Word (codes "AND")) (NegIn levels) list ts rest → (c : Conj) × ConjIn levels c ts rest × (conj_trees c ≡ values neg_tree list)
conj_from levels (last n) ts rest s = (last_neg n, s, refl)
conj_from levels (before n others) ts rest (here, s, (mid, word, more)) =
    let (c, r, trees) = conj_from levels others mid rest more in
    let a = s.0 in
    let b = r.0 in
    (and n c, (omega arith, (here, s.1, (mid, word, r.1))), ap (λ (us : List RawTree). neg_tree n ∷ us) trees)

-- a list of conjunctions as a condition
cond_from : (levels : ℕ) (list : Listed Conj) (ts rest : List Token) → SpellsListed (Word (codes "OR")) (ConjIn levels) list ts rest → (c : Cond) × CondIn levels c ts rest × (cond_trees c ≡ values conj_tree list)
cond_from levels (last n) ts rest s = (last_conj n, s, refl)
cond_from levels (before n others) ts rest (here, s, (mid, word, more)) =
    let (c, r, trees) = cond_from levels others mid rest more in
    let a = s.0 in
    let b = r.0 in
    (or n c, (omega arith, (here, s.1, (mid, word, r.1))), ap (λ (us : List RawTree). conj_tree n ∷ us) trees)

abbrev conj_step : List RawTree × List Token → Option (RawTree × List Token)
conj_step x = Some (found (conj_of x.0) x.1)

abbrev disj_step : List RawTree × List Token → Option (RawTree × List Token)
disj_step x = Some (found (disj_of x.0) x.1)

module _ (levels : ℕ) (item : Reader RawTree) (read : (ts : List Token) (x : RawTree × List Token) → item ts ≡ Some x → NegRead levels ts x) where
  conj_spelled : (ts : List Token) (x : RawTree × List Token) → conj_at item ts ≡ Some x → ConjRead levels ts x
  conj_spelled ts x e =
      let (list, is, same) = stepped conj_step (items_at (after_word (codes "AND")) item ts) x e in
      let all = items_spelled (after_word (codes "AND")) (Word (codes "AND")) item (NegIn levels) neg_tree (word_spelled (codes "AND")) read ts list is in
      let (c, s, trees) = conj_from levels all.form ts list.1 all.spelled in
      subst (ConjRead levels ts) (same_value (found (conj_of list.0) list.1) x same) (record { form = c; spelled = s; stands = ap conj_of (trees ∙ all.stands) })

  cond_spelled : (ts : List Token) (x : RawTree × List Token) → cond_at item ts ≡ Some x → CondRead levels ts x
  cond_spelled ts x e =
      let (list, is, same) = stepped disj_step (items_at (after_word (codes "OR")) (conj_at item) ts) x e in
      let all = items_spelled (after_word (codes "OR")) (Word (codes "OR")) (conj_at item) (ConjIn levels) conj_tree (word_spelled (codes "OR")) conj_spelled ts list is in
      let (c, s, trees) = cond_from levels all.form ts list.1 all.spelled in
      subst (CondRead levels ts) (same_value (found (disj_of list.0) list.1) x same) (record { form = c; spelled = s; stands = ap disj_of (trees ∙ all.stands) })

  abbrev neg_step : RawTree × List Token → Option (RawTree × List Token)
  neg_step x = Some (found (raw.neg x.0) x.1)

  abbrev not_step : List Token → Option (RawTree × List Token)
  not_step behind = option_and_then neg_step (item behind)

  not_spelled : (ts : List Token) (x : RawTree × List Token) → not_at item ts ≡ Some x → NegRead (suc levels) ts x
  not_spelled ts x e =
      let (mid, word, e1) = stepped not_step (after_word (codes "NOT") ts) x e in
      let (y, is, same) = stepped neg_step (item mid) x e1 in
      let r = read mid y is in
      let a = r.spelled.0 in
      subst (NegRead (suc levels) ts) (same_value (found (raw.neg y.0) y.1) x same) (record {
        form = not r.form;
        spelled = (omega arith, (mid, word_spelled (codes "NOT") ts mid word, r.spelled.1));
        stands = ap raw.neg r.stands;
      })

  abbrev close_step : RawTree × List Token → Option (RawTree × List Token)
  close_step x = option_and_then (λ (rest : List Token). Some (found x.0 rest)) (after_sign CLOSE x.1)

  abbrev open_step : List Token → Option (RawTree × List Token)
  open_step behind = option_and_then close_step (cond_at item behind)

  parens_spelled : (ts : List Token) (x : RawTree × List Token) → parens_at item ts ≡ Some x → NegRead (suc levels) ts x
  parens_spelled ts x e =
      let (mid, opened, e1) = stepped open_step (after_sign OPEN ts) x e in
      let (y, is, e2) = stepped close_step (cond_at item mid) x e1 in
      let (rest, closed, same) = stepped (λ (rest : List Token). Some (found y.0 rest)) (after_sign CLOSE y.1) x e2 in
      let r = cond_spelled mid y is in
      let a = r.spelled.0 in
      subst (NegRead (suc levels) ts) (same_value (found y.0 rest) x same) (record {
        form = parens r.form;
        spelled = (omega arith, (mid, sign_spelled OPEN ts mid opened, (y.1, r.spelled.1, sign_spelled CLOSE y.1 rest closed)));
        stands = r.stands;
      })

  single_spelled : (ts : List Token) (x : RawTree × List Token) → test_at ts ≡ Some x → NegRead (suc levels) ts x
  single_spelled ts x e =
      let r = test_spelled ts x e in
      record { form = test r.form; spelled = (omega arith, r.spelled); stands = r.stands }

  nest_spelled : (ts : List Token) (x : RawTree × List Token) → nest item ts ≡ Some x → NegRead (suc levels) ts x
  nest_spelled ts x e =
      ⊎_elim (not_spelled ts x)
      (λ f. ⊎_elim (parens_spelled ts x) (single_spelled ts x) (one_of (parens_at item ts) (test_at ts) x f))
      (one_of (not_at item ts) (option_or (parens_at item ts) (test_at ts)) x e)

neg_spelled : (levels : ℕ) (ts : List Token) (x : RawTree × List Token) → neg_at levels ts ≡ Some x → NegRead levels ts x
unfolding neg_at
neg_spelled zero ts x e = absurd cc
neg_spelled (suc levels) ts x e = nest_spelled levels (neg_at levels) (neg_spelled levels) ts x e

pub whole_spelled : (levels : ℕ) (ts : List Token) (x : RawTree × List Token) → cond_at (neg_at levels) ts ≡ Some x → CondRead levels ts x
whole_spelled levels ts x e = cond_spelled levels (neg_at levels) (neg_spelled levels) ts x e

-- each form has tokens of its own
mutual
  neg_forward : (n : Neg) → Forward (SpellsNeg n)
  neg_forward (not n) = then_forward (Word (codes "NOT")) (SpellsNeg n) (word_forward (codes "NOT")) (neg_forward n)
  neg_forward (parens c) = then_forward (Sign OPEN) (SpellsCond c >> Sign CLOSE) (sign_forward OPEN) (then_forward (SpellsCond c) (Sign CLOSE) (cond_forward c) (sign_forward CLOSE))
  neg_forward (test t) = test_forward t

  conj_forward : (c : Conj) → Forward (SpellsConj c)
  conj_forward (last_neg n) = neg_forward n
  conj_forward (and n c) = then_forward (SpellsNeg n) (Word (codes "AND") >> SpellsConj c) (neg_forward n) (then_forward (Word (codes "AND")) (SpellsConj c) (word_forward (codes "AND")) (conj_forward c))

  pub cond_forward : (c : Cond) → Forward (SpellsCond c)
  cond_forward (last_conj c) = conj_forward c
  cond_forward (or c d) = then_forward (SpellsConj c) (Word (codes "OR") >> SpellsCond d) (conj_forward c) (then_forward (Word (codes "OR")) (SpellsCond d) (word_forward (codes "OR")) (cond_forward d))

pub neg_short : (levels : ℕ) (ts : List Token) (x : RawTree × List Token) → neg_at levels ts ≡ Some x → length x.1 < length ts
neg_short levels ts x e = let r = neg_spelled levels ts x e in behind_short (SpellsNeg r.form) ts x.1 (neg_forward r.form ts x.1 r.spelled.1)

pub conj_short : (levels : ℕ) (ts : List Token) (x : RawTree × List Token) → conj_at (neg_at levels) ts ≡ Some x → length x.1 < length ts
conj_short levels ts x e = let r = conj_spelled levels (neg_at levels) (neg_spelled levels) ts x e in behind_short (SpellsConj r.form) ts x.1 (conj_forward r.form ts x.1 r.spelled.1)
