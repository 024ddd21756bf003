-- A condition that is spelled is read, as far as it goes or farther.
use Rattle.std.proofs.Common.{◌≡◌, ℕ, zero, suc, ◌<◌, Bool, true, false, cond, ◌||◌, List, [], ◌∷◌, Option, Some, None, is_some, refl, ◌∙◌, inl, inr, ⊎_elim, codes, arith}
use Rattle.std.specs.Option.{option_or}
use Rattle.rx_token.specs.declared.kinds.Token.{Token}
use Rattle.rx_token.specs.declared.signs.TheConstants.{OPEN, CLOSE}
use Rattle.rx_token.specs.Reserved.{is_word_of}
use Rattle.rx_reading.specs.Reading.{Reader, after_word, items_at}
use Rattle.rx_reading.specs.Forms.{Word, Sign}
use Rattle.rx_reading.proofs.Farther.{Reaches, changed, last_reaches, next_reaches}
use Rattle.rx_reading.proofs.Steps.{then_gives, then_none, first_gives, second_gives}
use Rattle.rx_reading.proofs.Spelled.{word_read, sign_read}
use Rattle.rx_where.specs.Conditions.{test_at, neg_at, conj_at, cond_at, parens_at, nest}
use Rattle.rx_where.specs.Tests.{op_of_sign}
use Rattle.rx_where.specs.Raw.{RawTree, conj_of, disj_of}
use Rattle.rx_where.specs.Raw as raw
use Rattle.rx_where.specs.Grammar.{test_tree, Neg, Conj, Cond, not, parens, test, last_neg, and, last_conj, or, SpellsNeg, SpellsConj, SpellsCond, neg_tree, conj_trees, cond_trees, neg_depth, conj_depth, cond_depth}
use Rattle.rx_where.proofs.Leads.{What, starts, starts_any, free, first_free, no_word}
use Rattle.rx_where.proofs.Leads as lead
use Rattle.rx_where.proofs.OperandLaws.{found, begins_word, begins_sign, word_short}
use Rattle.rx_where.proofs.TestReads.{predicates}
use Rattle.rx_where.proofs.TestReaches.{test_goes_on, test_reaches, test_entered, neg_behind, close_cond, cond_behind}
use Rattle.rx_where.proofs.CondSpelled.{conj_tree, cond_tree, neg_short, conj_short}

abbrev conj_goes_on : List Token → Bool
conj_goes_on ts = starts_any (lead.word (codes "AND") ∷ predicates) ts

abbrev pub cond_goes_on : List Token → Bool
cond_goes_on ts = starts_any (lead.word (codes "OR") ∷ lead.word (codes "AND") ∷ predicates) ts

or_right : (a b : Bool) → b ≡ true → (a || b) ≡ true
or_right true b e = refl
or_right false b e = e

or_left : (a b : Bool) → a ≡ true → (a || b) ≡ true
or_left true b e = refl
or_left false b e = absurd cc

is_some_if : {A : Type 0} (b : Bool) (x : A) → is_some (cond b (Some x) None) ≡ true → b ≡ true
is_some_if true x e = refl
is_some_if false x e = absurd cc

word_comes : (w : List ℕ) (ts : List Token) → is_some (after_word w ts) ≡ true → starts (lead.word w) ts ≡ true
unfolding is_word_of
word_comes w [] e = absurd cc
word_comes w (t ∷ ts) e = is_some_if (is_word_of w t) ts e

abbrev neg_step : RawTree × List Token → Option (RawTree × List Token)
neg_step x = Some (found (raw.neg x.0) x.1)

not_reaches : (item : Reader RawTree) (ts mid rest : List Token) (tree : RawTree) → Word (codes "NOT") ts mid → Reaches test_goes_on (item mid) tree rest → Reaches test_goes_on (nest item ts) (raw.neg tree) rest
not_reaches item ts mid rest tree word r =
    ⊎_elim
    (λ e. inl (first_gives (option_or (parens_at item ts) (test_at ts)) (then_gives (neg_behind item) (word_read (codes "NOT") ts mid word) (then_gives neg_step e refl))))
    (λ b. inr (record {
      x = (raw.neg b.x.0, b.x.1);
      is = first_gives (option_or (parens_at item ts) (test_at ts)) (then_gives (neg_behind item) (word_read (codes "NOT") ts mid word) (then_gives neg_step b.is refl));
      shorter = b.shorter;
      follows = b.follows;
    }))
    r

close_stops : (end rest : List Token) → Sign CLOSE end rest → cond_goes_on end ≡ false
unfolding op_of_sign
close_stops end rest s = free (lead.sign CLOSE) (lead.word (codes "OR") ∷ lead.word (codes "AND") ∷ predicates) end refl (begins_sign CLOSE end rest s)

parens_reach : (item : Reader RawTree) (ts mid end rest : List Token) (tree : RawTree) → Sign OPEN ts mid → Sign CLOSE end rest → Reaches cond_goes_on (cond_at item mid) tree end → Reaches test_goes_on (nest item ts) tree rest
parens_reach item ts mid end rest tree opened closed r =
    let no_not = free (lead.sign OPEN) (lead.word (codes "NOT") ∷ []) ts refl (begins_sign OPEN ts mid opened) in
    ⊎_elim
    (λ e. inl (second_gives (then_none (neg_behind item) (no_word (codes "NOT") ts (first_free (lead.word (codes "NOT")) [] ts no_not)))
    (first_gives (test_at ts) (then_gives (cond_behind item) (sign_read OPEN ts mid opened) (then_gives close_cond e (then_gives (λ (rest : List Token). Some (found tree rest)) (sign_read CLOSE end rest closed) refl))))))
    (λ b. let f = b.follows in let g = close_stops end rest closed in absurd cc)
    r

single_reaches : (levels : ℕ) (ts rest : List Token) (tree : RawTree) → nest (neg_at levels) ts ≡ test_at ts → Reaches test_goes_on (test_at ts) tree rest → Reaches test_goes_on (nest (neg_at levels) ts) tree rest
single_reaches levels ts rest tree same r =
    ⊎_elim (λ e. inl (same ∙ e)) (λ b. inr (record { x = b.x; is = same ∙ b.is; shorter = b.shorter; follows = b.follows })) r

and_stops : (here mid : List Token) → Word (codes "AND") here mid → test_goes_on here ≡ false
and_stops here mid s = free (lead.word (codes "AND")) predicates here refl (begins_word (codes "AND") here mid s)

or_stops : (here mid : List Token) → Word (codes "OR") here mid → conj_goes_on here ≡ false
or_stops here mid s = free (lead.word (codes "OR")) (lead.word (codes "AND") ∷ predicates) here refl (begins_word (codes "OR") here mid s)

from_test : (ts : List Token) → test_goes_on ts ≡ true → conj_goes_on ts ≡ true
from_test ts e = or_right (starts (lead.word (codes "AND")) ts) (test_goes_on ts) e

from_and : (ts : List Token) → is_some (after_word (codes "AND") ts) ≡ true → conj_goes_on ts ≡ true
from_and ts e = or_left (starts (lead.word (codes "AND")) ts) (test_goes_on ts) (word_comes (codes "AND") ts e)

from_conj : (ts : List Token) → conj_goes_on ts ≡ true → cond_goes_on ts ≡ true
from_conj ts e = or_right (starts (lead.word (codes "OR")) ts) (conj_goes_on ts) e

from_or : (ts : List Token) → is_some (after_word (codes "OR") ts) ≡ true → cond_goes_on ts ≡ true
from_or ts e = or_left (starts (lead.word (codes "OR")) ts) (conj_goes_on ts) (word_comes (codes "OR") ts e)

mutual
  unfolding neg_at

  neg_reaches : (n : Neg) (levels : ℕ) → neg_depth n < levels → (ts rest : List Token) → SpellsNeg n ts rest → Reaches test_goes_on (neg_at levels ts) (neg_tree n) rest
  neg_reaches n zero within ts rest s = absurd (omega arith)
  neg_reaches (not n) (suc levels) within ts rest (mid, word, s) = not_reaches (neg_at levels) ts mid rest (neg_tree n) word (neg_reaches n levels (omega arith) mid rest s)
  neg_reaches (parens c) (suc levels) within ts rest (mid, opened, (end, s, closed)) =
      parens_reach (neg_at levels) ts mid end rest (cond_tree c) opened closed (changed disj_of cond_goes_on (items_at (after_word (codes "OR")) (conj_at (neg_at levels)) mid) (cond_trees c) end (cond_reaches c levels (omega arith) mid end s))
  neg_reaches (test t) (suc levels) within ts rest s = single_reaches levels ts rest (test_tree t) (test_entered t levels ts rest s) (test_reaches t ts rest s)

  conj_reaches : (c : Conj) (levels : ℕ) → conj_depth c < levels → (ts rest : List Token) → SpellsConj c ts rest → Reaches conj_goes_on (items_at (after_word (codes "AND")) (neg_at levels) ts) (conj_trees c) rest
  conj_reaches (last_neg n) levels within ts rest s =
      last_reaches (after_word (codes "AND")) (neg_at levels) (word_short (codes "AND")) (neg_short levels) test_goes_on conj_goes_on from_test from_and (neg_tree n) ts rest (neg_reaches n levels within ts rest s)
  conj_reaches (and n c) levels within ts rest (here, s, (mid, word, more)) =
      next_reaches (after_word (codes "AND")) (neg_at levels) (word_short (codes "AND")) (neg_short levels) test_goes_on conj_goes_on from_test from_and (neg_tree n) (conj_trees c) ts here mid rest (and_stops here mid word) (word_read (codes "AND") here mid word) (neg_reaches n levels (omega arith) ts here s) (conj_reaches c levels (omega arith) mid rest more)

  cond_reaches : (c : Cond) (levels : ℕ) → cond_depth c < levels → (ts rest : List Token) → SpellsCond c ts rest → Reaches cond_goes_on (items_at (after_word (codes "OR")) (conj_at (neg_at levels)) ts) (cond_trees c) rest
  cond_reaches (last_conj c) levels within ts rest s =
      last_reaches (after_word (codes "OR")) (conj_at (neg_at levels)) (word_short (codes "OR")) (conj_short levels) conj_goes_on cond_goes_on from_conj from_or (conj_tree c) ts rest (changed conj_of conj_goes_on (items_at (after_word (codes "AND")) (neg_at levels) ts) (conj_trees c) rest (conj_reaches c levels within ts rest s))
  cond_reaches (or c d) levels within ts rest (here, s, (mid, word, more)) =
      next_reaches (after_word (codes "OR")) (conj_at (neg_at levels)) (word_short (codes "OR")) (conj_short levels) conj_goes_on cond_goes_on from_conj from_or (conj_tree c) (cond_trees d) ts here mid rest (or_stops here mid word) (word_read (codes "OR") here mid word) (changed conj_of conj_goes_on (items_at (after_word (codes "AND")) (neg_at levels) ts) (conj_trees c) here (conj_reaches c levels (omega arith) ts here s)) (cond_reaches d levels (omega arith) mid rest more)

pub whole_reaches : (c : Cond) (levels : ℕ) → cond_depth c < levels → (ts rest : List Token) → SpellsCond c ts rest → Reaches cond_goes_on (cond_at (neg_at levels) ts) (cond_tree c) rest
whole_reaches c levels within ts rest s = changed disj_of cond_goes_on (items_at (after_word (codes "OR")) (conj_at (neg_at levels)) ts) (cond_trees c) rest (cond_reaches c levels within ts rest s)
