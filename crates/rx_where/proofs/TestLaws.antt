-- Tests of operands: what is read is spelled, and what is spelled is read.
use Rattle.std.proofs.Common.{◌≡◌, ℕ, ◌<◌, true, List, [], ◌∷◌, length, Option, Some, refl, ap, subst, ◌∙◌, ⊎_elim, codes, arith}
use Rattle.std.specs.Option.{option_and_then, option_or}
use Rattle.rx_value.specs.declared.values.Value.{Value}
use Rattle.rx_token.specs.declared.kinds.Token.{Token}
use Rattle.rx_reading.specs.Reading.{after_word, text_at}
use Rattle.rx_reading.specs.Forms.{Form, ◌>>◌, Word, Text}
use Rattle.rx_reading.proofs.Steps.{stepped, then_gives, one_of, same_value}
use Rattle.rx_reading.proofs.Spelled.{behind_short, word_spelled, text_spelled, Read}
use Rattle.rx_cond.specs.declared.conds.Op.{Op}
use Rattle.rx_cond.specs.declared.conds.Tri.{Tri}
use Rattle.rx_cond.specs.declared.conds.Tri.TheVariants.{T, F, N}
use Rattle.rx_where.specs.declared.raw.RawOperand.{RawOperand}
use Rattle.rx_where.specs.Operands.{operand_at, constants_at}
use Rattle.rx_where.specs.Tests.{op_of, op_at, compared_at, is_not_null_at, is_null_at, between_at, among_at, like_at, ranged_at, not_ranged_at, null_test_at, predicate_at, operand_test_at, truth_at}
use Rattle.rx_where.specs.Raw.{RawTree}
use Rattle.rx_where.specs.Raw as raw
use Rattle.rx_where.specs.Grammar.{Comparison, Operand, name, constant, SpellsOperand, operand_side, SpellsConstants, Sense, plain, negated, WithNot, with_not, compared, null_test, between, among, like, alone, truth_word, SpellsTest, test_tree}
use Rattle.rx_where.proofs.Leads.{What, starts, starts_any, free, first_free, others_free, no_word, no_comparison}
use Rattle.rx_where.proofs.Leads as lead
use Rattle.rx_where.proofs.OperandLaws.{found, operand_spelled, operand_forward, constants_spelled, constants_forward, text_forward, word_short}

pub op_spelled : (ts : List Token) (x : Op × List Token) → op_at ts ≡ Some x → Comparison x.0 ts x.1
op_spelled [] x e = absurd cc
op_spelled (t ∷ ts) x e =
    let (op, is, same) = stepped (λ (op : Op). Some (found op ts)) (op_of t.kind) x e in
    let p = same_value (found op ts) x same in
    (is ∙ ap (λ (y : Op × List Token). Some y.0) p, ap (λ (y : Op × List Token). y.1) p)

pub op_read : (op : Op) (ts rest : List Token) → Comparison op ts rest → op_at ts ≡ Some (found op rest)
op_read op [] rest s = absurd s
op_read op (t ∷ ts) rest s = then_gives (λ (o : Op). Some (found o ts)) s.0 (ap (λ (us : List Token). Some (found op us)) s.1)

pub begins_comparison : (op : Op) (ts rest : List Token) → Comparison op ts rest → starts lead.comparison ts ≡ true
begins_comparison op [] rest s = absurd s
begins_comparison op (t ∷ ts) rest s = rw s.0 refl

op_short : (ts : List Token) (x : Op × List Token) → op_at ts ≡ Some x → length x.1 < length ts
op_short [] x e = absurd cc
op_short (t ∷ ts) x e =
    let s = op_spelled (t ∷ ts) x e in
    let k : length ts ≡ length x.1 = ap length s.1 in
    omega arith

operand_short : (ts : List Token) (x : RawOperand × List Token) → operand_at ts ≡ Some x → length x.1 < length ts
operand_short ts x e = let r = operand_spelled ts x e in behind_short (SpellsOperand r.form) ts x.1 (operand_forward r.form ts x.1 r.spelled)

constants_short : (ts : List Token) (x : List Value × List Token) → constants_at ts ≡ Some x → length x.1 < length ts
constants_short ts x e = let r = constants_spelled ts x e in behind_short (SpellsConstants r.form) ts x.1 (constants_forward r.form ts x.1 r.spelled)

text_short : (ts : List Token) (x : List ℕ × List Token) → text_at ts ≡ Some x → length x.1 < length ts
text_short ts x e = behind_short (Text x.0) ts x.1 (text_forward x.0 ts x.1 (text_spelled ts x e))

-- the steps of the readers
abbrev pub high_step : RawOperand → RawOperand → RawOperand × List Token → Option (RawTree × List Token)
high_step left low high = Some (found (raw.between left low high.0) high.1)

abbrev pub and_step : RawOperand → RawOperand → List Token → Option (RawTree × List Token)
and_step left low next = option_and_then (high_step left low) (operand_at next)

abbrev pub low_step : RawOperand → RawOperand × List Token → Option (RawTree × List Token)
low_step left low = option_and_then (and_step left low.0) (after_word (codes "AND") low.1)

abbrev pub between_step : RawOperand → List Token → Option (RawTree × List Token)
between_step left behind = option_and_then (low_step left) (operand_at behind)

abbrev pub list_step : RawOperand → List Value × List Token → Option (RawTree × List Token)
list_step left list = Some (found (raw.member left list.0) list.1)

abbrev pub among_step : RawOperand → List Token → Option (RawTree × List Token)
among_step left behind = option_and_then (list_step left) (constants_at behind)

abbrev pub pattern_step : List ℕ → List ℕ × List Token → Option (RawTree × List Token)
pattern_step column pattern = Some (found (raw.like column pattern.0) pattern.1)

abbrev pub like_step : List ℕ → List Token → Option (RawTree × List Token)
like_step column behind = option_and_then (pattern_step column) (text_at behind)

abbrev pub neg_step : RawTree × List Token → Option (RawTree × List Token)
neg_step x = Some (found (raw.neg x.0) x.1)

abbrev pub not_step : RawOperand → List Token → Option (RawTree × List Token)
not_step left behind = option_and_then neg_step (ranged_at left behind)

abbrev pub right_step : RawOperand → Op → RawOperand × List Token → Option (RawTree × List Token)
right_step left op right = Some (found (raw.compare op left right.0) right.1)

abbrev pub op_step : RawOperand → Op × List Token → Option (RawTree × List Token)
op_step left op = option_and_then (right_step left op.0) (operand_at op.1)

abbrev pub null_step : RawOperand → List Token → Option (RawTree × List Token)
null_step left rest = Some (found (raw.is_null left) rest)

abbrev pub is_step : RawOperand → List Token → Option (RawTree × List Token)
is_step left behind = option_and_then (null_step left) (after_word (codes "NULL") behind)

abbrev pub not_null_step : RawOperand → List Token → Option (RawTree × List Token)
not_null_step left rest = Some (found (raw.neg (raw.is_null left)) rest)

abbrev pub then_null_step : RawOperand → List Token → Option (RawTree × List Token)
then_null_step left next = option_and_then (not_null_step left) (after_word (codes "NULL") next)

abbrev pub is_not_step : RawOperand → List Token → Option (RawTree × List Token)
is_not_step left behind = option_and_then (then_null_step left) (after_word (codes "NOT") behind)

abbrev pub predicate_step : RawOperand × List Token → Option (RawTree × List Token)
predicate_step left = predicate_at left.0 left.1

abbrev pub TestRead : List Token → RawTree × List Token → Type 0
TestRead ts x = Read SpellsTest test_tree ts x

-- a test that was read behind its operand
pub record TestedRead (ts here : List Token) (x : RawTree × List Token) : Type 0 where
  pub read : TestRead ts x
  pub shorter : length x.1 < length here

-- how what stands behind [NOT] is entered
abbrev pub Enters : Sense → List Token → List Token → Type 1
Enters sense here mid = (f : Form) (rest : List Token) → f mid rest → WithNot sense f here rest

abbrev pub sensed : Sense → RawTree × List Token → RawTree × List Token
sensed sense x = (with_not sense x.0, x.1)

same_between : (sense : Sense) (left low low_read high high_read : RawOperand) → low ≡ low_read → high ≡ high_read → with_not sense (raw.between left low high) ≡ with_not sense (raw.between left low_read high_read)
same_between sense left low low_read high high_read e f =
    ap (λ (v : RawOperand). with_not sense (raw.between left v high)) e ∙ ap (λ (v : RawOperand). with_not sense (raw.between left low_read v)) f

module _ (sense : Sense) (l : Operand) (ts here mid : List Token) (s : SpellsOperand l ts here) (enters : Enters sense here mid) where
  between_spelled : (x : RawTree × List Token) → between_at (operand_side l) mid ≡ Some x → TestedRead ts mid (sensed sense x)
  unfolding between_at
  between_spelled x e =
      let (behind, word, e1) = stepped (between_step (operand_side l)) (after_word (codes "BETWEEN") mid) x e in
      let (low, read_low, e2) = stepped (low_step (operand_side l)) (operand_at behind) x e1 in
      let (next, word_and, e3) = stepped (and_step (operand_side l) low.0) (after_word (codes "AND") low.1) x e2 in
      let (high, read_high, same) = stepped (high_step (operand_side l) low.0) (operand_at next) x e3 in
      let a = operand_spelled behind low read_low in
      let b = operand_spelled next high read_high in
      let n1 = word_short (codes "BETWEEN") mid behind word in
      let n2 = operand_short behind low read_low in
      let n3 = word_short (codes "AND") low.1 next word_and in
      let n4 = operand_short next high read_high in
      subst (λ (y : RawTree × List Token). TestedRead ts mid (sensed sense y)) (same_value (found (raw.between (operand_side l) low.0 high.0) high.1) x same) (record {
        read = record {
          form = between sense l a.form b.form;
          spelled = (here, s, enters (Word (codes "BETWEEN") >> SpellsOperand a.form >> Word (codes "AND") >> SpellsOperand b.form) high.1 (behind, word_spelled (codes "BETWEEN") mid behind word, (low.1, a.spelled, (next, word_spelled (codes "AND") low.1 next word_and, b.spelled))));
          stands = same_between sense (operand_side l) (operand_side a.form) low.0 (operand_side b.form) high.0 a.stands b.stands;
        };
        shorter = omega arith;
      })

  among_spelled : (x : RawTree × List Token) → among_at (operand_side l) mid ≡ Some x → TestedRead ts mid (sensed sense x)
  unfolding among_at
  among_spelled x e =
      let (behind, word, e1) = stepped (among_step (operand_side l)) (after_word (codes "IN") mid) x e in
      let (list, read, same) = stepped (list_step (operand_side l)) (constants_at behind) x e1 in
      let a = constants_spelled behind list read in
      let n1 = word_short (codes "IN") mid behind word in
      let n2 = constants_short behind list read in
      subst (λ (y : RawTree × List Token). TestedRead ts mid (sensed sense y)) (same_value (found (raw.member (operand_side l) list.0) list.1) x same) (record {
        read = record {
          form = among sense l a.form;
          spelled = (here, s, enters (Word (codes "IN") >> SpellsConstants a.form) list.1 (behind, word_spelled (codes "IN") mid behind word, a.spelled));
          stands = ap (λ (v : List Value). with_not sense (raw.member (operand_side l) v)) a.stands;
        };
        shorter = omega arith;
      })

like_spelled : (sense : Sense) (l : Operand) (ts here mid : List Token) → SpellsOperand l ts here → Enters sense here mid → (x : RawTree × List Token) → like_at (operand_side l) mid ≡ Some x → TestedRead ts mid (sensed sense x)
like_spelled sense (constant c) ts here mid s enters x e = absurd cc
like_spelled sense (name column) ts here mid s enters x e =
    let (behind, word, e1) = stepped (like_step column) (after_word (codes "LIKE") mid) x e in
    let (pattern, read, same) = stepped (pattern_step column) (text_at behind) x e1 in
    let n1 = word_short (codes "LIKE") mid behind word in
    let n2 = text_short behind pattern read in
    subst (λ (y : RawTree × List Token). TestedRead ts mid (sensed sense y)) (same_value (found (raw.like column pattern.0) pattern.1) x same) (record {
      read = record {
        form = like sense column pattern.0;
        spelled = (here, s, enters (Word (codes "LIKE") >> Text pattern.0) pattern.1 (behind, word_spelled (codes "LIKE") mid behind word, text_spelled behind pattern read));
        stands = refl;
      };
      shorter = omega arith;
    })

ranged_spelled : (sense : Sense) (l : Operand) (ts here mid : List Token) → SpellsOperand l ts here → Enters sense here mid → (x : RawTree × List Token) → ranged_at (operand_side l) mid ≡ Some x → TestedRead ts mid (sensed sense x)
unfolding ranged_at
ranged_spelled sense l ts here mid s enters x e =
    ⊎_elim (between_spelled sense l ts here mid s enters x)
    (λ f. ⊎_elim (among_spelled sense l ts here mid s enters x) (like_spelled sense l ts here mid s enters x) (one_of (among_at (operand_side l) mid) (like_at (operand_side l) mid) x f))
    (one_of (between_at (operand_side l) mid) (option_or (among_at (operand_side l) mid) (like_at (operand_side l) mid)) x e)

not_ranged_spelled : (l : Operand) (ts here : List Token) → SpellsOperand l ts here → (x : RawTree × List Token) → not_ranged_at (operand_side l) here ≡ Some x → TestedRead ts here x
unfolding not_ranged_at
not_ranged_spelled l ts here s x e =
    let (mid, word, e1) = stepped (not_step (operand_side l)) (after_word (codes "NOT") here) x e in
    let (y, read, same) = stepped neg_step (ranged_at (operand_side l) mid) x e1 in
    let r = ranged_spelled negated l ts here mid s (λ f rest t. (mid, word_spelled (codes "NOT") here mid word, t)) y read in
    let n1 = word_short (codes "NOT") here mid word in
    let n2 = r.shorter in
    subst (TestedRead ts here) (same_value (found (raw.neg y.0) y.1) x same) (record { read = r.read; shorter = omega arith })

compared_spelled : (l : Operand) (ts here : List Token) → SpellsOperand l ts here → (x : RawTree × List Token) → compared_at (operand_side l) here ≡ Some x → TestedRead ts here x
unfolding compared_at
compared_spelled l ts here s x e =
    let (op, read_op, e1) = stepped (op_step (operand_side l)) (op_at here) x e in
    let (right, read, same) = stepped (right_step (operand_side l) op.0) (operand_at op.1) x e1 in
    let a = operand_spelled op.1 right read in
    let n1 = op_short here op read_op in
    let n2 = operand_short op.1 right read in
    subst (TestedRead ts here) (same_value (found (raw.compare op.0 (operand_side l) right.0) right.1) x same) (record {
      read = record {
        form = compared l op.0 a.form;
        spelled = (here, s, (op.1, op_spelled here op read_op, a.spelled));
        stands = ap (raw.compare op.0 (operand_side l)) a.stands;
      };
      shorter = omega arith;
    })

is_null_spelled : (l : Operand) (ts here : List Token) → SpellsOperand l ts here → (x : RawTree × List Token) → is_null_at (operand_side l) here ≡ Some x → TestedRead ts here x
is_null_spelled l ts here s x e =
    let (behind, word, e1) = stepped (is_step (operand_side l)) (after_word (codes "IS") here) x e in
    let (rest, word_null, same) = stepped (null_step (operand_side l)) (after_word (codes "NULL") behind) x e1 in
    let n1 = word_short (codes "IS") here behind word in
    let n2 = word_short (codes "NULL") behind rest word_null in
    subst (TestedRead ts here) (same_value (found (raw.is_null (operand_side l)) rest) x same) (record {
      read = record {
        form = null_test plain l;
        spelled = (here, s, (behind, word_spelled (codes "IS") here behind word, word_spelled (codes "NULL") behind rest word_null));
        stands = refl;
      };
      shorter = omega arith;
    })

is_not_null_spelled : (l : Operand) (ts here : List Token) → SpellsOperand l ts here → (x : RawTree × List Token) → is_not_null_at (operand_side l) here ≡ Some x → TestedRead ts here x
is_not_null_spelled l ts here s x e =
    let (behind, word, e1) = stepped (is_not_step (operand_side l)) (after_word (codes "IS") here) x e in
    let (next, word_not, e2) = stepped (then_null_step (operand_side l)) (after_word (codes "NOT") behind) x e1 in
    let (rest, word_null, same) = stepped (not_null_step (operand_side l)) (after_word (codes "NULL") next) x e2 in
    let n1 = word_short (codes "IS") here behind word in
    let n2 = word_short (codes "NOT") behind next word_not in
    let n3 = word_short (codes "NULL") next rest word_null in
    subst (TestedRead ts here) (same_value (found (raw.neg (raw.is_null (operand_side l))) rest) x same) (record {
      read = record {
        form = null_test negated l;
        spelled = (here, s, (behind, word_spelled (codes "IS") here behind word, (next, word_spelled (codes "NOT") behind next word_not, word_spelled (codes "NULL") next rest word_null)));
        stands = refl;
      };
      shorter = omega arith;
    })

null_test_spelled : (l : Operand) (ts here : List Token) → SpellsOperand l ts here → (x : RawTree × List Token) → null_test_at (operand_side l) here ≡ Some x → TestedRead ts here x
unfolding null_test_at
null_test_spelled l ts here s x e =
    ⊎_elim (is_not_null_spelled l ts here s x) (is_null_spelled l ts here s x) (one_of (is_not_null_at (operand_side l) here) (is_null_at (operand_side l) here) x e)

pub predicate_spelled : (l : Operand) (ts here : List Token) → SpellsOperand l ts here → (x : RawTree × List Token) → predicate_at (operand_side l) here ≡ Some x → TestedRead ts here x
unfolding predicate_at
predicate_spelled l ts here s x e =
    ⊎_elim (compared_spelled l ts here s x)
    (λ f. ⊎_elim (null_test_spelled l ts here s x)
    (λ g. ⊎_elim (not_ranged_spelled l ts here s x) (ranged_spelled plain l ts here here s (λ f rest t. t) x)
    (one_of (not_ranged_at (operand_side l) here) (ranged_at (operand_side l) here) x g))
    (one_of (null_test_at (operand_side l) here) (option_or (not_ranged_at (operand_side l) here) (ranged_at (operand_side l) here)) x f))
    (one_of (compared_at (operand_side l) here) (option_or (null_test_at (operand_side l) here) (option_or (not_ranged_at (operand_side l) here) (ranged_at (operand_side l) here))) x e)

pub operand_test_spelled : (ts : List Token) (x : RawTree × List Token) → operand_test_at ts ≡ Some x → TestRead ts x
unfolding operand_test_at
operand_test_spelled ts x e =
    let (left, read, e1) = stepped predicate_step (operand_at ts) x e in
    let l = operand_spelled ts left read in
    let r = predicate_spelled l.form ts left.1 l.spelled x (ap (λ (v : RawOperand). predicate_at v left.1) l.stands ∙ e1) in
    r.read

alone_spelled : (truth : Tri) (ts : List Token) (x : RawTree × List Token) → option_and_then (λ (rest : List Token). Some (found (raw.truth truth) rest)) (after_word (truth_word truth) ts) ≡ Some x → TestRead ts x
alone_spelled truth ts x e =
    let (rest, word, same) = stepped (λ (rest : List Token). Some (found (raw.truth truth) rest)) (after_word (truth_word truth) ts) x e in
    subst (TestRead ts) (same_value (found (raw.truth truth) rest) x same) (record { form = alone truth; spelled = word_spelled (truth_word truth) ts rest word; stands = refl })

abbrev pub alone_by : Tri → List Token → Option (RawTree × List Token)
alone_by truth ts = option_and_then (λ (rest : List Token). Some (found (raw.truth truth) rest)) (after_word (truth_word truth) ts)

pub truth_spelled : (ts : List Token) (x : RawTree × List Token) → truth_at ts ≡ Some x → TestRead ts x
unfolding truth_at
truth_spelled ts x e =
    ⊎_elim (alone_spelled T ts x)
    (λ f. ⊎_elim (alone_spelled F ts x) (alone_spelled N ts x) (one_of (alone_by F ts) (alone_by N ts) x f))
    (one_of (alone_by T ts) (option_or (alone_by F ts) (alone_by N ts)) x e)
