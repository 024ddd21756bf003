-- A condition that tokens with texts in UTF-8 spell compares texts in UTF-8.
use Rattle.std.proofs.Common.{ℕ, List, [], ◌∷◌, subst, codes}
use Rattle.std.specs.List.{AllByRecursion}
use Rattle.rx_token.specs.declared.kinds.Token.{Token}
use Rattle.rx_token.specs.declared.signs.TheConstants.{OPEN, CLOSE}
use Rattle.rx_reading.specs.Forms.{Form, ◌>>◌, Word, Sign}
use Rattle.rx_where.specs.Raw.{RawTree, raw_trees, conj_of, disj_of}
use Rattle.rx_where.specs.Grammar.{Constant, number, plus, minus, string, null, SpellsConstant, constant_value, Operand, name, constant, SpellsOperand, operand_side, Sense, plain, negated, WithNot, with_not, Test, compared, null_test, between, among, like, alone, rows, SpellsTest, test_tree, Neg, Conj, Cond, not, parens, test, last_neg, and, last_conj, or, SpellsNeg, SpellsConj, SpellsCond, neg_tree, conj_trees, cond_trees, IsCond}
use Rattle.rx_where.proofs.OperandLaws.{operand_forward}
use Rattle.rx_where.proofs.TestReaches.{test_forward}
use Rattle.rx_regions.specs.Texts.{IsUtf8Value}
use Rattle.rx_spelled.specs.Utf8.{IsUtf8Side, RawComparesUtf8, AllRawCompareUtf8}
use Rattle.rx_spelled.proofs.Keeping.{Texts, Keeps, forward_keeps, one_keeps, word_keeps, sign_keeps, then_keeps}

constant_utf8 : (c : Constant) (ts rest : List Token) → Texts ts → SpellsConstant c ts rest → IsUtf8Value (constant_value c)
constant_utf8 (number n) ts rest h s = tt
constant_utf8 (plus n) ts rest h s = tt
constant_utf8 (minus n) ts rest h s = tt
constant_utf8 (string text) [] rest h s = absurd s
constant_utf8 (string text) (t ∷ ts) rest h s = subst (λ (bytes : List ℕ). IsUtf8Value (constant_value (string bytes))) s.0.1 (h.0 s.0.0)
constant_utf8 null ts rest h s = tt

operand_utf8 : (o : Operand) (ts rest : List Token) → Texts ts → SpellsOperand o ts rest → IsUtf8Side (operand_side o)
operand_utf8 (name text) ts rest h s = tt
operand_utf8 (constant c) ts rest h s = constant_utf8 c ts rest h s

operand_keeps : (o : Operand) → Keeps (SpellsOperand o)
operand_keeps o = forward_keeps (SpellsOperand o) (operand_forward o)

with_not_utf8 : (sense : Sense) (tree : RawTree) → RawComparesUtf8 tree → RawComparesUtf8 (with_not sense tree)
with_not_utf8 plain tree h = h
with_not_utf8 negated tree h = h

-- what stands behind NOT, or where no NOT stands
behind_not : (sense : Sense) (form : Form) (ts rest : List Token) → Texts ts → WithNot sense form ts rest → (here : List Token) × Texts here × form here rest
behind_not plain form ts rest h s = (ts, h, s)
behind_not negated form ts rest h (mid, word, s) = (mid, word_keeps (codes "NOT") ts mid h word, s)

between_utf8 : (left low high : Operand) (ts rest : List Token) → Texts ts → IsUtf8Side (operand_side left) → (Word (codes "BETWEEN") >> SpellsOperand low >> Word (codes "AND") >> SpellsOperand high) ts rest → RawComparesUtf8 (test_tree (between plain left low high))
between_utf8 left low high ts rest h l (behind, word, (next, s, (after, word_and, t))) =
    let at_low = word_keeps (codes "BETWEEN") ts behind h word in
    let at_high = word_keeps (codes "AND") next after (operand_keeps low behind next at_low s) word_and in
    ((l, operand_utf8 low behind next at_low s), ((l, operand_utf8 high after rest at_high t), tt))

pub test_utf8 : (t : Test) (ts rest : List Token) → Texts ts → SpellsTest t ts rest → RawComparesUtf8 (test_tree t)
test_utf8 (compared left op right) ts rest h (mid, l, (next, sign, r)) =
    let at_right = one_keeps _ mid next (operand_keeps left ts mid h l) sign in
    (operand_utf8 left ts mid h l, operand_utf8 right next rest at_right r)
test_utf8 (null_test sense left) ts rest h s = with_not_utf8 sense _ tt
test_utf8 (between sense left low high) ts rest h (mid, l, s) =
    let (here, texts, form) = behind_not sense _ mid rest (operand_keeps left ts mid h l) s in
    with_not_utf8 sense _ (between_utf8 left low high here rest texts (operand_utf8 left ts mid h l) form)
test_utf8 (among sense left list) ts rest h s = with_not_utf8 sense _ tt
test_utf8 (like sense column pattern) ts rest h s = with_not_utf8 sense _ tt
test_utf8 (alone truth) ts rest h s = tt
test_utf8 (rows sense first others tuples) ts rest h s = with_not_utf8 sense _ tt

mutual
  neg_keeps : (n : Neg) → Keeps (SpellsNeg n)
  neg_keeps (not n) = then_keeps (Word (codes "NOT")) (SpellsNeg n) (word_keeps (codes "NOT")) (neg_keeps n)
  neg_keeps (parens c) = then_keeps (Sign OPEN) (SpellsCond c >> Sign CLOSE) (sign_keeps OPEN) (then_keeps (SpellsCond c) (Sign CLOSE) (cond_keeps c) (sign_keeps CLOSE))
  neg_keeps (test t) = forward_keeps (SpellsTest t) (test_forward t)

  conj_keeps : (c : Conj) → Keeps (SpellsConj c)
  conj_keeps (last_neg n) = neg_keeps n
  conj_keeps (and n c) = then_keeps (SpellsNeg n) (Word (codes "AND") >> SpellsConj c) (neg_keeps n) (then_keeps (Word (codes "AND")) (SpellsConj c) (word_keeps (codes "AND")) (conj_keeps c))

  cond_keeps : (c : Cond) → Keeps (SpellsCond c)
  cond_keeps (last_conj c) = conj_keeps c
  cond_keeps (or c d) = then_keeps (SpellsConj c) (Word (codes "OR") >> SpellsCond d) (conj_keeps c) (then_keeps (Word (codes "OR")) (SpellsCond d) (word_keeps (codes "OR")) (cond_keeps d))

trees_utf8 : (trees : List RawTree) → AllByRecursion RawComparesUtf8 trees → AllRawCompareUtf8 (raw_trees trees)
trees_utf8 [] h = tt
trees_utf8 (t ∷ trees) h = (h.0, trees_utf8 trees h.1)

conj_of_utf8 : (trees : List RawTree) → AllByRecursion RawComparesUtf8 trees → RawComparesUtf8 (conj_of trees)
conj_of_utf8 [] h = tt
conj_of_utf8 (t ∷ []) h = h.0
conj_of_utf8 (t ∷ u ∷ trees) h = trees_utf8 (t ∷ u ∷ trees) h

disj_of_utf8 : (trees : List RawTree) → AllByRecursion RawComparesUtf8 trees → RawComparesUtf8 (disj_of trees)
disj_of_utf8 [] h = tt
disj_of_utf8 (t ∷ []) h = h.0
disj_of_utf8 (t ∷ u ∷ trees) h = trees_utf8 (t ∷ u ∷ trees) h

mutual
  neg_utf8 : (n : Neg) (ts rest : List Token) → Texts ts → SpellsNeg n ts rest → RawComparesUtf8 (neg_tree n)
  neg_utf8 (not n) ts rest h (mid, word, s) = neg_utf8 n mid rest (word_keeps (codes "NOT") ts mid h word) s
  neg_utf8 (parens c) ts rest h (mid, opened, (end, s, closed)) =
      disj_of_utf8 (cond_trees c) (cond_utf8 c mid end (sign_keeps OPEN ts mid h opened) s)
  neg_utf8 (test t) ts rest h s = test_utf8 t ts rest h s

  conj_utf8 : (c : Conj) (ts rest : List Token) → Texts ts → SpellsConj c ts rest → AllByRecursion RawComparesUtf8 (conj_trees c)
  conj_utf8 (last_neg n) ts rest h s = (neg_utf8 n ts rest h s, tt)
  conj_utf8 (and n c) ts rest h (mid, s, (next, word, more)) =
      (neg_utf8 n ts mid h s, conj_utf8 c next rest (word_keeps (codes "AND") mid next (neg_keeps n ts mid h s) word) more)

  cond_utf8 : (c : Cond) (ts rest : List Token) → Texts ts → SpellsCond c ts rest → AllByRecursion RawComparesUtf8 (cond_trees c)
  cond_utf8 (last_conj c) ts rest h s = (conj_of_utf8 (conj_trees c) (conj_utf8 c ts rest h s), tt)
  cond_utf8 (or c d) ts rest h (mid, s, (next, word, more)) = (
    conj_of_utf8 (conj_trees c) (conj_utf8 c ts mid h s),
    cond_utf8 d next rest (word_keeps (codes "OR") mid next (conj_keeps c ts mid h s) word) more,
  )

-- the tree of a condition that is spelled
pub spelled_utf8 : (c : Cond) (ts rest : List Token) → Texts ts → SpellsCond c ts rest → RawComparesUtf8 (disj_of (cond_trees c))
spelled_utf8 c ts rest h s = disj_of_utf8 (cond_trees c) (cond_utf8 c ts rest h s)

pub condition_utf8 : (ts rest : List Token) (tree : RawTree) → Texts ts → IsCond ts tree rest → RawComparesUtf8 tree
condition_utf8 ts rest tree h (c, depth, s, same) = subst RawComparesUtf8 same (spelled_utf8 c ts rest h s)
