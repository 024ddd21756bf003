-- The grammar of conditions: which tokens spell each form, what it stands for, and how deep it is nested.
use Rattle.std.specs.Prelude.{◌≡◌, ℕ, suc, ◌≤◌, max, pos, neg_ℤ, List, [], ◌∷◌, length, codes, Some}
use Rattle.rx_value.specs.declared.values.Value.{Value}
use Rattle.rx_value.specs.declared.values.Value.TheVariants as value
use Rattle.rx_token.specs.declared.kinds.Token.{Token}
use Rattle.rx_token.specs.declared.signs.TheConstants.{PLUS, MINUS, OPEN, CLOSE}
use Rattle.rx_reading.specs.Forms.{Form, One, ◌>>◌, Word, Sign, Name, Text, Listed, before, values, SpellsEnclosed}
use Rattle.rx_cond.specs.declared.conds.Tri.{Tri}
use Rattle.rx_cond.specs.declared.conds.Tri.TheVariants.{T, F, N}
use Rattle.rx_cond.specs.declared.conds.Op.{Op}
use Rattle.rx_where.specs.declared.raw.RawOperand.{RawOperand}
use Rattle.rx_where.specs.declared.raw.RawOperand.TheVariants as of
use Rattle.rx_where.specs.Operands.{whole_of}
use Rattle.rx_where.specs.Raw.{RawTree, conj_of, disj_of}
use Rattle.rx_where.specs.Raw as raw
use Rattle.rx_where.specs.Tests.{op_of}

-- this number, below 2^127
abbrev pub Number : ℕ → Form
Number n = One (λ t. whole_of t.kind ≡ Some n)

-- the sign of this comparison
abbrev pub Comparison : Op → Form
Comparison op = One (λ t. op_of t.kind ≡ Some op)

-- constant := ["+"|"-"] number | string | NULL
pub data Constant : Type 0 where
  number : ℕ → Constant
  plus : ℕ → Constant
  minus : ℕ → Constant
  string : List ℕ → Constant
  null : Constant

-- the tokens of a constant
abbrev pub SpellsConstant : Constant → Form
SpellsConstant (number n) = Number n
SpellsConstant (plus n) = Sign PLUS >> Number n
SpellsConstant (minus n) = Sign MINUS >> Number n
SpellsConstant (string text) = Text text
SpellsConstant null = Word (codes "NULL")

-- the value of a constant
abbrev pub constant_value : Constant → Value
constant_value (number n) = value.Int (pos n)
constant_value (plus n) = value.Int (pos n)
constant_value (minus n) = value.Int (neg_ℤ (pos n))
constant_value (string text) = value.Text text
constant_value null = value.Null

-- operand := name | constant
pub data Operand : Type 0 where
  name : List ℕ → Operand
  constant : Constant → Operand

-- the tokens of an operand
abbrev pub SpellsOperand : Operand → Form
SpellsOperand (name text) = Name text
SpellsOperand (constant c) = SpellsConstant c

-- the side of a test that an operand is
abbrev pub operand_side : Operand → RawOperand
operand_side (name text) = of.Column text
operand_side (constant c) = of.Constant (constant_value c)

-- "(" constant {"," constant} ")"
abbrev pub SpellsConstants : Listed Constant → Form
SpellsConstants list = SpellsEnclosed SpellsConstant list

-- tuple := "(" constant {"," constant} ")", of so many constants
abbrev pub SpellsTuple : ℕ → Listed Constant → Form
SpellsTuple count list = λ ts rest. (length (values constant_value list) ≡ count) × SpellsConstants list ts rest

-- [NOT]
pub data Sense : Type 0 where
  plain : Sense
  negated : Sense

-- the tokens of a form, behind NOT where that stands
abbrev pub WithNot : Sense → Form → Form
WithNot plain form = form
WithNot negated form = Word (codes "NOT") >> form

-- the negation of a condition, where NOT stands
abbrev pub with_not : Sense → RawTree → RawTree
with_not plain tree = tree
with_not negated tree = raw.neg tree

-- test := operand ("="|"<=>"|"<"|"<="|">"|">="|"<>"|"!=") operand | operand IS [NOT] NULL
--      | operand [NOT] BETWEEN operand AND operand | operand [NOT] IN "(" constant {"," constant} ")"
--      | name [NOT] LIKE string | TRUE | FALSE | NULL
--      | "(" name "," name {"," name} ")" [NOT] IN "(" tuple {"," tuple} ")"
pub data Test : Type 0 where
  compared : Operand → Op → Operand → Test
  null_test : Sense → Operand → Test
  between : Sense → Operand → Operand → Operand → Test
  among : Sense → Operand → Listed Constant → Test
  like : Sense → List ℕ → List ℕ → Test
  alone : Tri → Test
  rows : Sense → List ℕ → Listed (List ℕ) → Listed (Listed Constant) → Test

-- the word that is a test alone
abbrev pub truth_word : Tri → List ℕ
truth_word T = codes "TRUE"
truth_word F = codes "FALSE"
truth_word N = codes "NULL"

-- the names of the columns at the left of a row test
abbrev pub row_names : List ℕ → Listed (List ℕ) → List (List ℕ)
row_names first others = values (λ text. text) (before first others)

-- the tokens of a test
abbrev pub SpellsTest : Test → Form
SpellsTest (compared left op right) = SpellsOperand left >> Comparison op >> SpellsOperand right
SpellsTest (null_test sense left) = SpellsOperand left >> Word (codes "IS") >> WithNot sense (Word (codes "NULL"))
SpellsTest (between sense left low high) =
    SpellsOperand left
    >> WithNot sense (Word (codes "BETWEEN") >> SpellsOperand low >> Word (codes "AND") >> SpellsOperand high)
SpellsTest (among sense left list) = SpellsOperand left >> WithNot sense (Word (codes "IN") >> SpellsConstants list)
SpellsTest (like sense column pattern) = Name column >> WithNot sense (Word (codes "LIKE") >> Text pattern)
SpellsTest (alone truth) = Word (truth_word truth)
SpellsTest (rows sense first others tuples) =
    SpellsEnclosed Name (before first others)
    >> WithNot sense (Word (codes "IN") >> SpellsEnclosed (SpellsTuple (length (row_names first others))) tuples)

-- the condition of a test
abbrev pub test_tree : Test → RawTree
test_tree (compared left op right) = raw.compare op (operand_side left) (operand_side right)
test_tree (null_test sense left) = with_not sense (raw.is_null (operand_side left))
test_tree (between sense left low high) = with_not sense (raw.between (operand_side left) (operand_side low) (operand_side high))
test_tree (among sense left list) = with_not sense (raw.member (operand_side left) (values constant_value list))
test_tree (like sense column pattern) = with_not sense (raw.like column pattern)
test_tree (alone truth) = raw.truth truth
test_tree (rows sense first others tuples) = with_not sense (raw.row_member (row_names first others) (values (values constant_value) tuples))

-- cond := conj {OR conj}      conj := neg {AND neg}      neg := NOT neg | "(" cond ")" | test
mutual
  pub data Neg : Type 0 where
    not : Neg → Neg
    parens : Cond → Neg
    test : Test → Neg

  pub data Conj : Type 0 where
    last_neg : Neg → Conj
    and : Neg → Conj → Conj

  pub data Cond : Type 0 where
    last_conj : Conj → Cond
    or : Conj → Cond → Cond

abbrev mutual
  -- the tokens of a negation, of a condition in parentheses, or of a test
  pub SpellsNeg : Neg → Form
  SpellsNeg (not n) = Word (codes "NOT") >> SpellsNeg n
  SpellsNeg (parens c) = Sign OPEN >> SpellsCond c >> Sign CLOSE
  SpellsNeg (test t) = SpellsTest t

  -- the tokens of a conjunction: AND stands between any two
  pub SpellsConj : Conj → Form
  SpellsConj (last_neg n) = SpellsNeg n
  SpellsConj (and n c) = SpellsNeg n >> Word (codes "AND") >> SpellsConj c

  -- the tokens of a condition: OR stands between any two
  pub SpellsCond : Cond → Form
  SpellsCond (last_conj c) = SpellsConj c
  SpellsCond (or c d) = SpellsConj c >> Word (codes "OR") >> SpellsCond d

abbrev mutual
  -- parentheses leave no trace but in what they hold together
  pub neg_tree : Neg → RawTree
  neg_tree (not n) = raw.neg (neg_tree n)
  neg_tree (parens c) = disj_of (cond_trees c)
  neg_tree (test t) = test_tree t

  -- the conditions that AND joins
  pub conj_trees : Conj → List RawTree
  conj_trees (last_neg n) = neg_tree n ∷ []
  conj_trees (and n c) = neg_tree n ∷ conj_trees c

  -- the conditions that OR joins
  pub cond_trees : Cond → List RawTree
  cond_trees (last_conj c) = conj_of (conj_trees c) ∷ []
  cond_trees (or c d) = conj_of (conj_trees c) ∷ cond_trees d

-- how many parentheses and prefix NOTs stand above a test at most; those of lists and of NOT IN and its like don't count
abbrev mutual
  pub neg_depth : Neg → ℕ
  neg_depth (not n) = suc (neg_depth n)
  neg_depth (parens c) = suc (cond_depth c)
  neg_depth (test t) = 0

  pub conj_depth : Conj → ℕ
  conj_depth (last_neg n) = neg_depth n
  conj_depth (and n c) = max (neg_depth n) (conj_depth c)

  pub cond_depth : Cond → ℕ
  cond_depth (last_conj c) = conj_depth c
  cond_depth (or c d) = max (conj_depth c) (cond_depth d)

-- The tokens begin with a condition of this tree, nested 64 deep at most, and the rest is behind it.
abbrev pub IsCond : List Token → RawTree → List Token → Type 0
IsCond ts tree rest = (c : Cond) × (cond_depth c ≤ 64) × SpellsCond c ts rest × (disj_of (cond_trees c) ≡ tree)

-- no condition goes farther
abbrev pub IsLongest : List Token → List Token → Type 0
IsLongest ts rest = (tree : RawTree) (end : List Token) → IsCond ts tree end → length rest ≤ length end

-- conditions that end at one place are one
abbrev pub IsUnambiguous : List Token → Type 0
IsUnambiguous ts = (tree other : RawTree) (rest : List Token) → IsCond ts tree rest → IsCond ts other rest → tree ≡ other

-- no condition begins with these tokens
abbrev pub IsNone : List Token → Type 0
IsNone ts = (tree : RawTree) (end : List Token) → IsCond ts tree end → ⊥
