-- Tests at the front of tokens, and what no condition begins with.
use Rattle.std.proofs.Common.{◌≡◌, ℕ, zero, suc, Bool, true, false, List, [], ◌∷◌, length, Option, Some, None, refl, ◌∙◌, inl, inr, ⊎_elim, codes}
use Rattle.std.specs.Option.{option_and_then, option_or}
use Rattle.rx_token.specs.declared.kinds.Token.{Token}
use Rattle.rx_token.specs.declared.signs.TheConstants.{PLUS, MINUS, OPEN, CLOSE, COMMA}
use Rattle.rx_token.specs.Reserved.{is_reserved}
use Rattle.rx_reading.specs.Reading.{Reader, after_word, after_sign, name_at, items_at, more_at}
use Rattle.rx_reading.specs.Forms.{Form, ◌>>◌, Word, Name, Text, Listed, before, SpellsEnclosed}
use Rattle.rx_reading.proofs.Farther.{Reaches}
use Rattle.rx_reading.proofs.Steps.{then_gives, then_none, one_of, first_gives, second_gives}
use Rattle.rx_reading.proofs.Enclosed.{enclosed_forward, no_enclosed}
use Rattle.rx_reading.proofs.Spelled.{Forward, one_forward, then_forward, word_read, sign_read}
use Rattle.rx_cond.specs.declared.conds.Tri.{Tri}
use Rattle.rx_cond.specs.declared.conds.Tri.TheVariants.{T, F, N}
use Rattle.rx_where.specs.declared.raw.RawOperand.{RawOperand}
use Rattle.rx_where.specs.declared.raw.RawOperand.TheVariants as of
use Rattle.rx_value.specs.declared.values.Value.TheVariants as value
use Rattle.rx_where.specs.Tests.{op_of, op_of_sign, predicate_at, operand_test_at, truth_at}
use Rattle.rx_where.specs.Rows.{names_at, row_test_at}
use Rattle.rx_where.specs.Conditions.{test_at, neg_at, conj_at, cond_at, parens_at, nest}
use Rattle.rx_where.specs.Raw.{RawTree, conj_of, disj_of}
use Rattle.rx_where.specs.Raw as raw
use Rattle.rx_where.specs.Grammar.{Comparison, Operand, name, constant, number, plus, minus, string, null, SpellsOperand, operand_side, Constant, SpellsConstants, SpellsTuple, Sense, plain, negated, WithNot, Test, compared, null_test, between, among, like, alone, rows, row_names, truth_word, SpellsTest, test_tree}
use Rattle.rx_where.proofs.Leads.{What, starts, starts_any, apart_all, free, first_free, others_free, no_word, no_sign, no_name}
use Rattle.rx_where.proofs.Leads as lead
use Rattle.rx_where.proofs.OperandLaws.{found, begins_word, begins_sign, begins_name, begins_text, begins_number, operand_read, operand_forward, constants_forward, word_forward, name_forward, text_forward, no_operand, operands}
use Rattle.rx_where.proofs.TestLaws.{TestRead, operand_test_spelled, truth_spelled, predicate_spelled, predicate_step, alone_by}
use Rattle.rx_where.proofs.TestReads.{predicates, no_predicate, behind_operand, compared_read, null_predicate, sensed_predicate, between_read, among_read, like_read}
use Rattle.rx_where.proofs.RowLaws.{row_test_spelled, row_test_read, if_several, rows_step}

pub test_spelled : (ts : List Token) (x : RawTree × List Token) → test_at ts ≡ Some x → TestRead ts x
unfolding test_at
test_spelled ts x e =
    ⊎_elim (operand_test_spelled ts x)
    (λ f. ⊎_elim (truth_spelled ts x) (row_test_spelled ts x) (one_of (truth_at ts) (row_test_at ts) x f))
    (one_of (operand_test_at ts) (option_or (truth_at ts) (row_test_at ts)) x e)

-- each test has tokens of its own
with_not_forward : (sense : Sense) (f : Form) → Forward f → Forward (WithNot sense f)
with_not_forward plain f a = a
with_not_forward negated f a = then_forward (Word (codes "NOT")) f (word_forward (codes "NOT")) a

tuple_forward : (count : ℕ) (list : Listed Constant) → Forward (SpellsTuple count list)
tuple_forward count list ts rest s =
    let b = constants_forward list ts rest s.1 in
    record { first = b.first; front = b.front; is = b.is; again = λ other. (s.0, b.again other) }

pub test_forward : (t : Test) → Forward (SpellsTest t)
test_forward (compared l op r) =
    then_forward (SpellsOperand l) (Comparison op >> SpellsOperand r) (operand_forward l) (then_forward (Comparison op) (SpellsOperand r) (one_forward (λ t. op_of t.kind ≡ Some op)) (operand_forward r))
test_forward (null_test sense l) =
    then_forward (SpellsOperand l) (Word (codes "IS") >> WithNot sense (Word (codes "NULL"))) (operand_forward l)
    (then_forward (Word (codes "IS")) (WithNot sense (Word (codes "NULL"))) (word_forward (codes "IS")) (with_not_forward sense (Word (codes "NULL")) (word_forward (codes "NULL"))))
test_forward (between sense l low high) =
    then_forward (SpellsOperand l) (WithNot sense (Word (codes "BETWEEN") >> SpellsOperand low >> Word (codes "AND") >> SpellsOperand high)) (operand_forward l)
    (with_not_forward sense (Word (codes "BETWEEN") >> SpellsOperand low >> Word (codes "AND") >> SpellsOperand high)
    (then_forward (Word (codes "BETWEEN")) (SpellsOperand low >> Word (codes "AND") >> SpellsOperand high) (word_forward (codes "BETWEEN"))
    (then_forward (SpellsOperand low) (Word (codes "AND") >> SpellsOperand high) (operand_forward low)
    (then_forward (Word (codes "AND")) (SpellsOperand high) (word_forward (codes "AND")) (operand_forward high)))))
test_forward (among sense l list) =
    then_forward (SpellsOperand l) (WithNot sense (Word (codes "IN") >> SpellsConstants list)) (operand_forward l)
    (with_not_forward sense (Word (codes "IN") >> SpellsConstants list) (then_forward (Word (codes "IN")) (SpellsConstants list) (word_forward (codes "IN")) (constants_forward list)))
test_forward (like sense column pattern) =
    then_forward (Name column) (WithNot sense (Word (codes "LIKE") >> Text pattern)) (name_forward column)
    (with_not_forward sense (Word (codes "LIKE") >> Text pattern) (then_forward (Word (codes "LIKE")) (Text pattern) (word_forward (codes "LIKE")) (text_forward pattern)))
test_forward (alone truth) = word_forward (truth_word truth)
test_forward (rows sense first others tuples) =
    let tuples_form : Form = SpellsEnclosed (SpellsTuple (length (row_names first others))) tuples in
    then_forward (SpellsEnclosed Name (before first others)) (WithNot sense (Word (codes "IN") >> tuples_form)) (enclosed_forward Name name_forward (before first others))
    (with_not_forward sense (Word (codes "IN") >> tuples_form)
    (then_forward (Word (codes "IN")) tuples_form (word_forward (codes "IN")) (enclosed_forward (SpellsTuple (length (row_names first others))) (tuple_forward (length (row_names first others))) tuples)))

-- what goes on with a test
abbrev pub test_goes_on : List Token → Bool
test_goes_on ts = starts_any predicates ts

no_operand_test : (ts : List Token) → starts_any operands ts ≡ false → operand_test_at ts ≡ None
unfolding operand_test_at
no_operand_test ts e = then_none predicate_step (no_operand ts e)

-- the words that are tests alone
abbrev truths : List What
truths = lead.word (codes "TRUE") ∷ lead.word (codes "FALSE") ∷ lead.word (codes "NULL") ∷ []

abbrev truth_rest : Tri → List Token → Option (RawTree × List Token)
truth_rest truth rest = Some (found (raw.truth truth) rest)

no_truth : (ts : List Token) → starts_any truths ts ≡ false → truth_at ts ≡ None
unfolding truth_at
no_truth ts e =
    let more = others_free (lead.word (codes "TRUE")) (lead.word (codes "FALSE") ∷ lead.word (codes "NULL") ∷ []) ts e in
    second_gives (then_none (truth_rest T) (no_word (codes "TRUE") ts (first_free (lead.word (codes "TRUE")) (lead.word (codes "FALSE") ∷ lead.word (codes "NULL") ∷ []) ts e)))
    (second_gives (then_none (truth_rest F) (no_word (codes "FALSE") ts (first_free (lead.word (codes "FALSE")) (lead.word (codes "NULL") ∷ []) ts more)))
    (then_none (truth_rest N) (no_word (codes "NULL") ts (first_free (lead.word (codes "NULL")) [] ts (others_free (lead.word (codes "FALSE")) (lead.word (codes "NULL") ∷ []) ts more)))))

truth_read : (truth : Tri) (ts rest : List Token) → Word (truth_word truth) ts rest → truth_at ts ≡ Some (found (raw.truth truth) rest)
unfolding truth_at
truth_read T ts rest s = first_gives (option_or (alone_by F ts) (alone_by N ts)) (then_gives (truth_rest T) (word_read (codes "TRUE") ts rest s) refl)
truth_read F ts rest s =
    second_gives (then_none (truth_rest T) (no_word (codes "TRUE") ts (first_free (lead.word (codes "TRUE")) [] ts (free (lead.word (codes "FALSE")) (lead.word (codes "TRUE") ∷ []) ts refl (begins_word (codes "FALSE") ts rest s)))))
    (first_gives (alone_by N ts) (then_gives (truth_rest F) (word_read (codes "FALSE") ts rest s) refl))
truth_read N ts rest s =
    let e = free (lead.word (codes "NULL")) (lead.word (codes "TRUE") ∷ lead.word (codes "FALSE") ∷ []) ts refl (begins_word (codes "NULL") ts rest s) in
    second_gives (then_none (truth_rest T) (no_word (codes "TRUE") ts (first_free (lead.word (codes "TRUE")) (lead.word (codes "FALSE") ∷ []) ts e)))
    (second_gives (then_none (truth_rest F) (no_word (codes "FALSE") ts (first_free (lead.word (codes "FALSE")) [] ts (others_free (lead.word (codes "TRUE")) (lead.word (codes "FALSE") ∷ []) ts e))))
    (then_gives (truth_rest N) (word_read (codes "NULL") ts rest s) refl))

-- a word that is read alone
truth_alone : (truth : Tri) (ts rest : List Token) → Word (truth_word truth) ts rest → operand_test_at ts ≡ None → test_at ts ≡ Some (found (raw.truth truth) rest)
unfolding test_at
truth_alone truth ts rest s none = second_gives none (first_gives (row_test_at ts) (truth_read truth ts rest s))

-- what follows an operand goes on with a test
goes_by : (left : RawOperand) (rest : List Token) (b : Bool) → starts_any predicates rest ≡ b → (x : RawTree × List Token) → predicate_at left rest ≡ Some x → b ≡ true
goes_by left rest true is x e = refl
goes_by left rest false is x e = let none = no_predicate left rest is in absurd cc

null_by : (ts rest : List Token) → Word (codes "NULL") ts rest → (o : Option (RawTree × List Token)) → predicate_at (of.Constant value.Null) rest ≡ o → Reaches test_goes_on (test_at ts) (raw.truth N) rest
unfolding test_at operand_test_at
null_by ts rest s None is = inl (truth_alone N ts rest s (then_gives predicate_step (operand_read (constant null) ts rest s) is))
null_by ts rest s (Some x) is =
    let t = predicate_spelled (constant null) ts rest s x is in
    inr (record {
      x = x;
      is = first_gives (option_or (truth_at ts) (row_test_at ts)) (then_gives predicate_step (operand_read (constant null) ts rest s) is);
      shorter = t.shorter;
      follows = goes_by (of.Constant value.Null) rest (starts_any predicates rest) refl x is;
    })

rows_read : (sense : Sense) (first : List ℕ) (others : Listed (List ℕ)) (tuples : Listed (Listed Constant)) (ts rest : List Token) → SpellsTest (rows sense first others tuples) ts rest → test_at ts ≡ Some (found (test_tree (rows sense first others tuples)) rest)
unfolding test_at
rows_read sense first others tuples ts rest (here, (mid, opened, s), t) =
    let b = begins_sign OPEN ts mid opened in
    second_gives (no_operand_test ts (free (lead.sign OPEN) operands ts refl b))
    (second_gives (no_truth ts (free (lead.sign OPEN) truths ts refl b)) (row_test_read sense first others tuples ts rest (here, (mid, opened, s), t)))

pub test_reaches : (t : Test) (ts rest : List Token) → SpellsTest t ts rest → Reaches test_goes_on (test_at ts) (test_tree t) rest
unfolding is_reserved
test_reaches (compared l op r) ts rest (here, s, t) = inl (behind_operand l ts here rest (test_tree (compared l op r)) s (compared_read (operand_side l) op r here rest t))
test_reaches (null_test sense l) ts rest (here, s, t) = inl (behind_operand l ts here rest (test_tree (null_test sense l)) s (null_predicate sense (operand_side l) here rest t))
test_reaches (between sense l low high) ts rest (here, s, t) =
    inl (behind_operand l ts here rest (test_tree (between sense l low high)) s
    (sensed_predicate sense (codes "BETWEEN") (SpellsOperand low >> Word (codes "AND") >> SpellsOperand high) (operand_side l) here rest (raw.between (operand_side l) (operand_side low) (operand_side high)) refl t
    (λ mid u. between_read (operand_side l) low high mid rest u)))
test_reaches (among sense l list) ts rest (here, s, t) =
    inl (behind_operand l ts here rest (test_tree (among sense l list)) s
    (sensed_predicate sense (codes "IN") (SpellsConstants list) (operand_side l) here rest (test_tree (among plain l list)) refl t (λ mid u. among_read (operand_side l) list mid rest u)))
test_reaches (like sense column pattern) ts rest (here, s, t) =
    inl (behind_operand (name column) ts here rest (test_tree (like sense column pattern)) s
    (sensed_predicate sense (codes "LIKE") (Text pattern) (of.Column column) here rest (raw.like column pattern) refl t (λ mid u. like_read column pattern mid rest u)))
test_reaches (alone T) ts rest s = inl (truth_alone T ts rest s (no_operand_test ts (free (lead.word (codes "TRUE")) operands ts refl (begins_word (codes "TRUE") ts rest s))))
test_reaches (alone F) ts rest s = inl (truth_alone F ts rest s (no_operand_test ts (free (lead.word (codes "FALSE")) operands ts refl (begins_word (codes "FALSE") ts rest s))))
test_reaches (alone N) ts rest s = null_by ts rest s (predicate_at (of.Constant value.Null) rest) refl
test_reaches (rows sense first others tuples) ts rest s = inl (rows_read sense first others tuples ts rest s)

-- what begins a negation and a condition in parentheses
abbrev enterings : List What
enterings = lead.word (codes "NOT") ∷ lead.sign OPEN ∷ []

operand_enters : (o : Operand) (ts rest : List Token) → SpellsOperand o ts rest → starts_any enterings ts ≡ false
unfolding is_reserved
operand_enters (name text) ts rest s = free lead.name enterings ts refl (begins_name text ts rest s)
operand_enters (constant (number n)) ts rest s = free lead.number enterings ts refl (begins_number n ts rest s)
operand_enters (constant (plus n)) ts rest (mid, s, t) = free (lead.sign PLUS) enterings ts refl (begins_sign PLUS ts mid s)
operand_enters (constant (minus n)) ts rest (mid, s, t) = free (lead.sign MINUS) enterings ts refl (begins_sign MINUS ts mid s)
operand_enters (constant (string text)) ts rest s = free lead.text enterings ts refl (begins_text text ts rest s)
operand_enters (constant null) ts rest s = free (lead.word (codes "NULL")) enterings ts refl (begins_word (codes "NULL") ts rest s)

abbrev pub neg_behind : Reader RawTree → List Token → Option (RawTree × List Token)
neg_behind item behind = option_and_then (λ x. Some (found (raw.neg x.0) x.1)) (item behind)

abbrev pub close_cond : RawTree × List Token → Option (RawTree × List Token)
close_cond x = option_and_then (λ (rest : List Token). Some (found x.0 rest)) (after_sign CLOSE x.1)

abbrev pub cond_behind : Reader RawTree → List Token → Option (RawTree × List Token)
cond_behind item behind = option_and_then close_cond (cond_at item behind)

-- neither a negation nor a condition in parentheses
nothing_enters : (item : Reader RawTree) (ts : List Token) → starts_any enterings ts ≡ false → nest item ts ≡ test_at ts
nothing_enters item ts e =
    second_gives (then_none (neg_behind item) (no_word (codes "NOT") ts (first_free (lead.word (codes "NOT")) (lead.sign OPEN ∷ []) ts e)))
    (second_gives (then_none (cond_behind item) (no_sign OPEN ts (first_free (lead.sign OPEN) [] ts (others_free (lead.word (codes "NOT")) (lead.sign OPEN ∷ []) ts e)))) refl)

-- no condition begins with a name and a comma
no_row_test : (ts : List Token) → starts (lead.sign OPEN) ts ≡ false → row_test_at ts ≡ None
unfolding row_test_at names_at
no_row_test ts e = then_none rows_step (then_none if_several (no_enclosed name_at ts (no_sign OPEN ts e)))

no_test_at_name : (n : List ℕ) (ts mid : List Token) → Name n ts mid → starts (lead.sign COMMA) mid ≡ true → test_at ts ≡ None
unfolding test_at operand_test_at is_reserved op_of_sign
no_test_at_name n ts mid s comma =
    second_gives (then_gives predicate_step (operand_read (name n) ts mid s) (no_predicate (of.Column n) mid (free (lead.sign COMMA) predicates mid refl comma)))
    (second_gives (no_truth ts (free lead.name truths ts refl (begins_name n ts mid s)))
    (no_row_test ts (first_free (lead.sign OPEN) [] ts (free lead.name (lead.sign OPEN ∷ []) ts refl (begins_name n ts mid s)))))

no_neg_at_name : (levels : ℕ) (n : List ℕ) (ts mid : List Token) → Name n ts mid → starts (lead.sign COMMA) mid ≡ true → neg_at levels ts ≡ None
unfolding neg_at
no_neg_at_name zero n ts mid s comma = refl
no_neg_at_name (suc levels) n ts mid s comma = nothing_enters (neg_at levels) ts (operand_enters (name n) ts mid s) ∙ no_test_at_name n ts mid s comma

abbrev rest_items : (List Token → Option (List Token)) → Reader RawTree → RawTree × List Token → Option (List RawTree × List Token)
rest_items after item x = Some (x.0 ∷ (more_at after item (length x.1) x.1).0, (more_at after item (length x.1) x.1).1)

no_cond_at_name : (levels : ℕ) (n : List ℕ) (ts mid : List Token) → Name n ts mid → starts (lead.sign COMMA) mid ≡ true → cond_at (neg_at levels) ts ≡ None
unfolding items_at
no_cond_at_name levels n ts mid s comma =
    then_none (λ (x : List RawTree × List Token). Some (found (disj_of x.0) x.1))
    (then_none (rest_items (after_word (codes "OR")) (conj_at (neg_at levels)))
    (then_none (λ (x : List RawTree × List Token). Some (found (conj_of x.0) x.1))
    (then_none (rest_items (after_word (codes "AND")) (neg_at levels)) (no_neg_at_name levels n ts mid s comma))))

no_parens_at_names : (levels : ℕ) (sense : Sense) (first : List ℕ) (others : Listed (List ℕ)) (tuples : Listed (Listed Constant)) (ts rest : List Token) → SpellsTest (rows sense first others tuples) ts rest → parens_at (neg_at levels) ts ≡ None
no_parens_at_names levels sense first others tuples ts rest (behind, (mid, opened, (end, (here, s, (next, comma, t)), closed)), u) =
    then_gives (cond_behind (neg_at levels)) (sign_read OPEN ts mid opened) (then_none close_cond (no_cond_at_name levels first mid here s (begins_sign COMMA here next comma)))

-- where a test is spelled, it is a test that is read
pub test_entered : (t : Test) (levels : ℕ) (ts rest : List Token) → SpellsTest t ts rest → nest (neg_at levels) ts ≡ test_at ts
unfolding is_reserved
test_entered (compared l op r) levels ts rest (here, s, t) = nothing_enters (neg_at levels) ts (operand_enters l ts here s)
test_entered (null_test sense l) levels ts rest (here, s, t) = nothing_enters (neg_at levels) ts (operand_enters l ts here s)
test_entered (between sense l low high) levels ts rest (here, s, t) = nothing_enters (neg_at levels) ts (operand_enters l ts here s)
test_entered (among sense l list) levels ts rest (here, s, t) = nothing_enters (neg_at levels) ts (operand_enters l ts here s)
test_entered (like sense column pattern) levels ts rest (here, s, t) = nothing_enters (neg_at levels) ts (operand_enters (name column) ts here s)
test_entered (alone T) levels ts rest s = nothing_enters (neg_at levels) ts (free (lead.word (codes "TRUE")) enterings ts refl (begins_word (codes "TRUE") ts rest s))
test_entered (alone F) levels ts rest s = nothing_enters (neg_at levels) ts (free (lead.word (codes "FALSE")) enterings ts refl (begins_word (codes "FALSE") ts rest s))
test_entered (alone N) levels ts rest s = nothing_enters (neg_at levels) ts (free (lead.word (codes "NULL")) enterings ts refl (begins_word (codes "NULL") ts rest s))
test_entered (rows sense first others tuples) levels ts rest (here, (mid, opened, s), t) =
    second_gives (then_none (neg_behind (neg_at levels)) (no_word (codes "NOT") ts (first_free (lead.word (codes "NOT")) [] ts (free (lead.sign OPEN) (lead.word (codes "NOT") ∷ []) ts refl (begins_sign OPEN ts mid opened)))))
    (second_gives (no_parens_at_names levels sense first others tuples ts rest (here, (mid, opened, s), t)) refl)
