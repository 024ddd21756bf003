-- Tests are read as far as they are spelled, or farther where more of a test follows.
use Rattle.std.proofs.Common.{◌≡◌, ℕ, true, false, List, [], ◌∷◌, Some, None, refl, codes}
use Rattle.std.specs.Option.{option_or}
use Rattle.rx_token.specs.declared.kinds.Token.{Token}
use Rattle.rx_reading.specs.Forms.{Form, ◌>>◌, Word, Text, Listed, values}
use Rattle.rx_reading.proofs.Steps.{then_gives, then_none, first_gives, second_gives}
use Rattle.rx_reading.proofs.Spelled.{word_read, text_read}
use Rattle.rx_cond.specs.declared.conds.Op.{Op}
use Rattle.rx_where.specs.declared.raw.RawOperand.{RawOperand}
use Rattle.rx_where.specs.declared.raw.RawOperand.TheVariants as of
use Rattle.rx_where.specs.Tests.{compared_at, is_null_at, between_at, among_at, like_at, ranged_at, not_ranged_at, null_test_at, predicate_at, operand_test_at, truth_at}
use Rattle.rx_where.specs.Rows.{row_test_at}
use Rattle.rx_where.specs.Conditions.{test_at}
use Rattle.rx_where.specs.Raw.{RawTree, conj_of, disj_of}
use Rattle.rx_where.specs.Raw as raw
use Rattle.rx_where.specs.Grammar.{Comparison, Operand, SpellsOperand, operand_side, Constant, constant_value, SpellsConstants, Sense, plain, negated, WithNot, with_not}
use Rattle.rx_where.proofs.Leads.{What, starts, starts_any, apart_all, free, first_free, others_free, no_word, no_sign, no_comparison}
use Rattle.rx_where.proofs.Leads as lead
use Rattle.rx_where.proofs.OperandLaws.{found, begins_word, operand_read, constants_read}
use Rattle.rx_where.proofs.TestLaws.{op_read, high_step, and_step, low_step, between_step, list_step, among_step, pattern_step, like_step, neg_step, not_step, right_step, op_step, null_step, is_step, not_null_step, then_null_step, is_not_step, predicate_step}

-- what a predicate begins with
abbrev pub ranges : List What
ranges = lead.word (codes "BETWEEN") ∷ lead.word (codes "IN") ∷ lead.word (codes "LIKE") ∷ []

abbrev pub nots : List What
nots = lead.word (codes "NOT") ∷ ranges

abbrev pub tests : List What
tests = lead.word (codes "IS") ∷ nots

abbrev pub predicates : List What
predicates = lead.comparison ∷ tests

no_compared : (left : RawOperand) (ts : List Token) → starts lead.comparison ts ≡ false → compared_at left ts ≡ None
unfolding compared_at
no_compared left ts e = then_none (op_step left) (no_comparison ts e)

no_null_test : (left : RawOperand) (ts : List Token) → starts (lead.word (codes "IS")) ts ≡ false → null_test_at left ts ≡ None
unfolding null_test_at
no_null_test left ts e = second_gives (then_none (is_not_step left) (no_word (codes "IS") ts e)) (then_none (is_step left) (no_word (codes "IS") ts e))

no_not_ranged : (left : RawOperand) (ts : List Token) → starts (lead.word (codes "NOT")) ts ≡ false → not_ranged_at left ts ≡ None
unfolding not_ranged_at
no_not_ranged left ts e = then_none (not_step left) (no_word (codes "NOT") ts e)

no_between : (left : RawOperand) (ts : List Token) → starts (lead.word (codes "BETWEEN")) ts ≡ false → between_at left ts ≡ None
unfolding between_at
no_between left ts e = then_none (between_step left) (no_word (codes "BETWEEN") ts e)

no_among : (left : RawOperand) (ts : List Token) → starts (lead.word (codes "IN")) ts ≡ false → among_at left ts ≡ None
unfolding among_at
no_among left ts e = then_none (among_step left) (no_word (codes "IN") ts e)

no_like : (left : RawOperand) (ts : List Token) → starts (lead.word (codes "LIKE")) ts ≡ false → like_at left ts ≡ None
no_like (of.Column column) ts e = then_none (like_step column) (no_word (codes "LIKE") ts e)
no_like (of.Constant v) ts e = refl

no_ranged : (left : RawOperand) (ts : List Token) → starts_any ranges ts ≡ false → ranged_at left ts ≡ None
unfolding ranged_at
no_ranged left ts e =
    let more = others_free (lead.word (codes "BETWEEN")) (lead.word (codes "IN") ∷ lead.word (codes "LIKE") ∷ []) ts e in
    second_gives (no_between left ts (first_free (lead.word (codes "BETWEEN")) (lead.word (codes "IN") ∷ lead.word (codes "LIKE") ∷ []) ts e))
    (second_gives (no_among left ts (first_free (lead.word (codes "IN")) (lead.word (codes "LIKE") ∷ []) ts more))
    (no_like left ts (first_free (lead.word (codes "LIKE")) [] ts (others_free (lead.word (codes "IN")) (lead.word (codes "LIKE") ∷ []) ts more))))

pub no_predicate : (left : RawOperand) (ts : List Token) → starts_any predicates ts ≡ false → predicate_at left ts ≡ None
unfolding predicate_at
no_predicate left ts e =
    let e1 = others_free lead.comparison tests ts e in
    let e2 = others_free (lead.word (codes "IS")) nots ts e1 in
    second_gives (no_compared left ts (first_free lead.comparison tests ts e))
    (second_gives (no_null_test left ts (first_free (lead.word (codes "IS")) nots ts e1))
    (second_gives (no_not_ranged left ts (first_free (lead.word (codes "NOT")) ranges ts e2)) (no_ranged left ts (others_free (lead.word (codes "NOT")) ranges ts e2))))

-- a predicate without NOT, by the word that it begins with
abbrev unranged : List What
unranged = lead.comparison ∷ lead.word (codes "IS") ∷ lead.word (codes "NOT") ∷ []

plain_predicate : (a : What) (left : RawOperand) (here rest : List Token) (tree : RawTree) → apart_all a unranged ≡ true → starts a here ≡ true → ranged_at left here ≡ Some (found tree rest) → predicate_at left here ≡ Some (found tree rest)
unfolding predicate_at
plain_predicate a left here rest tree d b r =
    let e = free a unranged here d b in
    let e1 = others_free lead.comparison (lead.word (codes "IS") ∷ lead.word (codes "NOT") ∷ []) here e in
    let e2 = others_free (lead.word (codes "IS")) (lead.word (codes "NOT") ∷ []) here e1 in
    second_gives (no_compared left here (first_free lead.comparison (lead.word (codes "IS") ∷ lead.word (codes "NOT") ∷ []) here e))
    (second_gives (no_null_test left here (first_free (lead.word (codes "IS")) (lead.word (codes "NOT") ∷ []) here e1))
    (second_gives (no_not_ranged left here (first_free (lead.word (codes "NOT")) [] here e2)) r))

not_predicate : (left : RawOperand) (here mid rest : List Token) (tree : RawTree) → Word (codes "NOT") here mid → ranged_at left mid ≡ Some (found tree rest) → predicate_at left here ≡ Some (found (raw.neg tree) rest)
unfolding predicate_at not_ranged_at
not_predicate left here mid rest tree word r =
    let e = free (lead.word (codes "NOT")) (lead.comparison ∷ lead.word (codes "IS") ∷ []) here refl (begins_word (codes "NOT") here mid word) in
    second_gives (no_compared left here (first_free lead.comparison (lead.word (codes "IS") ∷ []) here e))
    (second_gives (no_null_test left here (first_free (lead.word (codes "IS")) [] here (others_free lead.comparison (lead.word (codes "IS") ∷ []) here e)))
    (first_gives (ranged_at left here) (then_gives (not_step left) (word_read (codes "NOT") here mid word) (then_gives neg_step r refl))))

-- a predicate with or without NOT, whose word is this one
pub sensed_predicate : (sense : Sense) (word : List ℕ) (form : Form) (left : RawOperand) (here rest : List Token) (tree : RawTree) → apart_all (lead.word word) unranged ≡ true → WithNot sense (Word word >> form) here rest → ((mid : List Token) → (Word word >> form) mid rest → ranged_at left mid ≡ Some (found tree rest)) → predicate_at left here ≡ Some (found (with_not sense tree) rest)
sensed_predicate plain word form left here rest tree d (behind, w, s) read =
    plain_predicate (lead.word word) left here rest tree d (begins_word word here behind w) (read here (behind, w, s))
sensed_predicate negated word form left here rest tree d (mid, w, s) read = not_predicate left here mid rest tree w (read mid s)

pub between_read : (left : RawOperand) (low high : Operand) (mid rest : List Token) → (Word (codes "BETWEEN") >> SpellsOperand low >> Word (codes "AND") >> SpellsOperand high) mid rest → ranged_at left mid ≡ Some (found (raw.between left (operand_side low) (operand_side high)) rest)
unfolding ranged_at between_at
between_read left low high mid rest (behind, word, (next, s, (after, word_and, t))) =
    first_gives (option_or (among_at left mid) (like_at left mid))
    (then_gives (between_step left) (word_read (codes "BETWEEN") mid behind word)
    (then_gives (low_step left) (operand_read low behind next s)
    (then_gives (and_step left (operand_side low)) (word_read (codes "AND") next after word_and)
    (then_gives (high_step left (operand_side low)) (operand_read high after rest t) refl))))

pub among_read : (left : RawOperand) (list : Listed Constant) (mid rest : List Token) → (Word (codes "IN") >> SpellsConstants list) mid rest → ranged_at left mid ≡ Some (found (raw.member left (values constant_value list)) rest)
unfolding ranged_at among_at
among_read left list mid rest (behind, word, s) =
    second_gives (no_between left mid (first_free (lead.word (codes "BETWEEN")) [] mid (free (lead.word (codes "IN")) (lead.word (codes "BETWEEN") ∷ []) mid refl (begins_word (codes "IN") mid behind word))))
    (first_gives (like_at left mid)
    (then_gives (among_step left) (word_read (codes "IN") mid behind word) (then_gives (list_step left) (constants_read list behind rest s) refl)))

pub like_read : (column pattern : List ℕ) (mid rest : List Token) → (Word (codes "LIKE") >> Text pattern) mid rest → ranged_at (of.Column column) mid ≡ Some (found (raw.like column pattern) rest)
unfolding ranged_at
like_read column pattern mid rest (behind, word, s) =
    let e = free (lead.word (codes "LIKE")) (lead.word (codes "BETWEEN") ∷ lead.word (codes "IN") ∷ []) mid refl (begins_word (codes "LIKE") mid behind word) in
    second_gives (no_between (of.Column column) mid (first_free (lead.word (codes "BETWEEN")) (lead.word (codes "IN") ∷ []) mid e))
    (second_gives (no_among (of.Column column) mid (first_free (lead.word (codes "IN")) [] mid (others_free (lead.word (codes "BETWEEN")) (lead.word (codes "IN") ∷ []) mid e)))
    (then_gives (like_step column) (word_read (codes "LIKE") mid behind word) (then_gives (pattern_step column) (text_read pattern behind rest s) refl)))

pub compared_read : (left : RawOperand) (op : Op) (right : Operand) (here rest : List Token) → (Comparison op >> SpellsOperand right) here rest → predicate_at left here ≡ Some (found (raw.compare op left (operand_side right)) rest)
unfolding predicate_at compared_at
compared_read left op right here rest (mid, s, t) =
    first_gives (option_or (null_test_at left here) (option_or (not_ranged_at left here) (ranged_at left here)))
    (then_gives (op_step left) (op_read op here mid s) (then_gives (right_step left op) (operand_read right mid rest t) refl))

null_test_read : (sense : Sense) (left : RawOperand) (here rest : List Token) → (Word (codes "IS") >> WithNot sense (Word (codes "NULL"))) here rest → null_test_at left here ≡ Some (found (with_not sense (raw.is_null left)) rest)
unfolding null_test_at
null_test_read plain left here rest (mid, word, s) =
    second_gives
    (then_gives (is_not_step left) (word_read (codes "IS") here mid word) (then_none (then_null_step left) (no_word (codes "NOT") mid (first_free (lead.word (codes "NOT")) [] mid (free (lead.word (codes "NULL")) (lead.word (codes "NOT") ∷ []) mid refl (begins_word (codes "NULL") mid rest s))))))
    (then_gives (is_step left) (word_read (codes "IS") here mid word) (then_gives (null_step left) (word_read (codes "NULL") mid rest s) refl))
null_test_read negated left here rest (mid, word, (next, s, t)) =
    first_gives (is_null_at left here)
    (then_gives (is_not_step left) (word_read (codes "IS") here mid word) (then_gives (then_null_step left) (word_read (codes "NOT") mid next s) (then_gives (not_null_step left) (word_read (codes "NULL") next rest t) refl)))

pub null_predicate : (sense : Sense) (left : RawOperand) (here rest : List Token) → (Word (codes "IS") >> WithNot sense (Word (codes "NULL"))) here rest → predicate_at left here ≡ Some (found (with_not sense (raw.is_null left)) rest)
unfolding predicate_at
null_predicate sense left here rest (mid, word, s) =
    second_gives (no_compared left here (first_free lead.comparison [] here (free (lead.word (codes "IS")) (lead.comparison ∷ []) here refl (begins_word (codes "IS") here mid word))))
    (first_gives (option_or (not_ranged_at left here) (ranged_at left here)) (null_test_read sense left here rest (mid, word, s)))

-- a test behind its operand
pub behind_operand : (l : Operand) (ts here rest : List Token) (tree : RawTree) → SpellsOperand l ts here → predicate_at (operand_side l) here ≡ Some (found tree rest) → test_at ts ≡ Some (found tree rest)
unfolding test_at operand_test_at
behind_operand l ts here rest tree s e =
    first_gives (option_or (truth_at ts) (row_test_at ts)) (then_gives predicate_step (operand_read l ts here s) e)
