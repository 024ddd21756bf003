-- Single tests.
use Rattle.std.specs.Prelude.{ℕ, List, [], ◌∷◌, codes, Option, Some, None, ◌==◌, if◌then◌else◌}
use Rattle.std.specs.Option.{option_or}
use Rattle.rx_token.specs.declared.kinds.TokenKind.{TokenKind}
use Rattle.rx_token.specs.declared.kinds.TokenKind.TheVariants.{Word, Quoted, Number, Str, Sign}
use Rattle.rx_token.specs.declared.signs.TheConstants.{EQUAL, SAFE_EQUAL, LESS, AT_MOST, MORE, AT_LEAST, UNEQUAL, DIFFERENT}
use Rattle.rx_cond.specs.declared.conds.Tri.{Tri}
use Rattle.rx_cond.specs.declared.conds.Tri.TheVariants.{T, F, N}
use Rattle.rx_cond.specs.declared.conds.Op.{Op}
use Rattle.rx_cond.specs.declared.conds.Op.TheVariants.{Eq, SafeEq, Lt, Le, Gt, Ge, Ne}
use Rattle.rx_where.specs.declared.raw.RawOperand.{RawOperand}
use Rattle.rx_where.specs.declared.raw.RawOperand.TheVariants.{Column, Constant}
use Rattle.rx_where.specs.Raw.{RawTree, truth, compare, member, is_null, like, neg, between}
use Rattle.rx_reading.specs.Reading.{Reader, ◌>>=◌, after_word, text_at}
use Rattle.rx_where.specs.Operands.{operand_at, constants_at}

-- the comparison of a sign: `<>` and `!=` are one
unfoldable pub op_of_sign : ℕ → Option Op
op_of_sign sign =
    if sign == EQUAL then Some Eq
    else (if sign == SAFE_EQUAL then Some SafeEq
    else (if sign == LESS then Some Lt
    else (if sign == AT_MOST then Some Le
    else (if sign == MORE then Some Gt
    else (if sign == AT_LEAST then Some Ge
    else (if sign == UNEQUAL then Some Ne
    else (if sign == DIFFERENT then Some Ne
    else None)))))))

-- the comparison that a token is
abbrev pub op_of : TokenKind → Option Op
op_of Word = None
op_of Quoted = None
op_of (Number n) = None
op_of Str = None
op_of (Sign n) = op_of_sign n

-- = | <=> | < | <= | > | >= | <> | !=
abbrev pub op_at : Reader Op
op_at [] = None
op_at (t ∷ ts) = op_of t.kind >>= λ op. Some (op, ts)

-- op operand
unfoldable pub compared_at : RawOperand → Reader RawTree
compared_at left ts = op_at ts >>= λ op. operand_at op.1 >>= λ right. Some (compare op.0 left right.0, right.1)

-- IS NOT NULL
abbrev pub is_not_null_at : RawOperand → Reader RawTree
is_not_null_at left ts = after_word (codes "IS") ts >>= λ behind. after_word (codes "NOT") behind >>= λ next. after_word (codes "NULL") next >>= λ rest. Some (neg (is_null left), rest)

-- IS NULL
abbrev pub is_null_at : RawOperand → Reader RawTree
is_null_at left ts = after_word (codes "IS") ts >>= λ behind. after_word (codes "NULL") behind >>= λ rest. Some (is_null left, rest)

-- BETWEEN operand AND operand
unfoldable pub between_at : RawOperand → Reader RawTree
between_at left ts = after_word (codes "BETWEEN") ts >>= λ behind. operand_at behind >>= λ low. after_word (codes "AND") low.1 >>= λ next. operand_at next >>= λ high. Some (between left low.0 high.0, high.1)

-- IN "(" constant {"," constant} ")"
unfoldable pub among_at : RawOperand → Reader RawTree
among_at left ts = after_word (codes "IN") ts >>= λ behind. constants_at behind >>= λ list. Some (member left list.0, list.1)

-- LIKE string, behind a name alone
abbrev pub like_at : RawOperand → Reader RawTree
like_at (Column name) ts = after_word (codes "LIKE") ts >>= λ behind. text_at behind >>= λ pattern. Some (like name pattern.0, pattern.1)
like_at (Constant value) ts = None

-- what NOT may stand before
unfoldable pub ranged_at : RawOperand → Reader RawTree
ranged_at left ts = option_or (between_at left ts) (option_or (among_at left ts) (like_at left ts))

-- NOT and one of those
unfoldable pub not_ranged_at : RawOperand → Reader RawTree
not_ranged_at left ts = after_word (codes "NOT") ts >>= λ behind. ranged_at left behind >>= λ x. Some (neg x.0, x.1)

-- IS [NOT] NULL
unfoldable pub null_test_at : RawOperand → Reader RawTree
null_test_at left ts = option_or (is_not_null_at left ts) (is_null_at left ts)

-- what makes a test of an operand
unfoldable pub predicate_at : RawOperand → Reader RawTree
predicate_at left ts = option_or (compared_at left ts) (option_or (null_test_at left ts) (option_or (not_ranged_at left ts) (ranged_at left ts)))

-- a test of an operand
unfoldable pub operand_test_at : Reader RawTree
operand_test_at ts = operand_at ts >>= λ left. predicate_at left.0 left.1

-- a word that is a test alone
abbrev pub alone_at : List ℕ → Tri → Reader RawTree
alone_at word t ts = after_word word ts >>= λ rest. Some (truth t, rest)

-- TRUE | FALSE | NULL
unfoldable pub truth_at : Reader RawTree
truth_at ts = option_or (alone_at (codes "TRUE") T ts) (option_or (alone_at (codes "FALSE") F ts) (alone_at (codes "NULL") N ts))
