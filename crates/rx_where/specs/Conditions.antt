-- Conditions: what AND, OR, NOT and parentheses make of tests.
use Rattle.std.specs.Prelude.{◌≡◌, ℕ, zero, suc, ◌-◌, List, codes, Option, Some, None, length, Result, Ok, Err}
use Rattle.std.specs.Option.{option_or}
use Rattle.rx_token.specs.declared.kinds.Token.{Token}
use Rattle.rx_token.specs.declared.signs.TheConstants.{OPEN, CLOSE}
use Rattle.rx_where.specs.declared.raw.RawCond.{RawCond}
use Rattle.rx_where.specs.declared.conditions.ParseFault.{ParseFault}
use Rattle.rx_where.specs.declared.conditions.ParseFault.TheVariants.{NotInGrammar, NoMemory}
use Rattle.rx_where.specs.Raw.{RawTree, raw_tree_of, neg, conj_of, disj_of}
use Rattle.rx_reading.specs.Reading.{Reader, ◌>>=◌, after_word, after_sign, items_at}
use Rattle.rx_where.specs.Grammar.{IsNone}
use Rattle.rx_where.specs.Tests.{operand_test_at, truth_at}
use Rattle.rx_where.specs.Rows.{row_test_at}

-- the longest test
unfoldable pub test_at : Reader RawTree
test_at ts = option_or (operand_test_at ts) (option_or (truth_at ts) (row_test_at ts))

-- AND neg
abbrev pub next_conjunct : Reader RawTree → Reader RawTree
next_conjunct item ts = after_word (codes "AND") ts >>= item

-- conj := neg {AND neg}
abbrev pub conj_at : Reader RawTree → Reader RawTree
conj_at item ts = items_at (after_word (codes "AND")) item ts >>= λ x. Some (conj_of x.0, x.1)

-- OR conj
abbrev pub next_disjunct : Reader RawTree → Reader RawTree
next_disjunct item ts = after_word (codes "OR") ts >>= conj_at item

-- cond := conj {OR conj}
abbrev pub cond_at : Reader RawTree → Reader RawTree
cond_at item ts = items_at (after_word (codes "OR")) (conj_at item) ts >>= λ x. Some (disj_of x.0, x.1)

-- NOT neg
abbrev pub not_at : Reader RawTree → Reader RawTree
not_at item ts = after_word (codes "NOT") ts >>= λ behind. item behind >>= λ x. Some (neg x.0, x.1)

-- "(" cond ")"
abbrev pub parens_at : Reader RawTree → Reader RawTree
parens_at item ts = after_sign OPEN ts >>= λ behind. cond_at item behind >>= λ x. after_sign CLOSE x.1 >>= λ rest. Some (x.0, rest)

-- neg := NOT neg | "(" cond ")" | test, where item reads what is one level deeper
abbrev pub nest : Reader RawTree → Reader RawTree
nest item ts = option_or (not_at item ts) (option_or (parens_at item ts) (test_at ts))

-- the same within so many levels
unfoldable pub neg_at : ℕ → Reader RawTree
neg_at zero ts = None
neg_at (suc levels) ts = nest (neg_at levels) ts

-- The longest condition at the front of tokens, with 64 levels of parentheses and NOT above its tests.
abbrev pub longest_at : Reader RawTree
longest_at ts = cond_at (neg_at 65) ts

-- A result has the condition that is read and where it ends, and refuses exactly where none is read; or there was no memory.
abbrev pub Finds : ℕ → Option (RawTree × List Token) → Result (RawCond × ℕ) ParseFault → Type 0
Finds count read (Err NoMemory) = Unit {0}
Finds count None (Err NotInGrammar) = Unit {0}
Finds count (Some x) (Ok found) = (raw_tree_of found.0 ≡ x.0) × (found.1 ≡ count - length x.1)
Finds count read result = ⊥

-- A fault is that no condition begins with these tokens, or want of memory.
abbrev pub Refuses : List Token → ParseFault → Type 0
Refuses ts NotInGrammar = IsNone ts
Refuses ts NoMemory = Unit {0}
