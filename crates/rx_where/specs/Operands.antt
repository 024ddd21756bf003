-- Names and constants as sides of tests.
use Rattle.std.specs.Prelude.{ℕ, ◌^◌, ℤ, pos, neg_ℤ, List, [], ◌∷◌, codes, Option, Some, None, nat_lt, if◌then◌else◌}
use Rattle.std.specs.Option.{option_or}
use Rattle.rx_value.specs.declared.values.Value.{Value}
use Rattle.rx_value.specs.declared.values.Value.TheVariants.{Null, Int, Text}
use Rattle.rx_token.specs.declared.kinds.TokenKind.{TokenKind}
use Rattle.rx_token.specs.declared.kinds.TokenKind.TheVariants.{Word, Quoted, Number, Str, Sign}
use Rattle.rx_token.specs.declared.signs.TheConstants.{PLUS, MINUS}
use Rattle.rx_where.specs.declared.raw.RawOperand.{RawOperand}
use Rattle.rx_where.specs.declared.raw.RawOperand.TheVariants.{Column, Constant}
use Rattle.rx_reading.specs.Reading.{Reader, ◌>>=◌, after_word, after_sign, name_at, text_at, enclosed_at}

-- numbers are below 2^127
abbrev pub whole_of : TokenKind → Option ℕ
whole_of Word = None
whole_of Quoted = None
whole_of (Number n) = if nat_lt n (2 ^ 127) then Some n else None
whole_of Str = None
whole_of (Sign n) = None

-- a number without a sign
abbrev pub whole_at : Reader ℤ
whole_at [] = None
whole_at (t ∷ ts) = whole_of t.kind >>= λ n. Some (pos n, ts)

-- a number behind a plus sign
abbrev pub plus_at : Reader ℤ
plus_at ts = after_sign PLUS ts >>= whole_at

-- a number behind a minus sign
abbrev pub minus_at : Reader ℤ
minus_at ts = after_sign MINUS ts >>= λ behind. whole_at behind >>= λ n. Some (neg_ℤ n.0, n.1)

-- ["+"|"-"] number
abbrev pub number_at : Reader ℤ
number_at ts = option_or (plus_at ts) (option_or (minus_at ts) (whole_at ts))

-- NULL
abbrev pub null_at : Reader Value
null_at ts = after_word (codes "NULL") ts >>= λ behind. Some (Null, behind)

-- constant := ["+"|"-"] number | string | NULL
unfoldable pub constant_at : Reader Value
constant_at ts =
    option_or (null_at ts)
    (option_or (text_at ts >>= λ text. Some (Text text.0, text.1))
    (number_at ts >>= λ n. Some (Int n.0, n.1)))

-- operand := name | constant
unfoldable pub operand_at : Reader RawOperand
operand_at ts =
    option_or (name_at ts >>= λ name. Some (Column name.0, name.1))
    (constant_at ts >>= λ value. Some (Constant value.0, value.1))

-- "(" constant {"," constant} ")"
unfoldable pub constants_at : Reader (List Value)
constants_at ts = enclosed_at constant_at ts
