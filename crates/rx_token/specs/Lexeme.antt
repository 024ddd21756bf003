-- The token at the front of some bytes.
use Rattle.std.specs.Prelude.{ℕ, ◌<◌, ◌≤◌, ◌^◌, Bool, true, not, ◌||◌, List, [], ◌∷◌, take, drop, Option, Some, None, nat_lt, nat_le, ◌==◌, if◌then◌else◌}
use Rattle.std.specs.List.{prefix_len}
use Rattle.std.specs.Char.{is_ascii_digit, is_ascii_alphabetic}
use Rattle.std.specs.Str.Parse.{digits_value}
use Rattle.rx_token.specs.declared.kinds.TokenKind.TheVariants.{Word, Number, Sign}
use Rattle.rx_token.specs.Quotes.{quoted_of, name_in, str_of, text_in}
use Rattle.rx_token.specs.Sign.{sign_found}
use Rattle.rx_token.specs.declared.lexemes.Lexeme.{Lexeme}

-- a token takes some of so many bytes
abbrev pub Takes : ℕ → Lexeme → Type 0
Takes limit found = (0 < found.width) × (found.width ≤ limit)

-- a letter or `_`
abbrev pub begins_word : ℕ → Bool
begins_word b = is_ascii_alphabetic b || b == 95

-- a letter, a digit, `_` or `$`
abbrev pub goes_on_word : ℕ → Bool
goes_on_word b = begins_word b || is_ascii_digit b || b == 36

-- a word of so many bytes; a run of more than 64 is no token
abbrev pub word_of : ℕ → List ℕ → Option Lexeme
word_of width bytes =
    if nat_le width 64 then Some (record { kind = Word; text = take width bytes; width = width }) else None

-- the number that digits write, where it is below 2^127
abbrev pub number_below : List ℕ → Option ℕ
number_below digits =
    if nat_lt (digits_value 10 digits) (2 ^ 127) then Some (digits_value 10 digits) else None

-- no letter, `_`, `$` or `.` comes next
abbrev pub ends_number : List ℕ → Bool
ends_number [] = true
ends_number (b ∷ bs) = not (begins_word b || b == 36 || b == 46)

-- a number and its digits, where there is one
abbrev pub number_lexeme : ℕ → List ℕ → Option ℕ → Option Lexeme
number_lexeme width digits None = None
number_lexeme width digits (Some n) = Some (record { kind = Number n; text = digits; width = width })

-- a number of so many digits, with a value of at most 2^127 - 1 and no letter, `_`, `$` or `.` behind it
abbrev pub number_of : ℕ → List ℕ → Option Lexeme
number_of width bytes =
    let digits = take width bytes in
    if ends_number (drop width bytes) then number_lexeme width digits (number_below digits) else None

-- a sign by its number and its length, where there is one
abbrev pub sign_lexeme : List ℕ → Option (ℕ × ℕ) → Option Lexeme
sign_lexeme bytes None = None
sign_lexeme bytes (Some sign) =
    Some (record { kind = Sign sign.0; text = take sign.1 bytes; width = sign.1 })

-- the longest sign at the front
abbrev pub sign_at : List ℕ → Option Lexeme
sign_at bytes = sign_lexeme bytes (sign_found bytes)

-- The token at the front: the longest run of a letter or `_` and then letters, digits, `_` and `$`;
-- the longest run of digits; a name or a text in quotes; or the longest sign that fits.
unfoldable pub lexeme_at : List ℕ → Option Lexeme
lexeme_at [] = None
lexeme_at (b ∷ bs) =
    if begins_word b then word_of (prefix_len goes_on_word (b ∷ bs)) (b ∷ bs)
    else (if is_ascii_digit b then number_of (prefix_len is_ascii_digit (b ∷ bs)) (b ∷ bs)
    else (if b == 96 then quoted_of (name_in bs)
    else (if b == 39 || b == 34 then str_of (text_in b bs)
    else sign_at (b ∷ bs))))
