-- Names between backquotes, and texts between quotes.
use Rattle.std.specs.Prelude.{◌≡◌, ℕ, ◌+◌, Bool, true, false, not, ◌&&◌, List, [], ◌∷◌, ◌++◌, length, Option, Some, None, nat_le, ◌==◌, if◌then◌else◌}
use Rattle.std.specs.List.{list_all}
use Rattle.std.specs.Str.{is_utf8}
use Rattle.rx_token.specs.declared.kinds.TokenKind.TheVariants.{Quoted, Str}
use Rattle.rx_token.specs.declared.lexemes.Lexeme.{Lexeme}

-- a text before another, and bytes taken before others
abbrev pub with_front : List ℕ → ℕ → Option (List ℕ × ℕ) → Option (List ℕ × ℕ)
with_front text width None = None
with_front text width (Some x) = Some (text ++ x.0, width + x.1)

-- a byte that a quoted name may have
abbrev pub is_name_byte : ℕ → Bool
is_name_byte b = nat_le 32 b && nat_le b 126

-- The name up to the closing backquote, and the bytes up to behind it. A doubled backquote is one.
unfoldable pub name_in : List ℕ → Option (List ℕ × ℕ)
name_in [] = None
name_in (b ∷ []) = if b == 96 then Some ([], 1) else None
name_in (b ∷ c ∷ bs) =
    if b == 96 then (if c == 96 then with_front (96 ∷ []) 2 (name_in bs) else Some ([], 1))
    else (if is_name_byte b then with_front (b ∷ []) 1 (name_in (c ∷ bs)) else None)

-- a name with each backquote doubled
abbrev pub doubled : List ℕ → List ℕ
doubled [] = []
doubled (b ∷ bs) = if b == 96 then 96 ∷ 96 ∷ doubled bs else b ∷ doubled bs

-- the bytes don't begin with this one
abbrev pub begins_without : ℕ → List ℕ → Bool
begins_without quote [] = true
begins_without quote (b ∷ bs) = not (b == quote)

-- Behind the first backquote stand the bytes of a name, each from 32 to 126 and each backquote doubled,
-- and then a single backquote: the name, and how many bytes lead behind that backquote.
abbrev pub IsNameIn : List ℕ → List ℕ × ℕ → Type 0
IsNameIn bytes x =
    (rest : List ℕ) × (bytes ≡ doubled x.0 ++ 96 ∷ rest) × (begins_without 96 rest ≡ true)
    × (list_all is_name_byte x.0 ≡ true) × (x.1 ≡ length (doubled x.0) + 1)

-- What a backslash and a byte stand for: `0`, `b`, `n`, `r`, `t` and `Z` for the bytes 0, 8, 10, 13, 9
-- and 26, `%` and `_` for the backslash and themselves, and any other byte for itself.
unfoldable pub escaped : ℕ → List ℕ
escaped c =
    if c == 48 then 0 ∷ []
    else (if c == 98 then 8 ∷ []
    else (if c == 110 then 10 ∷ []
    else (if c == 114 then 13 ∷ []
    else (if c == 116 then 9 ∷ []
    else (if c == 90 then 26 ∷ []
    else (if c == 37 then 92 ∷ 37 ∷ []
    else (if c == 95 then 92 ∷ 95 ∷ []
    else c ∷ [])))))))

-- The text up to the closing quote, and the bytes up to behind it. A doubled quote is one.
unfoldable pub text_in : ℕ → List ℕ → Option (List ℕ × ℕ)
text_in quote [] = None
text_in quote (b ∷ []) = if b == quote then Some ([], 1) else None
text_in quote (b ∷ c ∷ bs) =
    if b == quote then (if c == quote then with_front (quote ∷ []) 2 (text_in quote bs) else Some ([], 1))
    else (if b == 92 then with_front (escaped c) 2 (text_in quote bs)
    else with_front (b ∷ []) 1 (text_in quote (c ∷ bs)))

-- Bytes between two quotes spell a text: a doubled quote is one, a backslash and a byte are what they
-- stand for, and any other byte is itself.
pub data Spells (quote : ℕ) : List ℕ → List ℕ → Type 0 where
  done : Spells quote [] []
  quoted : {bytes text : List ℕ} →
      Spells quote bytes text → Spells quote (quote ∷ quote ∷ bytes) (quote ∷ text)
  slashed : {c : ℕ} {bytes text : List ℕ} →
      Spells quote bytes text → Spells quote (92 ∷ c ∷ bytes) (escaped c ++ text)
  plain : {b : ℕ} {bytes text : List ℕ} →
      (b == quote) ≡ false → (b == 92) ≡ false → Spells quote bytes text → Spells quote (b ∷ bytes) (b ∷ text)

-- Behind the first quote stand bytes that spell a text, and then a single quote: the text, and how many
-- bytes lead behind that quote.
abbrev pub IsTextIn : ℕ → List ℕ → List ℕ × ℕ → Type 0
IsTextIn quote bytes x =
    (spelled : List ℕ) × (rest : List ℕ) × Spells quote spelled x.0 × (bytes ≡ spelled ++ quote ∷ rest)
    × (begins_without quote rest ≡ true) × (x.1 ≡ length spelled + 1)

-- a name has 1 to 64 bytes, and the quote before it is taken too
abbrev pub quoted_of : Option (List ℕ × ℕ) → Option Lexeme
quoted_of None = None
quoted_of (Some x) =
    if nat_le 1 (length x.0) && nat_le (length x.0) 64 then Some (record { kind = Quoted; text = x.0; width = 1 + x.1 }) else None

-- a text is UTF-8, and the quote before it is taken too
abbrev pub str_of : Option (List ℕ × ℕ) → Option Lexeme
str_of None = None
str_of (Some x) =
    if is_utf8 x.0 then Some (record { kind = Str; text = x.0; width = 1 + x.1 }) else None
