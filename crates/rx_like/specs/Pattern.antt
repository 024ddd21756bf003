-- A LIKE pattern as a list of tokens.
use Rattle.std.specs.Prelude.{ℕ, Bool, true, false, ◌==◌, ◌&&◌, encode_utf8_all, if◌then◌else◌, List, [], ◌∷◌}
use Rattle.std.specs.List.{list_all}
use Rattle.std.specs.Str.{chars, is_utf8}
use Rattle.rx_like.specs.declared.tokens.Token.{Token}
use Rattle.rx_like.specs.declared.tokens.Token.TheVariants.{AnyRun, AnyChar, Char}

-- the characters `%`, `_` and backslash
abbrev pub percent : ℕ
percent = 37

abbrev pub underscore : ℕ
underscore = 95

abbrev pub backslash : ℕ
backslash = 92

-- the token of a character without a backslash before it
abbrev pub plain_token : ℕ → Token
plain_token c = if c == percent then AnyRun else if c == underscore then AnyChar else Char c

abbrev mutual
  -- The tokens that characters spell: a backslash makes the next character stand for itself.
  pub tokens_of : List ℕ → List Token
  tokens_of [] = []
  tokens_of (c ∷ cs) = if c == backslash then escaped cs else plain_token c ∷ tokens_of cs

  -- the tokens of a backslash and what follows it: one at the end stands for itself
  pub escaped : List ℕ → List Token
  escaped [] = Char backslash ∷ []
  escaped (c ∷ cs) = Char c ∷ tokens_of cs

-- the tokens of a pattern
abbrev pub tokens : List ℕ → List Token
tokens pattern = tokens_of (chars pattern)

abbrev pub is_literal : Token → Bool
is_literal (Char c) = true
is_literal _ = false

-- whether no token is a wildcard
abbrev pub has_no_wildcard : List Token → Bool
has_no_wildcard ts = list_all is_literal ts

-- the characters before the first wildcard
abbrev pub literal_front : List Token → List ℕ
literal_front (Char c ∷ ts) = c ∷ literal_front ts
literal_front _ = []

-- the bytes of the characters before a pattern's first wildcard, none where it is no UTF-8
abbrev pub literal_prefix : List ℕ → List ℕ
literal_prefix pattern = if is_utf8 pattern then encode_utf8_all (literal_front (tokens pattern)) else []

-- whether a pattern is UTF-8 and has no wildcard
abbrev pub is_plain : List ℕ → Bool
is_plain pattern = is_utf8 pattern && has_no_wildcard (tokens pattern)
