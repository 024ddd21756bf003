-- When a text matches a pattern.
use Rattle.std.specs.Prelude.{◌≡◌, ℕ, List, [], ◌∷◌, length}
use Rattle.std.specs.List.{AllZip, concat}
use Rattle.std.specs.Str.{chars, IsUtf8}
use Rattle.rx_like.specs.declared.tokens.Token.{Token}
use Rattle.rx_like.specs.declared.tokens.Token.TheVariants.{AnyRun, AnyChar, Char}
use Rattle.rx_like.specs.Pattern.{tokens}

-- a piece of a text fits a token
abbrev pub Fits : Token → List ℕ → Type 0
Fits AnyRun piece = Unit {0}
Fits AnyChar piece = length piece ≡ 1
Fits (Char c) piece = piece ≡ c ∷ []

-- characters can be cut into one piece per token, each of which fits its token
abbrev pub CutsInto : List Token → List ℕ → Type 0
CutsInto ts cs = (pieces : List (List ℕ)) × (concat pieces ≡ cs) × AllZip Fits ts pieces

-- A text matches a pattern where both are UTF-8 and the text's characters can be cut into one piece per token of the pattern, each of which fits its token.
pub record Matches (pattern text : List ℕ) : Type 0 where
  pub pattern_utf8 : IsUtf8 pattern
  pub text_utf8 : IsUtf8 text
  pub cut : CutsInto (tokens pattern) (chars text)
