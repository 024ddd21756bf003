-- Matching as a test, and where a walk along a pattern stops.
use Rattle.std.specs.Prelude.{◌≡◌, ℕ, ◌<◌, ◌≤◌, Bool, true, false, ◌==◌, ◌&&◌, ◌||◌, List, [], ◌∷◌, length}
use Rattle.std.specs.Str.{chars, is_utf8}
use Rattle.rx_like.specs.declared.tokens.Token.{Token}
use Rattle.rx_like.specs.declared.tokens.Token.TheVariants.{AnyRun, AnyChar, Char}
use Rattle.rx_like.specs.declared.matching.Stop.{Stop}
use Rattle.rx_like.specs.declared.matching.Stop.TheVariants.{Run, Whole, Misfit, Short}
use Rattle.rx_like.specs.Pattern.{tokens}

-- the character alone fits the token
abbrev pub token_fits : Token → ℕ → Bool
token_fits AnyRun c = false
token_fits AnyChar c = true
token_fits (Char d) c = c == d

-- the test passes for the list without some of its first items
abbrev pub some_rest : (List ℕ → Bool) → List ℕ → Bool
some_rest test [] = test []
some_rest test (c ∷ cs) = test (c ∷ cs) || some_rest test cs

-- the characters match the tokens
abbrev pub matches : List Token → List ℕ → Bool
matches [] [] = true
matches [] (c ∷ cs) = false
matches (AnyRun ∷ ts) cs = some_rest (matches ts) cs
matches (t ∷ ts) [] = false
matches (t ∷ ts) (c ∷ cs) = token_fits t c && matches ts cs

-- whether the text matches the pattern
abbrev pub is_like : List ℕ → List ℕ → Bool
is_like pattern text = is_utf8 pattern && (is_utf8 text && matches (tokens pattern) (chars text))

-- what is known where a walk that began at these tokens and characters stops at an any run
pub record StopsAtRun (ts : List Token) (cs : List ℕ) (pattern : List Token) (text : List ℕ) : Type 0 where
  pub same : matches ts cs ≡ matches (AnyRun ∷ pattern) text
  pub later : matches (AnyRun ∷ ts) cs ≡ true → matches (AnyRun ∷ pattern) text ≡ true
  pub shorter : length pattern < length ts
  pub left : length text ≤ length cs

-- what is known where a walk that began at these tokens and characters stops
abbrev pub IsStop : List Token → List ℕ → Stop → Type 0
IsStop ts cs (Run pattern text) = StopsAtRun ts cs (tokens pattern.now) (chars text.now)
IsStop ts cs Whole = matches ts cs ≡ true
IsStop ts cs Misfit = matches ts cs ≡ false
IsStop ts cs Short = matches (AnyRun ∷ ts) cs ≡ false
