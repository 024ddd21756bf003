-- The signs.
use Rattle.std.specs.Prelude.{◌≡◌, ℕ, Bool, true, not, ◌&&◌, List, [], ◌∷◌, length, filter, map, Option, Some, None, nat_eq, nat_lt, codes, if◌then◌else◌}
use Rattle.std.specs.List.{starts_with, list_any}
use Rattle.rx_token.specs.declared.signs.TheConstants.{OPEN, CLOSE, COMMA, SEMICOLON, STAR, EQUAL, SAFE_EQUAL, LESS, AT_MOST, MORE, AT_LEAST, UNEQUAL, DIFFERENT, PLUS, MINUS}

-- each sign by its number, with its spelling
abbrev pub signs : List (ℕ × List ℕ)
signs =
    (OPEN, codes "(") ∷ (CLOSE, codes ")") ∷ (COMMA, codes ",") ∷ (SEMICOLON, codes ";")
    ∷ (STAR, codes "*") ∷ (EQUAL, codes "=") ∷ (SAFE_EQUAL, codes "<=>") ∷ (LESS, codes "<")
    ∷ (AT_MOST, codes "<=") ∷ (MORE, codes ">") ∷ (AT_LEAST, codes ">=")
    ∷ (UNEQUAL, codes "<>") ∷ (DIFFERENT, codes "!=") ∷ (PLUS, codes "+") ∷ (MINUS, codes "-") ∷ []

-- no number stands in a list twice
abbrev pub all_differ : List ℕ → Bool
all_differ [] = true
all_differ (n ∷ ns) = not (list_any (nat_eq n) ns) && all_differ ns

-- no two signs have one number
abbrev pub NumbersDiffer : Type 0
NumbersDiffer = all_differ (map (λ sign. sign.0) signs) ≡ true

-- the signs that the bytes begin with
abbrev pub fitting : List ℕ → List (ℕ × List ℕ)
fitting bytes = filter (λ sign. starts_with nat_eq bytes sign.1) signs

-- of two signs, each by its number and its length, the longer one
abbrev pub longer : ℕ × ℕ → Option (ℕ × ℕ) → Option (ℕ × ℕ)
longer sign None = Some sign
longer sign (Some other) = if nat_lt sign.1 other.1 then Some other else Some sign

-- the number and the length of the longest of some signs
abbrev pub longest : List (ℕ × List ℕ) → Option (ℕ × ℕ)
longest [] = None
longest (sign ∷ others) = longer (sign.0, length sign.1) (longest others)

-- the longest sign that fits
unfoldable pub sign_found : List ℕ → Option (ℕ × ℕ)
sign_found bytes = longest (fitting bytes)
