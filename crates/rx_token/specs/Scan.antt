-- The tokens of a text up to the first bad place.
use Rattle.std.specs.Prelude.{◌≡◌, ℕ, zero, suc, ◌+◌, ◌-◌, ◌<◌, ◌≤◌, nat_lt, if◌then◌else◌, List, [], ◌∷◌, drop, Option, Some, None}
use Rattle.rx_token.specs.declared.kinds.Token.{Token}
use Rattle.rx_token.specs.declared.kinds.Scanned.{Scanned}
use Rattle.rx_token.specs.declared.lexemes.Lexeme.{Lexeme}
use Rattle.rx_token.specs.Blank.{blank_at, Blanks}
use Rattle.rx_token.specs.Lexeme.{lexeme_at}

-- the end is there, or a place where no token fits
abbrev pub Stops : ℕ → List ℕ → Option ℕ → Type 0
Stops at [] bad = bad ≡ None
Stops at (b ∷ bs) bad = (lexeme_at (b ∷ bs) ≡ None) × (bad ≡ Some at)

-- a token at a place of the text
abbrev pub token : ℕ → Lexeme → Token
token at found = record { kind = found.kind; start = at; end = at + found.width; text = found.text }

-- The bytes, which stand at a place of the text, are these tokens with white space and comments before
-- each, and then white space and comments up to the end or to the first place where no token fits.
abbrev pub Scans : ℕ → List ℕ → List Token → Option ℕ → Type 0
Scans at bytes [] bad = (gap : ℕ) × Blanks bytes gap × Stops (at + gap) (drop gap bytes) bad
Scans at bytes (t ∷ ts) bad =
    (gap : ℕ) × (found : Lexeme) × Blanks bytes gap × (lexeme_at (drop gap bytes) ≡ Some found)
    × (t ≡ token (at + gap) found)
    × Scans (at + gap + found.width) (drop found.width (drop gap bytes)) ts bad

-- a token before those behind it, or a bad place
abbrev pub with_token : ℕ → Option Lexeme → (Lexeme → Scanned) → Scanned
with_token at None behind = record { list = []; bad = Some at }
with_token at (Some found) behind =
    record { list = token at found ∷ (behind found).list; bad = (behind found).bad }

-- what is read from a place on, where `behind n` is read behind the next byte and n more
abbrev pub next_at : ℕ → List ℕ → (ℕ → Scanned) → Scanned
next_at at bytes behind =
    if nat_lt 0 (blank_at bytes) then behind (blank_at bytes - 1)
    else with_token at (lexeme_at bytes) (λ found. behind (found.width - 1))

-- What is read from a place of the text on, where so many of the next bytes belong to white space, a
-- comment or a token before.
unfoldable pub scan_from : ℕ → ℕ → List ℕ → Scanned
scan_from at taken [] = record { list = []; bad = None }
scan_from at (suc taken) (b ∷ bs) = scan_from (at + 1) taken bs
scan_from at zero (b ∷ bs) = next_at at (b ∷ bs) (λ n. scan_from (at + 1) n bs)

-- the tokens of a text up to the first place where none fits
unfoldable pub token_list : List ℕ → List Token
token_list text = (scan_from 0 0 text).list

-- the first place where no token fits, and none where the tokens reach the end
unfoldable pub bad_place : List ℕ → Option ℕ
bad_place text = (scan_from 0 0 text).bad

-- The tokens have bytes, stand in order between two places, and don't overlap.
abbrev pub SpansRise : ℕ → List Token → ℕ → Type 0
SpansRise from [] limit = from ≤ limit
SpansRise from (t ∷ ts) limit = (from ≤ t.start) × (t.start < t.end) × SpansRise t.end ts limit
