-- The segments of a script.
use Rattle.std.specs.Prelude.{◌≡◌, Bool, true, false, List, [], ◌∷◌, ◌++◌}
use Rattle.std.specs.List.{list_any, slice_split}
use Rattle.rx_token.specs.declared.kinds.Token.{Token}
use Rattle.rx_token.specs.declared.signs.TheConstants.{SEMICOLON}
use Rattle.rx_reading.specs.Reading.{is_sign_kind}

-- a semicolon; one within a text is none
abbrev pub is_semicolon : Token → Bool
is_semicolon t = is_sign_kind SEMICOLON t.kind

-- The tokens are these segments with a semicolon between any two, and no segment has a semicolon.
abbrev pub IsSplit : List Token → List (List Token) → Type 0
IsSplit ts [] = ⊥
IsSplit ts (segment ∷ []) = (ts ≡ segment) × (list_any is_semicolon segment ≡ false)
IsSplit ts (segment ∷ next ∷ others) =
    (semicolon : Token) × (rest : List Token) × (ts ≡ segment ++ semicolon ∷ rest) × (is_semicolon semicolon ≡ true)
    × (list_any is_semicolon segment ≡ false) × IsSplit rest (next ∷ others)

-- the segments of some tokens, one more than there are semicolons
abbrev pub segments : List Token → List (List Token)
segments ts = slice_split is_semicolon ts
