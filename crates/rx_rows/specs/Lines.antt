-- The text of output rows.
use Rattle.std.specs.Prelude.{◌≡◌, ℕ, List, [], ◌∷◌, ◌++◌, length, codes, if◌then◌else◌, ◌==◌}
use Rattle.std.specs.List.{flat_map}
use Rattle.std.specs.Fmt.{decimal, signed_decimal}
use Rattle.rx_value.specs.declared.values.Value.{Value}
use Rattle.rx_value.specs.declared.values.Value.TheVariants.{Null, Int, Text}

-- a byte of a text as it is printed
abbrev pub escaped : ℕ → List ℕ
escaped b =
    if b == 0 then codes "\\0"
    else (if b == 9 then codes "\\t"
    else (if b == 10 then codes "\\n"
    else (if b == 13 then codes "\\r"
    else (if b == 92 then codes "\\\\"
    else b ∷ []))))

-- NULL is printed as `\N`, an integer in decimal digits, a text with its escapes.
abbrev pub value_text : Value → List ℕ
value_text Null = codes "\\N"
value_text (Int n) = signed_decimal n
value_text (Text text) = flat_map escaped text

-- texts, each behind a tab
abbrev pub behind_tabs : List Value → List ℕ
behind_tabs values = flat_map (λ v. 9 ∷ value_text v) values

-- the values in order, parted by tabs
abbrev pub values_text : List Value → List ℕ
values_text [] = []
values_text (v ∷ vs) = value_text v ++ behind_tabs vs

-- the line of an output row
abbrev pub line_of : List Value → List ℕ
line_of row = values_text row ++ 10 ∷ []

-- the line that says how many rows there are
abbrev pub footer_of : ℕ → List ℕ
footer_of n = codes "\\. " ++ decimal n ++ 10 ∷ []

-- a line per row, and then their number
abbrev pub block_of : List (List Value) → List ℕ
block_of rows = flat_map line_of rows ++ footer_of (length rows)

-- the second list begins with the first
abbrev pub GoesOn : List ℕ → List ℕ → Type 0
GoesOn old new = (more : List ℕ) × (new ≡ old ++ more)
