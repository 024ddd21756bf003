-- White space and comments.
use Rattle.std.specs.Prelude.{◌≡◌, ℕ, ◌+◌, ◌<◌, Bool, true, false, not, ◌&&◌, ◌||◌, List, [], ◌∷◌, drop, Option, Some, None, nat_eq, nat_le, codes, ◌==◌, if◌then◌else◌}
use Rattle.std.specs.List.{prefix_len, starts_with}

-- the bytes 9 to 13 and 32
abbrev pub is_space : ℕ → Bool
is_space b = (nat_le 9 b && nat_le b 13) || b == 32

-- any byte but the line feed
abbrev pub is_in_line : ℕ → Bool
is_in_line b = not (b == 10)

-- the bytes up to the end of the line
abbrev pub line_width : List ℕ → ℕ
line_width bytes = prefix_len is_in_line bytes

-- a count that may be missing, with n more
abbrev pub further : ℕ → Option ℕ → Option ℕ
further n None = None
further n (Some k) = Some (n + k)

-- the bytes begin with `*/`
abbrev pub closes : List ℕ → Bool
closes bytes = starts_with nat_eq bytes (codes "*/")

-- how many bytes lead behind the first `*/`
abbrev pub close_in : List ℕ → Option ℕ
close_in [] = None
close_in (b ∷ bs) = if closes (b ∷ bs) then Some 2 else further 1 (close_in bs)

-- so many bytes lead behind the first `*/`, or there is none
abbrev pub IsFirstClose : List ℕ → Option ℕ → Type 0
IsFirstClose bytes None = (k : ℕ) → closes (drop k bytes) ≡ false
IsFirstClose bytes (Some n) =
    (place : ℕ) × (n ≡ place + 2) × (closes (drop place bytes) ≡ true)
    × ((k : ℕ) → k < place → closes (drop k bytes) ≡ false)

-- white space comes next, or the end
abbrev pub ends_dashes : List ℕ → Bool
ends_dashes [] = true
ends_dashes (b ∷ bs) = is_space b

-- `!` or `+` comes next
abbrev pub is_hint : List ℕ → Bool
is_hint [] = false
is_hint (b ∷ bs) = b == 33 || b == 43

-- what a comment takes with its `/*`, nothing where it isn't closed
abbrev pub closed_width : Option ℕ → ℕ
closed_width None = 0
closed_width (Some n) = 2 + n

-- How many bytes one white space or comment at the front takes, 0 where there is none: a byte of white
-- space, or a comment from `#`, or from `--` before white space or the end, to the end of the line, or
-- from `/*`, not before `!` or `+`, to the next `*/` behind it.
unfoldable pub blank_at : List ℕ → ℕ
blank_at [] = 0
blank_at (b ∷ bs) =
    if is_space b then 1
    else (if b == 35 then 1 + line_width bs
    else (if starts_with nat_eq (b ∷ bs) (codes "--") && ends_dashes (drop 1 bs)
    then 2 + line_width (drop 1 bs)
    else (if starts_with nat_eq (b ∷ bs) (codes "/*") && not (is_hint (drop 1 bs))
    then closed_width (close_in (drop 1 bs))
    else 0)))

-- The bytes begin with white space and comments of n bytes, and no more of them.
pub data Blanks : List ℕ → ℕ → Type 0 where
  none : {bytes : List ℕ} → blank_at bytes ≡ 0 → Blanks bytes 0
  more : {bytes : List ℕ} {n : ℕ} →
      0 < blank_at bytes → Blanks (drop (blank_at bytes) bytes) n → Blanks bytes (blank_at bytes + n)
