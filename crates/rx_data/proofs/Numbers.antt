-- The values of numerals.
use Rattle.std.proofs.Common.{◌≡◌, ℕ, ◌+◌, ◌*◌, ◌<◌, ◌≤◌, Bool, true, false, ◌&&◌, cond, leb, List, [], ◌∷◌, Some, None, refl, arith}
use Rattle.std.specs.Str.Parse.{digits_value, digits_value_after}
use Rattle.std.specs.Char.{digit_value}
use Rattle.std.proofs.lemmas.Bool.{leb-true}
use Rattle.rx_data.specs.Fields.{is_numeral, number_within}

-- more digits write no less
pub after_least : (n : ℕ) (digits : List ℕ) → n ≤ digits_value_after 10 n digits
after_least n [] = omega arith
after_least n (d ∷ ds) = let h = after_least (n * 10 + digit_value d) ds in omega arith

none_above : (t u : Bool) (value limit : ℕ) → leb value limit ≡ u → limit < value → None ≡ cond (t && u) (Some value) None
none_above false u value limit le above = refl
none_above true false value limit le above = refl
none_above true true value limit le above = let h = leb-true value limit le in absurd (omega arith)

-- a number that is too large already
pub too_large : (limit n : ℕ) (digits rest : List ℕ) → limit < n → digits_value_after 10 n rest ≡ digits_value 10 digits → None ≡ number_within limit digits
unfolding number_within
too_large limit n digits rest above e =
    let h = after_least n rest in
    none_above (is_numeral digits) _ (digits_value 10 digits) limit refl (omega arith)
