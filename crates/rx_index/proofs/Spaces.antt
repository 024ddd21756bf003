-- A word with room for the numbers of what rows have on parts.
use Rattle.std.proofs.Common.{◌≡◌, ℕ, ◌+◌, ◌*◌, ◌<◌, ◌≤◌, ◌^◌, Bool, true, false, List, [], ◌∷◌, sym, arith}
use Rattle.rx_value.specs.declared.values.Value.{Value}
use Rattle.rx_index.specs.declared.heads.Field.{Field}
use Rattle.rx_index.specs.Heads.{count_of, turned, IsDigit, sizes, HasSpace}

sizes_some : (fields : List Field) → 1 ≤ sizes fields
sizes_some [] = omega arith
sizes_some (field ∷ fields) = product_some (count_of field.shape) (sizes fields) (sizes_some fields) where
  product_some : (c n : ℕ) → 1 ≤ n → 1 ≤ (c + 1) * n
  product_some c n h = grind (arith, h)

pub digit_within : (field : Field) (row : List Value) (d : ℕ) → IsDigit field row d → d ≤ count_of field.shape
digit_within field row d is = by field.part.descending (sym is.digit_is) where
  by : (falling : Bool) → turned falling (count_of field.shape) is.number ≡ d → d ≤ count_of field.shape
  by true e = omega (arith, e)
  by false e = omega (arith, e, is.within)

at_least : (a n : ℕ) → 1 ≤ n → a ≤ a * n
at_least a n h = grind (arith, h)

-- (before + 1) * (size * n) is at least ((before * size + d) + 1) * n where d is below size
pub step : (before c d n : ℕ) → d ≤ c → (before * (c + 1) + d + 1) * n ≤ (before + 1) * ((c + 1) * n)
step before c d n h = grind (arith, h)

pub space_on : (before : ℕ) (field : Field) (fields : List Field) (row : List Value) (d : ℕ) → IsDigit field row d → HasSpace before (field ∷ fields) → HasSpace (before * (count_of field.shape + 1) + d) fields
space_on before field fields row d is h = omega (arith, step before (count_of field.shape) d (sizes fields) (digit_within field row d is), h)

pub space_here : (before : ℕ) (field : Field) (fields : List Field) (d : ℕ) → d ≤ count_of field.shape → HasSpace before (field ∷ fields) → before * (count_of field.shape + 1) + d + 1 < 2 ^ 128
space_here before field fields d le h =
    omega (arith, at_least (before * (count_of field.shape + 1) + d + 1) (sizes fields) (sizes_some fields), step before (count_of field.shape) d (sizes fields) le, h)

size_here : (before c n : ℕ) → 1 ≤ n → c + 1 ≤ (before + 1) * ((c + 1) * n)
size_here before c n h = grind (arith, h)

pub size_fits : (before : ℕ) (field : Field) (fields : List Field) → HasSpace before (field ∷ fields) → count_of field.shape + 1 < 2 ^ 128
size_fits before field fields h = omega (arith, size_here before (count_of field.shape) (sizes fields) (sizes_some fields), h)

pub number_fits : (before : ℕ) (field : Field) (fields : List Field) (row : List Value) (d : ℕ) → IsDigit field row d → HasSpace before (field ∷ fields) → before * (count_of field.shape + 1) + d + 1 < 2 ^ 128
number_fits before field fields row d is h = space_here before field fields d (digit_within field row d is) h
