-- The values that fields write.
use Rattle.std.specs.Prelude.{ℕ, ◌^◌, ◌-◌, pos, neg_ℤ, Bool, true, false, ◌&&◌, List, [], ◌∷◌, length, Option, Some, None, Ok, Err, nat_lt, nat_le, ◌==◌, if◌then◌else◌}
use Rattle.std.specs.Str.{all_ascii_digits, is_utf8, chars}
use Rattle.std.specs.Str.Parse.{digits_value}
use Rattle.rx_value.specs.declared.values.Value.{Value}
use Rattle.rx_value.specs.declared.values.Value.TheVariants.{Null, Int, Text}
use Rattle.rx_value.specs.declared.shapes.ColType.{ColType}
use Rattle.rx_value.specs.declared.shapes.ColType.TheVariants.{Whole, VarChar}
use Rattle.rx_value.specs.declared.shapes.Column.{Column}
use Rattle.rx_data.specs.declared.faults.DataFault.TheVariants.{BadValue, NullNotAllowed}
use Rattle.rx_data.specs.Outcomes.{Outcome}

-- the greatest number of an integer type
abbrev pub most : ℕ → Bool → ℕ
most bits true = 2 ^ (bits - 1) - 1
most bits false = 2 ^ bits - 1

-- how far an integer type goes below zero
abbrev pub least : ℕ → Bool → ℕ
least bits true = 2 ^ (bits - 1)
least bits false = 0

-- one or more decimal digits
abbrev pub is_numeral : List ℕ → Bool
is_numeral digits = nat_lt 0 (length digits) && all_ascii_digits digits

-- the number that a numeral writes, where it is at most so large
unfoldable pub number_within : ℕ → List ℕ → Option ℕ
number_within limit digits =
    if is_numeral digits && nat_le (digits_value 10 digits) limit then Some (digits_value 10 digits) else None

-- a number as a value
abbrev pub positive : Option ℕ → Option Value
positive None = None
positive (Some n) = Some (Int (pos n))

-- a number behind a minus sign as a value
abbrev pub negative : Option ℕ → Option Value
negative None = None
negative (Some n) = Some (Int (neg_ℤ (pos n)))

-- an integer of a type: a numeral, or `-` and a numeral
abbrev pub integer_of : ℕ → Bool → List ℕ → Option Value
integer_of bits signed [] = None
integer_of bits signed (b ∷ bs) =
    if b == 45 then negative (number_within (least bits signed) bs) else positive (number_within (most bits signed) (b ∷ bs))

-- UTF-8 of at most so many characters
abbrev pub fits_text : ℕ → List ℕ → Bool
fits_text count field = is_utf8 field && nat_le (length (chars field)) count

-- the value of a type that a field writes
abbrev pub value_of : ColType → List ℕ → Option Value
value_of (Whole bits signed) field = integer_of bits signed field
value_of (VarChar count) field = if fits_text count field then Some (Text field) else None

-- the two bytes `\N`
abbrev pub is_null_mark : List ℕ → Bool
is_null_mark (a ∷ b ∷ []) = a == 92 && b == 78
is_null_mark _ = false

-- NULL where it may stand
abbrev pub null_value : ℕ → ℕ → Column → Outcome Value
null_value row number column = if column.nullable then Ok Null else Err (NullNotAllowed row number)

-- a value, where there is one
abbrev pub some_value : ℕ → ℕ → Option Value → Outcome Value
some_value row number (Some value) = Ok value
some_value row number None = Err (BadValue row number)

-- what a field of a row gives a column
abbrev pub field_value : ℕ → ℕ → Column → List ℕ → Outcome Value
field_value row number column field =
    if is_null_mark field then null_value row number column else some_value row number (value_of column.kind field)
