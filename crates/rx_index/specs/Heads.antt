-- The first parts of keys as numbers, so that keys compare by these first.
use Rattle.std.specs.Prelude.{◌≡◌, ℕ, zero, suc, ◌+◌, ◌-◌, ◌*◌, ◌^◌, ◌<◌, ◌≤◌, ℤ, pos, ◌+ℤ◌, Bool, true, false, List, [], ◌∷◌}
use Rattle.rx_value.specs.declared.values.Value.{Value}
use Rattle.rx_value.specs.declared.values.Value.TheVariants.{Null, Int, Text}
use Rattle.rx_value.specs.declared.shapes.Part.{Part}
use Rattle.rx_value.specs.Keys.{part_value}
use Rattle.rx_index.specs.declared.heads.Shape.{Shape}
use Rattle.rx_index.specs.declared.heads.Shape.TheVariants.{Whole, Short, Front}
use Rattle.rx_index.specs.declared.heads.Field.{Field}

-- so many digits to a base behind a number are a number of 128 bits
abbrev pub HasRoom : ℕ → ℕ → ℕ → Type 0
HasRoom base before digits = (before + 1) * base ^ digits < 2 ^ 128

-- a number, and behind it the first bytes of a text to the base of 256, zeros where it has no more
abbrev pub IsFront : ℕ → ℕ → List ℕ → ℕ → Type 0
IsFront before zero text n = n ≡ before
IsFront before (suc bytes) [] n = IsFront (before * 256) bytes [] n
IsFront before (suc bytes) (b ∷ text) n = (b < 256) × IsFront (before * 256 + b) bytes text n

-- a number, and behind it the bytes of a text of at most so many, from 1 on, to the base of 257, zeros where it has no more
abbrev pub IsShort : ℕ → ℕ → List ℕ → ℕ → Type 0
IsShort before zero [] n = n ≡ before
IsShort before zero (b ∷ text) n = ⊥
IsShort before (suc bytes) [] n = IsShort (before * 257) bytes [] n
IsShort before (suc bytes) (b ∷ text) n = (b < 256) × IsShort (before * 257 + (b + 1)) bytes text n

-- an integer has this number among so many from the least one on, which are numbered from 1
abbrev pub IsWhole : ℤ → ℕ → ℤ → ℕ → Type 0
IsWhole least count n c = (place : ℕ) × (n ≡ least +ℤ pos place) × (place < count) × (c ≡ place + 1)

-- a value has this number by a shape: NULL is 0
abbrev pub IsShaped : Shape → Value → ℕ → Type 0
IsShaped shape Null c = c ≡ 0
IsShaped (Whole least count) (Int n) c = IsWhole least count n c
IsShaped (Front bytes count) (Text text) c = (place : ℕ) × IsFront 0 bytes text place × (place < count) × (c ≡ place + 1)
IsShaped (Short bytes count) (Text text) c = (place : ℕ) × IsShort 0 bytes text place × (place < count) × (c ≡ place + 1)
IsShaped (Whole least count) (Text text) c = ⊥
IsShaped (Front bytes count) (Int n) c = ⊥
IsShaped (Short bytes count) (Int n) c = ⊥

-- how many values a shape numbers besides NULL
abbrev pub count_of : Shape → ℕ
count_of (Whole least count) = count
count_of (Front bytes count) = count
count_of (Short bytes count) = count

-- the number of a value, from the greatest down on a part that falls
abbrev pub turned : Bool → ℕ → ℕ → ℕ
turned false count c = c
turned true count c = count - c

-- the number of what a row has on a part
pub record IsDigit (field : Field) (row : List Value) (d : ℕ) : Type 0 where
  pub number : ℕ
  pub shaped : IsShaped field.shape (part_value field.part row) number
  pub within : number ≤ count_of field.shape
  pub digit_is : d ≡ turned field.part.descending (count_of field.shape) number

-- a number, and behind it the numbers of what a row has on these parts
abbrev pub IsHead : ℕ → List Field → List Value → ℕ → Type 0
IsHead before [] row n = n ≡ before
IsHead before (field ∷ fields) row n = (d : ℕ) × IsDigit field row d × IsHead (before * (count_of field.shape + 1) + d) fields row n

-- how many numbers the first parts of keys have
abbrev pub sizes : List Field → ℕ
sizes [] = 1
sizes (field ∷ fields) = (count_of field.shape + 1) * sizes fields

-- the numbers of what a row has on these parts, behind a number, are a number of 128 bits
abbrev pub HasSpace : ℕ → List Field → Type 0
HasSpace before fields = (before + 1) * sizes fields < 2 ^ 128

-- different values have different numbers
abbrev pub IsExact : Shape → Type 0
IsExact (Whole least count) = Unit {0}
IsExact (Short bytes count) = Unit {0}
IsExact (Front bytes count) = ⊥

-- different keys on these fields have different numbers
abbrev pub AreExact : List Field → Type 0
AreExact [] = Unit {0}
AreExact (field ∷ fields) = IsExact field.shape × AreExact fields

-- what follows a field: others where it tells values apart, else none
abbrev pub Follows : Shape → Type 0 → List Field → Type 0
Follows (Whole least count) others fields = others
Follows (Short bytes count) others fields = others
Follows (Front bytes count) others fields = fields ≡ []

-- fields number the first parts of an index; a text of which the first bytes are numbered is the last
abbrev pub IsFields : List Part → List Field → Type 0
IsFields parts [] = Unit {0}
IsFields [] (field ∷ fields) = ⊥
IsFields (part ∷ parts) (field ∷ fields) = (field.part ≡ part) × Follows field.shape (IsFields parts fields) fields
