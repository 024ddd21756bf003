-- Buffers that are filled with bytes of a file.
use Rattle.std.specs.Prelude.{◌≡◌, ℕ, ◌-◌, ◌<◌, ◌≤◌, List, ◌++◌, length, take, drop, min, Option, Some, None}

-- The first n bytes of the buffer are those of the contents, where these are told.
abbrev pub IsFrontOf : Option (List ℕ) → List ℕ → ℕ → Type 0
IsFrontOf None buffer n = Unit {0}
IsFrontOf (Some bytes) buffer n = take n buffer ≡ take n bytes

-- The contents, where they are told, have no byte from this place on.
abbrev pub EndsBy : Option (List ℕ) → ℕ → Type 0
EndsBy None at = Unit {0}
EndsBy (Some bytes) at = length bytes ≤ at

-- The first n bytes of the buffer are those of the contents, up to the buffer's end or theirs.
abbrev pub FillsFront : Option (List ℕ) → List ℕ → ℕ → Type 0
FillsFront told buffer n = IsFrontOf told buffer n × (n < length buffer → EndsBy told n)

-- The buffer begins with n bytes from a place on, as many as there are and as it has room for, and keeps the rest.
pub record CopiesPart (bytes : List ℕ) (at : ℕ) (old new : List ℕ) (n : ℕ) : Type 0 where
  pub count : n ≡ min (length bytes - at) (length old)
  pub copied : new ≡ take n (drop at bytes) ++ drop n old
