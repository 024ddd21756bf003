-- What a sink took.
use Rattle.std.specs.Prelude.{◌≡◌, ℕ, ◌+◌, ◌<◌, ◌≤◌, List, ◌++◌, length, take, Option, Some, None}
use Rattle.std.specs.Option.{option_map}

-- The text, where it is told, goes on by these bytes, and whether it is told stays.
abbrev pub Takes : Option (List ℕ) → Option (List ℕ) → List ℕ → Type 0
Takes before after bytes = after ≡ option_map (λ t. t ++ bytes) before

-- the first list is a front of the second
abbrev pub IsFront : List ℕ → List ℕ → Type 0
IsFront front whole = (rest : List ℕ) × (whole ≡ front ++ rest)

-- The room, where it is a number, falls by n; where it is none, it stays so.
abbrev pub LeavesRoom : Option ℕ → Option ℕ → ℕ → Type 0
LeavesRoom None after n = after ≡ None
LeavesRoom (Some r) after n = (s : ℕ) × (after ≡ Some s) × (s + n ≡ r)

-- The sink took the first n bytes of the piece, and at least one of a piece that isn't empty.
pub record TakesSome (before after : Option (List ℕ)) (piece : List ℕ) (n : ℕ) : Type 0 where
  pub within : n ≤ length piece
  pub some : 0 < length piece → 0 < n
  pub text : Takes before after (take n piece)

-- Only a front of the piece was taken, and not all of it.
pub record TakesFront (text_before text_after : Option (List ℕ)) (room_before room_after : Option ℕ) (piece : List ℕ) : Type 0 where
  pub front : List ℕ
  pub is_front : IsFront front piece
  pub short : length front < length piece
  pub text : Takes text_before text_after front
  pub room : LeavesRoom room_before room_after (length front)
