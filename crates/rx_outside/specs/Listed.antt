-- Calls that are to fail, by their numbers.
use Rattle.std.specs.Prelude.{ℕ, Bool, ◌==◌, List, [], ◌∷◌, Option, None}
use Rattle.std.specs.List.{list_any}

-- the call of this number is listed
abbrev pub is_listed : List ℕ → ℕ → Bool
is_listed failing call = list_any (λ c. c == call) failing

-- a number of bytes, where no call is listed
abbrev pub room_if : List ℕ → Option ℕ → Option ℕ
room_if [] room = room
room_if (call ∷ calls) room = None
