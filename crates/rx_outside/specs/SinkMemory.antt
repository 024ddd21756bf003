-- A sink in memory, whose calls fail exactly where it is listed or no room is left.
use Rattle.std.specs.Prelude.{ℕ, ◌-◌, Bool, ◌||◌, ◌&&◌, ◌==◌, nat_lt, List, ◌++◌, take, min, Option, Some}
use Rattle.rx_outside.specs.Causes.{rise}
use Rattle.rx_outside.specs.Listed.{is_listed, room_if}

-- what is in memory: the text taken, the room left, the greatest take of a call, the numbers of the calls that are to
-- fail, the calls made and those that failed
pub record SinkMemory : Type 0 where
  pub text : List ℕ
  pub left : ℕ
  pub most : ℕ
  pub failing : List ℕ
  pub calls : ℕ
  pub faults : ℕ

-- so many bytes can still be taken
abbrev pub room_of : SinkMemory → Option ℕ
room_of m = room_if m.failing (Some m.left)

-- a call with n bytes fails: it is listed, or there are bytes and no room is left
abbrev pub put_fails : SinkMemory → ℕ → Bool
put_fails m n = is_listed m.failing m.calls || (nat_lt 0 n && (m.left == 0))

-- the bytes that a call takes of n
abbrev pub put_takes : SinkMemory → ℕ → ℕ
put_takes m n = min (min n m.left) m.most

-- a call took the first n bytes of the piece
abbrev pub after_put : ℕ → List ℕ → SinkMemory → SinkMemory
after_put n piece m = record m { text = m.text ++ take n piece; left = m.left - n; calls = rise 1 m.calls }

-- a call failed
abbrev pub after_refusal : SinkMemory → SinkMemory
after_refusal m = record m { calls = rise 1 m.calls; faults = rise 1 m.faults }
