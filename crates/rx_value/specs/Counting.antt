-- Counts that are kept in 64 bits, and stay at their last value.
use Rattle.std.specs.Prelude.{ℕ, ◌+◌, ◌-◌, ◌^◌, ◌≤◌, min, max}

-- a count after n more
abbrev pub rise : ℕ → ℕ → ℕ
rise n count = max count (min (count + n) (2 ^ 64 - 1))

-- a count rose, or stands at its last value
abbrev pub Rose : ℕ → ℕ → Type 0
Rose before now = min (before + 1) (2 ^ 64 - 1) ≤ now
