use Rattle.std.proofs.Common.{◌≡◌, ℕ, ◌+◌, length}
use Rattle.rx_token.specs.Blank.{Blanks}
use Rattle.rx_token.proofs.blanks.gap_width.Given as goal

abbrev pub invariant-loop-rest : goal.invariant-loop-rest
invariant-loop-rest l = (l.width + length l.rest ≡ length l.bytes) × ((n : ℕ) → Blanks l.rest n → Blanks l.bytes (l.width + n))

abbrev pub decreases-loop-rest : goal.decreases-loop-rest
decreases-loop-rest l = length l.rest
