use Rattle.std.proofs.Common.{◌≡◌, ◌+◌, length}
use Rattle.rx_token.specs.Blank.{further, close_in}
use Rattle.rx_token.proofs.blanks.close_in.Given as goal

abbrev pub invariant-loop-rest : goal.invariant-loop-rest
invariant-loop-rest l = (l.width + length l.rest ≡ length l.bytes) × (further l.width (close_in l.rest) ≡ close_in l.bytes)

abbrev pub decreases-loop-rest : goal.decreases-loop-rest
decreases-loop-rest l = length l.rest
