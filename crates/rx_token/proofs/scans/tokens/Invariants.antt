use Rattle.std.proofs.Common.{◌≡◌, ◌+◌, length}
use Rattle.rx_token.proofs.Places.{SoFar}
use Rattle.rx_token.proofs.scans.tokens.Given as goal

abbrev pub invariant-places : goal.invariant-places
invariant-places l = (l.at + length l.rest ≡ length l.text) × SoFar l.text l.list l.at l.rest

abbrev pub decreases-places : goal.decreases-places
decreases-places l = length l.rest
