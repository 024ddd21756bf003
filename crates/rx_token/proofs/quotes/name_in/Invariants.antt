use Rattle.std.proofs.Common.{◌≡◌, ◌+◌, length}
use Rattle.rx_token.specs.Quotes.{with_front, name_in}
use Rattle.rx_token.proofs.quotes.name_in.Given as goal

abbrev pub invariant-bytes : goal.invariant-bytes
invariant-bytes l = (l.width + length l.rest ≡ length l.bytes) × (with_front l.name l.width (name_in l.rest) ≡ name_in l.bytes)

abbrev pub decreases-bytes : goal.decreases-bytes
decreases-bytes l = length l.rest
