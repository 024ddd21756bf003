use Rattle.std.proofs.Common.{◌≡◌, ◌+◌, length}
use Rattle.rx_token.specs.Quotes.{with_front, text_in}
use Rattle.rx_token.proofs.quotes.text_in.Given as goal

abbrev pub invariant-bytes : goal.invariant-bytes
invariant-bytes l = (l.width + length l.rest ≡ length l.bytes) × (with_front l.text l.width (text_in l.quote l.rest) ≡ text_in l.quote l.bytes)

abbrev pub decreases-bytes : goal.decreases-bytes
decreases-bytes l = length l.rest
