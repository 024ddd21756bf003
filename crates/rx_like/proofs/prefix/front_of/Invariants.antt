use Rattle.std.proofs.Common.{◌≡◌, ◌++◌, length}
use denote.Text.{Utf8}
use denote.Shadow.{shadow}
use Rattle.std.specs.Prelude.{encode_utf8_all}
use Rattle.std.specs.String.{string_bytes}
use Rattle.rx_like.specs.Pattern.{tokens, literal_front, has_no_wildcard}
use Rattle.rx_like.proofs.prefix.front_of.Given as goal

-- the front so far, and what the rest adds
abbrev pub invariant-loop-token : goal.invariant-loop-token
invariant-loop-token l =
    shadow (Utf8 l.rest)
    × (string_bytes l.front ++ encode_utf8_all (literal_front (tokens l.rest)) ≡ encode_utf8_all (literal_front (tokens l.pattern)))
    × (has_no_wildcard (tokens l.rest) ≡ has_no_wildcard (tokens l.pattern))

abbrev pub decreases-loop-token : goal.decreases-loop-token
decreases-loop-token l = length (tokens l.rest)
