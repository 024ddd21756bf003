use Rattle.std.proofs.Common.{◌≡◌, ◌+◌, ◌∷◌, length}
use denote.Text.{Utf8}
use denote.Shadow.{shadow}
use Rattle.std.specs.Str.{chars}
use Rattle.rx_like.specs.declared.tokens.Token.TheVariants.{AnyRun}
use Rattle.rx_like.specs.Pattern.{tokens}
use Rattle.rx_like.specs.Walk.{matches}
use Rattle.rx_like.proofs.matching.is_match.Given as goal

-- the whole matches where what is left does behind an any run
abbrev pub invariant-loop-rest : goal.invariant-loop-rest
invariant-loop-rest l =
    shadow (Utf8 l.pattern) × shadow (Utf8 l.text)
    × (matches (tokens l.fn.pattern) (chars l.fn.text) ≡ matches (AnyRun ∷ tokens l.pattern) (chars l.text))

abbrev pub decreases-loop-rest : goal.decreases-loop-rest
decreases-loop-rest l = length (tokens l.pattern) + length (chars l.text)
