use Rattle.std.proofs.Common.{◌≡◌, ◌≤◌, ◌∷◌, length, true}
use denote.Text.{Utf8}
use denote.Shadow.{shadow}
use Rattle.std.specs.Str.{chars}
use Rattle.rx_like.specs.declared.tokens.Token.TheVariants.{AnyRun}
use Rattle.rx_like.specs.Pattern.{tokens}
use Rattle.rx_like.specs.Walk.{matches}
use Rattle.rx_like.proofs.matching.walk.Given as goal

-- what is left matches where the whole does, and where the whole does further on
abbrev pub invariant-loop-token : goal.invariant-loop-token
invariant-loop-token l =
    shadow (Utf8 l.pattern) × shadow (Utf8 l.text)
    × (matches (tokens l.fn.pattern) (chars l.fn.text) ≡ matches (tokens l.pattern) (chars l.text))
    × (matches (AnyRun ∷ tokens l.fn.pattern) (chars l.fn.text) ≡ true → matches (AnyRun ∷ tokens l.pattern) (chars l.text) ≡ true)
    × (length (tokens l.pattern) ≤ length (tokens l.fn.pattern))
    × (length (chars l.text) ≤ length (chars l.fn.text))

abbrev pub decreases-loop-token : goal.decreases-loop-token
decreases-loop-token l = length (tokens l.pattern)
