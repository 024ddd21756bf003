-- Lists of spans of a part: rising ones, what lists cover together, and what they leave.
use Rattle.std.specs.Prelude.{◌≡◌, ◌||◌, Bool, if◌then◌else◌, List, [], ◌∷◌}
use Rattle.rx_value.specs.declared.order.End.{End}
use Rattle.rx_value.specs.declared.order.End.TheVariants.{Last}
use Rattle.rx_value.specs.declared.order.Span.{Span}
use Rattle.rx_value.specs.Order.{is_at_most}
use Rattle.rx_value.specs.Spans.{IsAtMost, IsSpan}
use Rattle.rx_tree.specs.Points.{AreApart, is_inside_any}

-- each of these spans begins where the one before it does, or later, and the first at this end or later
abbrev pub AreRising : End → List Span → Type 0
AreRising e [] = Unit {0}
AreRising e (s ∷ rest) = IsAtMost e s.lo × IsSpan s × AreRising s.lo rest

-- spans that rise and don't touch, the first of which begins at this end or later
abbrev pub AreApartFrom : End → List Span → Type 0
AreApartFrom e [] = Unit {0}
AreApartFrom e (s ∷ rest) = IsAtMost e s.lo × IsSpan s × AreApart s.hi rest

-- a position is in a span of one of two lists
abbrev pub is_inside_either : List Span → List Span → End → Bool
is_inside_either a b p = is_inside_any a p || is_inside_any b p

-- Spans that don't touch, begin no lower than two lists of rising spans, and have exactly the positions of both.
pub record AreUnited (a b united : List Span) : Type 0 where
  pub apart : (e : End) → AreRising e a → AreRising e b → AreApartFrom e united
  pub positions : (p : End) → is_inside_any united p ≡ is_inside_either a b p

-- what lies from an end on before, between and behind spans that are apart
abbrev pub gaps_from : End → List Span → List Span
gaps_from e [] = if is_at_most Last e then [] else record { lo = e; hi = Last } ∷ []
gaps_from e (s ∷ rest) = record { lo = e; hi = s.lo } ∷ gaps_from s.hi rest
