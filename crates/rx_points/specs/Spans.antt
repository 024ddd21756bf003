-- Levels of items without children, the spans of their items, and what two lists of spans cover together.
use Rattle.std.specs.Prelude.{◌≡◌, ◌<◌, ◌||◌, Bool, List, [], ◌∷◌}
use Rattle.rx_value.specs.declared.order.End.{End}
use Rattle.rx_value.specs.declared.order.Span.{Span}
use Rattle.rx_value.specs.Spans.{IsAtMost, IsSpan}
use Rattle.rx_tree.specs.Tree.{Level}
use Rattle.rx_tree.specs.Tree.Level.{end, item}
use Rattle.rx_tree.specs.Join.{length_of}
use Rattle.rx_tree.specs.Points.{AreApart, is_inside_any}

-- the spans of a level's items in order
abbrev pub spans_of : Level → List Span
spans_of end = []
spans_of (item s c rest) = s ∷ spans_of rest

-- no item of a level has a child
abbrev pub HaveNoChild : Level → Type 0
HaveNoChild end = Unit {0}
HaveNoChild (item s c rest) = (c ≡ end) × HaveNoChild rest

-- two levels of items without children, of which the first has some
pub record ArePoints (a b : Level) : Type 0 where
  pub some : 0 < length_of a
  pub first : HaveNoChild a
  pub second : HaveNoChild b

-- each of these spans begins where the one before it does, or later, and the first at this end or later
abbrev pub AreRising : End → List Span → Type 0
AreRising e [] = Unit {0}
AreRising e (s ∷ rest) = IsAtMost e s.lo × IsSpan s × AreRising s.lo rest

-- spans that rise and don't touch, the first of which begins at this end or later
abbrev pub AreApartFrom : End → List Span → Type 0
AreApartFrom e [] = Unit {0}
AreApartFrom e (s ∷ rest) = IsAtMost e s.lo × IsSpan s × AreApart s.hi rest

-- a position is in a span of one of two lists
abbrev pub is_inside_either : List Span → List Span → End → Bool
is_inside_either a b p = is_inside_any a p || is_inside_any b p

-- Spans that don't touch, begin no lower than two lists of rising spans, and have exactly the positions of both.
pub record AreUnited (a b united : List Span) : Type 0 where
  pub apart : (e : End) → AreRising e a → AreRising e b → AreApartFrom e united
  pub positions : (p : End) → is_inside_any united p ≡ is_inside_either a b p
