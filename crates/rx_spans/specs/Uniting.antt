-- One step through two lists of rising spans, and what comes of all steps.
use Rattle.std.specs.Prelude.{◌≡◌, ◌<◌, ◌+◌, ◌||◌, Bool, true, false, cond, List, [], ◌∷◌, ◌++◌, length}
use Rattle.rx_value.specs.declared.order.End.{End}
use Rattle.rx_value.specs.declared.order.Span.{Span}
use Rattle.rx_value.specs.Order.{is_at_most}
use Rattle.rx_value.specs.Spans.{IsAtMost, IsBelow, IsSpan, is_inside}
use Rattle.rx_tree.specs.Points.{AreApart, is_inside_any}
use Rattle.rx_spans.specs.Spans.{AreRising, is_inside_either}

-- A span that begins at an end or later, and two lists that begin no lower.
pub record IsLowest (e : End) (s : Span) (c d : List Span) : Type 0 where
  pub from : IsAtMost e s.lo
  pub span : IsSpan s
  pub first : AreRising s.lo c
  pub second : AreRising s.lo d

-- The lowest span of two lists of rising spans, and what they have besides.
pub record IsNext (a b : List Span) (s : Span) (c d : List Span) : Type 0 where
  pub lowest : (e : End) → AreRising e a → AreRising e b → IsLowest e s c d
  pub positions : (p : End) → is_inside_either a b p ≡ (is_inside s p || is_inside_either c d p)
  pub fewer : length c + length d < length a + length b

-- A span taken behind the last one: where the two touch, the last one reaches as far as it; else the last one stands behind the others.
abbrev pub IsTaken : Bool → Span → Span → Span → List Span → List Span → Type 0
IsTaken true last next s before after = (s ≡ record { lo = last.lo; hi = cond (is_at_most next.hi last.hi) last.hi next.hi }) × (after ≡ before)
IsTaken false last next s before after = (s ≡ next) × (after ≡ before ++ last ∷ [])

-- A span and two lists behind others, as spans that don't touch, of which the first begins where the span does.
pub record IsClosed (s : Span) (a b before after : List Span) : Type 0 where
  pub hi : End
  pub more : List Span
  pub is : after ≡ before ++ record { lo = s.lo; hi = hi } ∷ more
  pub span : IsBelow s.lo hi
  pub apart : AreApart hi more
  pub positions : (p : End) → is_inside_any (record { lo = s.lo; hi = hi } ∷ more) p ≡ (is_inside s p || is_inside_either a b p)
