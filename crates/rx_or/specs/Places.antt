-- How an item stands to a span without a child that begins, or ends, at an edge.
use Rattle.std.specs.Prelude.{◌≡◌, ℕ, Option, None}
use Rattle.rx_value.specs.declared.order.End.{End}
use Rattle.rx_value.specs.declared.order.Span.{Span}
use Rattle.rx_value.specs.Spans.{IsAtMost, IsBelow}
use Rattle.rx_or.specs.declared.cutting.Place.{Place}
use Rattle.rx_or.specs.declared.cutting.Place.TheVariants.{Apart, Joined, Across, Beyond}

-- to a span that begins at the edge: behind the edge, before it and not joined by the span, without a child and reaching it, or cut by it
abbrev pub IsPlaceBefore : Place → Span → Option ℕ → End → Type 0
IsPlaceBefore Beyond s child e = IsAtMost e s.lo
IsPlaceBefore Apart s child e = IsAtMost s.hi e × (s.hi ≡ e → child ≡ None → ⊥)
IsPlaceBefore Joined s child e = IsBelow s.lo e × IsAtMost e s.hi × (child ≡ None)
IsPlaceBefore Across s child e = IsBelow s.lo e × IsBelow e s.hi × (child ≡ None → ⊥)

-- to a span that ends at the edge: before the edge, behind it and not joined by the span, without a child and reaching it, or cut by it
abbrev pub IsPlaceAfter : Place → Span → Option ℕ → End → Type 0
IsPlaceAfter Beyond s child e = IsAtMost s.hi e
IsPlaceAfter Apart s child e = IsAtMost e s.lo × (e ≡ s.lo → child ≡ None → ⊥)
IsPlaceAfter Joined s child e = IsAtMost s.lo e × IsBelow e s.hi × (child ≡ None)
IsPlaceAfter Across s child e = IsBelow s.lo e × IsBelow e s.hi × (child ≡ None → ⊥)
