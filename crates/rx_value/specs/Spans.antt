-- Spans as sets of positions. A position is a cut; it is in a span where it isn't below its lower end, and is below its upper one.
use Rattle.std.specs.Prelude.{◌≡◌, ◌&&◌, Bool, true, false, not, Option, Some, None}
use Rattle.std.specs.declared.cmp.Ordering.TheVariants.{Less, Greater}
use Rattle.rx_value.specs.declared.values.Value.TheVariants.{Null}
use Rattle.rx_value.specs.declared.order.End.{End}
use Rattle.rx_value.specs.declared.order.End.TheVariants.{Last}
use Rattle.rx_value.specs.declared.order.Span.{Span}
use Rattle.rx_value.specs.Order.{end_cmp, is_at_most, below, above}

-- the first end isn't above the second
abbrev pub IsAtMost : End → End → Type 0
IsAtMost a b = is_at_most a b ≡ true

-- the first end is below the second
abbrev pub IsBelow : End → End → Type 0
IsBelow a b = is_at_most b a ≡ false

-- A span's lower end is below its upper one.
abbrev pub IsSpan : Span → Type 0
IsSpan s = IsBelow s.lo s.hi

-- the position is in the span
abbrev pub is_inside : Span → End → Bool
is_inside s p = is_at_most s.lo p && not (is_at_most s.hi p)

-- the position is in the span, where there is one
abbrev pub is_inside_part : Option Span → End → Bool
is_inside_part None p = false
is_inside_part (Some s) p = is_inside s p

-- there is none, or a span
abbrev pub IsSpanPart : Option Span → Type 0
IsSpanPart None = Unit {0}
IsSpanPart (Some s) = IsSpan s

-- A part of two spans that has exactly the positions of both, as one span where there are any.
pub record IsCommon (s t : Span) (part : Option Span) : Type 0 where
  pub positions : (p : End) → is_inside_part part p ≡ (is_inside s p && is_inside t p)
  pub span : IsSpanPart part

-- the first position of a part: the cut below NULL where the part may be NULL, else the cut above it
abbrev pub first_end : Bool → End
first_end true = below Null
first_end false = above Null

-- the whole of a part as one span
abbrev pub whole_span : Bool → Span
whole_span nullable = record { lo = first_end nullable; hi = Last }

-- a span has all positions of its part
abbrev pub is_whole_span : Bool → Span → Bool
is_whole_span nullable s = is_at_most s.lo (first_end nullable) && is_at_most Last s.hi

-- the one of two ends that isn't below the other
abbrev pub later : End → End → End
later a b = elim (end_cmp a b) [ Less ↦ b | _ ↦ a ]

-- the one of two ends that isn't above the other
abbrev pub earlier : End → End → End
earlier a b = elim (end_cmp a b) [ Greater ↦ b | _ ↦ a ]

-- the span of two ends, where the first is below the second
abbrev pub span_of : End → End → Option Span
span_of lo hi = elim (end_cmp lo hi) [ Less ↦ Some (record { lo = lo; hi = hi }) | _ ↦ None ]

-- the common part of two spans, from the later of the lower ends to the earlier of the upper ones
abbrev pub meet_span : Span → Span → Option Span
meet_span s t = span_of (later s.lo t.lo) (earlier s.hi t.hi)
