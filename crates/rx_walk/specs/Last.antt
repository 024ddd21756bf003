-- What a borrowed range says of the part behind its points.
use Rattle.std.specs.Prelude.{Option, Some, None}
use Rattle.rx_value.specs.declared.order.Span.{Span}
use Rattle.rx_walk.specs.declared.range_refs.Last.{Last}
use Rattle.rx_walk.specs.declared.range_refs.Last.TheVariants.{Nothing, Within, Whole}
use Rattle.rx_walk.specs.Walk.{span_of_ends}

-- the span, where there is one
abbrev pub span_in : Last → Option Span
span_in Nothing = None
span_in (Within ends) = Some (span_of_ends ends)
span_in (Whole span) = Some span
