-- Values, ends and spans that are borrowed.
use Rattle.std.specs.Prelude.{List, [], ◌∷◌, ◌++◌, map, Option, Some, None, option_map}
use Rattle.rx_value.specs.declared.values.Value.{Value}
use Rattle.rx_value.specs.declared.values.Value.TheVariants as value
use Rattle.rx_value.specs.declared.order.End.{End}
use Rattle.rx_value.specs.declared.order.End.TheVariants as end
use Rattle.rx_value.specs.declared.order.Span.{Span}
use Rattle.rx_value.specs.declared.precedence.Edge.{Edge}
use Rattle.rx_value.specs.declared.precedence.Edge.TheVariants.{Cut, Last}
use Rattle.rx_value.specs.declared.precedence.Place.{Place}
use Rattle.rx_value.specs.declared.precedence.Rest.{Rest}
use Rattle.rx_value.specs.declared.keys.PartValue.{PartValue}
use Rattle.rx_value.specs.declared.keys.PartValue.TheVariants.{Null, Int, Text}
use Rattle.rx_value.specs.Keys.{point_span, listed_span}

-- the value that is borrowed
abbrev pub borrowed : PartValue → Value
borrowed Null = value.Null
borrowed (Int n) = value.Int n
borrowed (Text text) = value.Text text.now

-- the end that is borrowed
abbrev pub edge_end : Edge → End
edge_end (Cut at side) = end.Cut at.now side
edge_end Last = end.Last

-- the span that is borrowed
abbrev pub place_span : Place → Span
place_span p = record { lo = edge_end p.lo; hi = edge_end p.hi }

-- what a range has from a part on, a point as a span
abbrev pub spans_from : Rest → List Span
spans_from r = map point_span r.points.now ++ listed_span (option_map (λ s. s.now) r.last)

-- the first of spans, and the others
abbrev pub split_span : List Span → Option (Span × List Span)
split_span [] = None
split_span (s ∷ ss) = Some (s, ss)
