-- Levels put together so that touching neighbours with the same child are one item.
use Rattle.std.specs.Prelude.{◌&&◌, Bool, true, false, cond}
use Rattle.std.specs.declared.cmp.Ordering.TheVariants.{Equal}
use Rattle.rx_value.specs.declared.order.End.{End}
use Rattle.rx_value.specs.declared.order.Span.{Span}
use Rattle.rx_value.specs.Order.{end_cmp}
use Rattle.rx_value.specs.Spans.{IsAtMost}
use Rattle.rx_tree.specs.Tree.{Level}
use Rattle.rx_tree.specs.Tree.Level.{end, item}

-- two ends compare equal
abbrev pub is_same_end : End → End → Bool
is_same_end a b = elim (end_cmp a b) [ Equal ↦ true | _ ↦ false ]

-- the first span ends where the second begins
abbrev pub is_touching : Span → Span → Bool
is_touching s t = is_same_end s.hi t.lo

-- two levels have the same items
abbrev pub is_same_level : Level → Level → Bool
is_same_level end end = true
is_same_level end (item t d more) = false
is_same_level (item s c rest) end = false
is_same_level (item s c rest) (item t d more) = is_same_end s.lo t.lo && (is_same_end s.hi t.hi && (is_same_level c d && is_same_level rest more))

-- from where the first span begins to where the second ends
abbrev pub span_over : Span → Span → Span
span_over s t = record { lo = s.lo; hi = t.hi }

-- an item before others: one with the first of them, where that touches it and has the same child
abbrev pub weld : Span → Level → Level → Level
weld s c end = item s c end
weld s c (item t d rest) = cond (is_touching s t && is_same_level c d) (item (span_over s t) c rest) (item s c (item t d rest))

-- the items of one level before those of another, welded where they meet
abbrev pub glue : Level → Level → Level
glue end b = b
glue (item s c rest) b = weld s c (glue rest b)

-- each of these items ends at this end or before
abbrev pub EndsBy : End → Level → Type 0
EndsBy e end = Unit {0}
EndsBy e (item s c rest) = IsAtMost s.hi e × EndsBy e rest
