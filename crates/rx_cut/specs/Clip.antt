-- The items of a level within a span.
use Rattle.std.specs.Prelude.{◌≡◌, ◌⊎◌}
use Rattle.rx_value.specs.declared.order.Span.{Span}
use Rattle.rx_value.specs.Spans.{IsAtMost}
use Rattle.rx_tree.specs.Tree.{Level}
use Rattle.rx_tree.specs.Tree.Level.{end}
use Rattle.rx_tree.specs.Cuts.{before, after}

-- the items of a level within a span, and of those that it cuts the parts within
abbrev pub clipped : Span → Level → Level
clipped s l = after s.lo (before s.hi l)

-- A span reaches neither of the levels on both sides of an item: there are no items, or it doesn't go beyond the item there.
pub record IsAlone (left right : Level) (item span : Span) : Type 0 where
  pub before : (left ≡ end) ⊎ IsAtMost item.lo span.lo
  pub behind : (right ≡ end) ⊎ IsAtMost span.hi item.hi
