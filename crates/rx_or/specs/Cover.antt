-- A level over which a span without a child is laid.
use Rattle.std.specs.Prelude.{◌≡◌}
use Rattle.rx_value.specs.declared.order.End.{End}
use Rattle.rx_value.specs.declared.order.Span.{Span}
use Rattle.rx_tree.specs.Tree.{Level}
use Rattle.rx_tree.specs.Tree.Level.{end, item}
use Rattle.rx_tree.specs.Weld.{weld, glue}
use Rattle.rx_tree.specs.Join.{join_level}
use Rattle.rx_tree.specs.Cuts.{before, after}

-- A level over which a span without a child is laid: the items before it, the span, and the items behind, welded where they touch.
abbrev pub covered : Span → Level → Level
covered s l = glue (before s.lo l) (weld s end (after s.hi l))

-- Of what stands before the lower end of a span without a child: the items that stay, and where the span begins once those that it joins are taken into it.
pub record IsCutBefore (e : End) (l kept : Level) (lo : End) : Type 0 where
  pub joins : (hi : End) (x : Level) → glue (before e l) (weld (record { lo = e; hi = hi }) end x) ≡ join_level kept (weld (record { lo = lo; hi = hi }) end x)

-- Of what stands behind the upper end of such a span: where the span ends once the item that it joins is taken into it, and the items that stay.
pub record IsCutAfter (e : End) (l kept : Level) (hi : End) : Type 0 where
  pub joins : (lo : End) → weld (record { lo = lo; hi = e }) end (after e l) ≡ item (record { lo = lo; hi = hi }) end kept

-- A level over which a span without a child is laid that touches no item: the items before it, the span, and those behind.
pub record IsLaid (s : Span) (l whole : Level) : Type 0 where
  pub front : Level
  pub back : Level
  pub first : IsCutBefore s.lo l front s.lo
  pub second : IsCutAfter s.hi l back s.hi
  pub is : whole ≡ join_level front (item s end back)
