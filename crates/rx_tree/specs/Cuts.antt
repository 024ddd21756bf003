-- The items of a level on either side of an end, and levels whose items are in order.
use Rattle.std.specs.Prelude.{cond}
use Rattle.rx_value.specs.declared.order.End.{End}
use Rattle.rx_value.specs.Order.{is_at_most}
use Rattle.rx_value.specs.Spans.{IsSpan}
use Rattle.rx_tree.specs.Tree.{Level}
use Rattle.rx_tree.specs.Tree.Level.{end, item}
use Rattle.rx_tree.specs.Canonical.{BeginsFrom, Differs}

-- the items that end at an end or before, and of one that goes on there the part before
abbrev pub before : End → Level → Level
before e end = end
before e (item t d rest) = cond (is_at_most t.hi e) (item t d (before e rest)) (cond (is_at_most e t.lo) end (item (record { lo = t.lo; hi = e }) d end))

-- the items that begin at an end or behind, and of one that began before the part behind
abbrev pub after : End → Level → Level
after e end = end
after e (item t d rest) = cond (is_at_most t.hi e) (after e rest) (cond (is_at_most e t.lo) (item t d rest) (item (record { lo = e; hi = t.hi }) d rest))

-- The items of a level rise and are disjoint, and touching neighbours differ in their child.
abbrev pub AreInOrder : Level → Type 0
AreInOrder end = Unit {0}
AreInOrder (item s c rest) = IsSpan s × BeginsFrom s.hi rest × Differs s c rest × AreInOrder rest
