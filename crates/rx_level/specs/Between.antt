-- The spans of lent items, and spans from the lower end of one item to the upper end of another.
use Rattle.std.specs.Prelude.{ℕ, List, [], ◌∷◌, Some}
use Rattle.slab.specs.Slab.{Slab}
use Rattle.rx_value.specs.declared.order.Span.{Span}
use Rattle.rx_value.specs.declared.order.End.TheVariants.{Last}
use Rattle.rx_level.specs.declared.nodes.Node.{Node}
use Rattle.rx_level.specs.declared.building.Bounds.{Bounds}
use Rattle.rx_level.specs.Tree.{Tree}
use Rattle.rx_level.specs.Tree.Tree.{none, some}
use Rattle.rx_level.specs.Store.{tree_of}
use Rattle.rx_level.specs.Step.{Lent}

-- the span of a tree's topmost item
abbrev pub span_in : Tree → Span
span_in none = record { lo = Last; hi = Last }
span_in (some k s c l r) = s

-- the span of the item at a key
abbrev pub span_at : Slab Node → ℕ → Span
span_at s k = span_in (tree_of s (Some k))

-- from where one item begins to where another ends
abbrev pub span_between : Slab Node → Bounds → Span
span_between s b = record { lo = (span_at s b.first).lo; hi = (span_at s b.last).hi }

abbrev pub spans_between : Slab Node → List Bounds → List Span
spans_between s [] = []
spans_between s (b ∷ rest) = span_between s b ∷ spans_between s rest

-- the items that spans begin and end with are lent
abbrev pub AreLent : Slab Node → List Bounds → Type 0
AreLent s [] = Unit {0}
AreLent s (b ∷ rest) = Lent s [] (Some b.first) × Lent s [] (Some b.last) × AreLent s rest
