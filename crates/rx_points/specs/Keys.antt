-- Lent items by their keys.
use Rattle.std.specs.Prelude.{ℕ, List, [], ◌∷◌, Some}
use Rattle.slab.specs.Slab.{Slab}
use Rattle.rx_value.specs.declared.order.Span.{Span}
use Rattle.rx_level.specs.declared.nodes.Node.{Node}
use Rattle.rx_level.specs.Step.{Lent}
use Rattle.rx_level.specs.Between.{span_at}

-- the spans of the items at these keys
abbrev pub spans_at : Slab Node → List ℕ → List Span
spans_at s [] = []
spans_at s (k ∷ rest) = span_at s k ∷ spans_at s rest

-- the items at these keys are lent
abbrev pub AreLentKeys : Slab Node → List ℕ → Type 0
AreLentKeys s [] = Unit {0}
AreLentKeys s (k ∷ rest) = Lent s [] (Some k) × AreLentKeys s rest
