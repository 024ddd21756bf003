-- The items of a level by their places.
use Rattle.std.specs.Prelude.{ℕ, zero, suc, Option, Some, None}
use Rattle.rx_value.specs.declared.order.Span.{Span}
use Rattle.rx_tree.specs.Tree.{Level}
use Rattle.rx_tree.specs.Tree.Level.{end, item}

-- an item's span, and the level below it
pub record Entry : Type 0 where
  pub span : Span
  pub below : Level

-- the item of a level at a place, counted from 0
abbrev pub entry_at : ℕ → Level → Option Entry
entry_at i end = None
entry_at zero (item s c rest) = Some (record { span = s; below = c })
entry_at (suc i) (item s c rest) = entry_at i rest
