-- Trees of intervals as plain data, and their size.
use Rattle.std.specs.Prelude.{◌||◌, ℕ, zero, suc, ◌+◌, Bool, true, false, not, List, [], ◌∷◌}
use Rattle.rx_value.specs.declared.order.Span.{Span}
use Rattle.rx_value.specs.Spans.{is_whole_span}

-- The items of a level in order. An item has a span of its part, the level below it, of the next part, and the items after it.
-- The empty level below an item means that the item has no child, so that all keys go on.
pub data Level : Type 0 where
  end : Level
  item : Span → Level → Level → Level

-- A tree holds everything, or nothing, or has items.
pub data Tree : Type 0 where
  everything : Tree
  nothing : Tree
  items : Level → Tree

-- a level without items
abbrev pub is_end : Level → Bool
is_end end = true
is_end (item s c rest) = false

-- the items of a level and of all levels below it, counted again at each item that leads to them
abbrev pub level_size : Level → ℕ
level_size end = 0
level_size (item s c rest) = 1 + level_size c + level_size rest

-- the items of a tree, those of a child counted again at each item that leads to it
abbrev pub size : Tree → ℕ
size everything = 0
size nothing = 0
size (items l) = level_size l

-- A level of these parts constrains the part k of them where some item of that part isn't whole.
abbrev pub level_constrains : List Bool → Level → ℕ → Bool
level_constrains parts end k = false
level_constrains [] (item s c rest) k = false
level_constrains (n ∷ ns) (item s c rest) zero = not (is_whole_span n s) || level_constrains (n ∷ ns) rest zero
level_constrains (n ∷ ns) (item s c rest) (suc k) = level_constrains ns c k || level_constrains (n ∷ ns) rest (suc k)

-- A tree constrains a part where some item of that part isn't whole.
abbrev pub constrains : List Bool → Tree → ℕ → Bool
constrains parts everything k = false
constrains parts nothing k = false
constrains parts (items l) k = level_constrains parts l k
