-- Levels and trees of one item without a child, and the length of the first level.
use Rattle.std.specs.Prelude.{◌&&◌, ℕ, Bool, false}
use Rattle.rx_tree.specs.Tree.{Level, Tree, is_end}
use Rattle.rx_tree.specs.Tree.Level.{end, item}
use Rattle.rx_tree.specs.Tree.Tree.{everything, nothing, items}
use Rattle.rx_tree.specs.Join.{length_of}

-- a level is one item without a child
abbrev pub is_bare : Level → Bool
is_bare end = false
is_bare (item s c rest) = is_end c && is_end rest

-- a tree is one item without a child
abbrev pub is_span : Tree → Bool
is_span everything = false
is_span nothing = false
is_span (items l) = is_bare l

-- how many items the first level of a tree has
abbrev pub first_length : Tree → ℕ
first_length everything = 0
first_length nothing = 0
first_length (items l) = length_of l
