-- Levels one after another, and how many items they have.
use Rattle.std.specs.Prelude.{ℕ, ◌+◌}
use Rattle.rx_tree.specs.Tree.{Level}
use Rattle.rx_tree.specs.Tree.Level.{end, item}

-- the items of one level, then those of the other
abbrev pub join_level : Level → Level → Level
join_level end b = b
join_level (item s c rest) b = item s c (join_level rest b)

-- how many items a level has
abbrev pub length_of : Level → ℕ
length_of end = 0
length_of (item s c rest) = 1 + length_of rest
