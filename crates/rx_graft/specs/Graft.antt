-- Levels whose parts come before those of another.
use Rattle.std.specs.Prelude.{◌≡◌, ◌<◌, ℕ, Bool, true, List}
use Rattle.rx_tree.specs.Tree.{Level, level_constrains}
use Rattle.rx_tree.specs.Tree.Level.{end, item}
use Rattle.rx_tree.specs.Meet.{both}

-- each part that the first level constrains comes before each that the second constrains
abbrev pub ComesBefore : List Bool → Level → Level → Type 0
ComesBefore parts a b = (j k : ℕ) → level_constrains parts a j ≡ true → level_constrains parts b k ≡ true → j < k

-- what goes on below an item over a level that has items
abbrev pub below : Level → Level → Level
below end h = h
below (item s c rest) h = both (item s c rest) h

-- a level with what goes on below each of its items over another
abbrev pub grafted : Level → Level → Level
grafted h end = end
grafted h (item s c rest) = item s (below c h) (grafted h rest)

-- the level below the first item
abbrev pub first_child : Level → Level
first_child end = end
first_child (item s c rest) = c
