-- A list of levels hung below the ends of another level.
use Rattle.std.specs.Prelude.{ℕ, ◌+◌, max, Bool, cond, List, [], ◌∷◌}
use Rattle.rx_value.specs.Spans.{is_whole_span}
use Rattle.rx_tree.specs.Tree.{Level}
use Rattle.rx_tree.specs.Tree.Level.{end, item}

-- a level in place of one without items
abbrev pub in_place : Level → Level → Level → Level
in_place d end x = d
in_place d (item s c rest) x = x

-- a level where below each item without a child, so many levels down, hangs the one of the list that stands so far in it
abbrev pub hung : List Level → Level → Level
hung ds end = end
hung [] (item s c rest) = end
hung (d ∷ ds) (item s c rest) = item s (in_place d c (hung ds c)) (hung (d ∷ ds) rest)

-- how many levels stand below one another
abbrev pub depth_of : Level → ℕ
depth_of end = 0
depth_of (item s c rest) = max (1 + depth_of c) (depth_of rest)

-- the levels below one whole item each
abbrev pub chain : List Bool → Level → List Level
chain [] l = []
chain (n ∷ ns) end = []
chain (n ∷ ns) (item s c end) = cond (is_whole_span n s) (c ∷ chain ns c) []
chain (n ∷ ns) (item s c (item t d rest)) = []

-- what hangs below an item over this level, and below all that stands in it
abbrev pub hung_below : List Level → Level → Level
hung_below [] c = end
hung_below (d ∷ ds) c = in_place d c (hung ds c)
