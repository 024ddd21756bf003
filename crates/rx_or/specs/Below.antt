-- The union of children below a level, and a level that is all or one span.
use Rattle.std.specs.Prelude.{◌≡◌, Bool, cond, List, [], ◌∷◌}
use Rattle.rx_tree.specs.Tree.{Level}
use Rattle.rx_tree.specs.Tree.Level.{end, item}
use Rattle.rx_tree.specs.Canonical.{ArePlaced}
use Rattle.rx_tree.specs.Union.{either_child, is_all}
use Rattle.rx_or.specs.Cover.{covered}

-- what goes on below either of two children of a level's items, by the parts from that of the level on
abbrev pub union_below : List Bool → Level → Level → Level
union_below [] c d = end
union_below (n ∷ ns) c d = either_child ns c d

-- the third level is what goes on below either of the first two
abbrev pub IsUnionBelow : List Bool → Level → Level → Level → Type 0
IsUnionBelow parts c d made = made ≡ union_below parts c d

-- the items of a child of a level's items are in their places
abbrev pub ArePlacedBelow : List Bool → Level → Type 0
ArePlacedBelow [] l = Unit {0}
ArePlacedBelow (n ∷ ns) l = ArePlaced ns l

-- a level of these parts, without items where it is one whole item without a child
abbrev pub unless_all : List Bool → Level → Level
unless_all [] l = end
unless_all (n ∷ ns) l = cond (is_all n l) end l

-- a level over which the span of the first item of another is laid
abbrev pub covered_by : Level → Level → Level
covered_by end l = l
covered_by (item s c rest) l = covered s l
