-- Small trees, as the definitions compute them.
use Rattle.std.proofs.Common.{◌≡◌, ℕ, pos, Bool, false, List, [], ◌∷◌, refl}
use Rattle.rx_value.specs.declared.values.Value.TheVariants.{Null, Int}
use Rattle.rx_value.specs.declared.order.End.TheVariants.{Last}
use Rattle.rx_value.specs.declared.order.Span.{Span}
use Rattle.rx_value.specs.Order.{below, above}
use Rattle.rx_tree.specs.Tree.{Tree, size}
use Rattle.rx_tree.specs.Tree.Level.{end, item}
use Rattle.rx_tree.specs.Tree.Tree.{everything, nothing, items}
use Rattle.rx_tree.specs.Points.{point_tree}
use Rattle.rx_tree.specs.Meet.{tree_and}
use Rattle.rx_tree.specs.Union.{tree_or}

-- the point n
abbrev point : ℕ → Span
point n = record { lo = below (Int (pos n)); hi = above (Int (pos n)) }

-- from n on
abbrev from : ℕ → Span
from n = record { lo = below (Int (pos n)); hi = Last }

-- above n
abbrev past : ℕ → Span
past n = record { lo = above (Int (pos n)); hi = Last }

-- below n, but not NULL
abbrev under : ℕ → Span
under n = record { lo = above Null; hi = below (Int (pos n)) }

-- two parts that may not be NULL
abbrev two : List Bool
two = false ∷ false ∷ []

abbrev of_first : Tree
of_first = point_tree two 0 (point 1 ∷ point 2 ∷ point 3 ∷ [])

abbrev of_second : Tree
of_second = point_tree two 1 (point 1 ∷ point 2 ∷ point 3 ∷ point 4 ∷ [])

-- three points of the first part
three_points : size of_first ≡ 3
three_points = refl

-- four points of the second part: one whole item and its four
four_points_below : size of_second ≡ 5
four_points_below = refl

-- their common part: each of the three over its own copy of the four
points_of_both : size (tree_and of_first of_second) ≡ 15
points_of_both = refl

-- a point and all above it are one item
point_and_what_follows : tree_or two (point_tree two 0 (point 1 ∷ [])) (point_tree two 0 (past 1 ∷ [])) ≡ items (item (from 1) end end)
point_and_what_follows = refl

-- all below a cut and all from it on are everything
halves : tree_or two (point_tree two 0 (under 5 ∷ [])) (point_tree two 0 (from 5 ∷ [])) ≡ everything
halves = refl

-- points of the same part have those in common that both list
one_in_common : tree_and (point_tree two 0 (point 1 ∷ point 2 ∷ [])) (point_tree two 0 (point 2 ∷ point 3 ∷ [])) ≡ items (item (point 2) end end)
one_in_common = refl

-- different points have nothing in common
none_in_common : tree_and (point_tree two 0 (point 1 ∷ [])) (point_tree two 0 (point 2 ∷ [])) ≡ nothing
none_in_common = refl

-- the same point over two points is one item with a child of two
same_point : tree_or two (tree_and (point_tree two 0 (point 1 ∷ [])) (point_tree two 1 (point 1 ∷ []))) (tree_and (point_tree two 0 (point 1 ∷ [])) (point_tree two 1 (point 2 ∷ []))) ≡ items (item (point 1) (item (point 1) end (item (point 2) end end)) end)
same_point = refl

-- a point over a point, or a point of the second part: that alone below and above the first point, and both at it
three_items : size (tree_or two (tree_and (point_tree two 0 (point 1 ∷ [])) (point_tree two 1 (point 2 ∷ []))) (point_tree two 1 (point 3 ∷ []))) ≡ 7
three_items = refl
