-- Covers of small trees, as the definitions compute them.
use Rattle.std.proofs.Common.{◌≡◌, ℕ, pos, Bool, true, false, List, [], ◌∷◌, map, Some, None, refl}
use Rattle.rx_value.specs.declared.values.Value.{Value}
use Rattle.rx_value.specs.declared.values.Value.TheVariants.{Null, Int}
use Rattle.rx_value.specs.declared.order.End.TheVariants.{Last}
use Rattle.rx_value.specs.declared.order.Span.{Span}
use Rattle.rx_value.specs.declared.ranges.KeyRange.{KeyRange}
use Rattle.rx_value.specs.Order.{below, above}
use Rattle.rx_value.specs.Keys.{point_span}
use Rattle.rx_tree.specs.Tree.{Tree}
use Rattle.rx_tree.specs.Tree.Tree.{everything, nothing}
use Rattle.rx_tree.specs.Points.{point_tree}
use Rattle.rx_tree.specs.Meet.{tree_and}
use Rattle.rx_tree.specs.Union.{tree_or}
use Rattle.rx_cover.specs.Cover.{cover}

-- an integer
abbrev integer : ℕ → Value
integer n = Int (pos n)

-- above n
abbrev past : ℕ → Span
past n = record { lo = above (integer n); hi = Last }

-- from n on
abbrev from : ℕ → Span
from n = record { lo = below (integer n); hi = Last }

-- below n, but not NULL
abbrev under : ℕ → Span
under n = record { lo = above Null; hi = below (integer n) }

-- all but NULL
abbrev some : Span
some = record { lo = above Null; hi = Last }

-- points alone
abbrev at : List Value → KeyRange
at points = record { points = points; last = None }

-- points, and a span of the next part
abbrev within : List Value → Span → KeyRange
within points s = record { points = points; last = Some s }

-- of the parts a, b and c the first and the last can't be NULL
abbrev three : List Bool
three = false ∷ true ∷ false ∷ []

-- a is in one of these spans
abbrev of_a : List Span → Tree
of_a spans = point_tree three 0 spans

-- b is in one of these spans
abbrev of_b : List Span → Tree
of_b spans = point_tree three 1 spans

-- c is in one of these spans
abbrev of_c : List Span → Tree
of_c spans = point_tree three 2 spans

-- these numbers, each as a span
abbrev points : List ℕ → List Span
points ns = map (λ n. point_span (integer n)) ns

-- both hold
abbrev both : Tree → Tree → Tree
both t u = tree_and t u

-- one of them holds
abbrev either : Tree → Tree → Tree
either t u = tree_or three t u

-- the cover where all parts rise
abbrev up : Tree → List KeyRange
up t = cover three (false ∷ false ∷ false ∷ []) t

-- the cover where the first part falls
abbrev down : Tree → List KeyRange
down t = cover three (true ∷ false ∷ false ∷ []) t

-- 1 < a AND b = 2: a span isn't narrowed by what is below it
span_alone : up (both (of_a (past 1 ∷ [])) (of_b (points (2 ∷ [])))) ≡ within [] (past 1) ∷ []
span_alone = refl

-- a = 1 AND b IS NOT NULL
point_and_span : up (both (of_a (points (1 ∷ []))) (of_b (some ∷ []))) ≡ within (integer 1 ∷ []) some ∷ []
point_and_span = refl

-- a = 1 AND b IS NULL AND 3 < c: NULL is a point
null_is_a_point : up (both (of_a (points (1 ∷ []))) (both (of_b (point_span Null ∷ [])) (of_c (past 3 ∷ [])))) ≡ within (integer 1 ∷ Null ∷ []) (past 3) ∷ []
null_is_a_point = refl

-- a = 1 AND c = 3: a whole part below the first says nothing
whole_below : up (both (of_a (points (1 ∷ []))) (of_c (points (3 ∷ [])))) ≡ at (integer 1 ∷ []) ∷ []
whole_below = refl

-- c = 3: the whole first part is said
whole_first : up (of_c (points (3 ∷ []))) ≡ within [] some ∷ []
whole_first = refl

-- a < 5 AND b = 1 OR 5 <= a AND b = 2: touching spans are one, whatever is below them
touching_are_one : up (either (both (of_a (under 5 ∷ [])) (of_b (points (1 ∷ [])))) (both (of_a (from 5 ∷ [])) (of_b (points (2 ∷ []))))) ≡ within [] some ∷ []
touching_are_one = refl

-- a <> 5 OR a = 5 AND b = 1: a point that goes on stands between spans
point_between : up (either (of_a (under 5 ∷ past 5 ∷ [])) (both (of_a (points (5 ∷ []))) (of_b (points (1 ∷ []))))) ≡ within [] (under 5) ∷ at (integer 5 ∷ integer 1 ∷ []) ∷ within [] (past 5) ∷ []
point_between = refl

-- a IN (1, 2) AND b IN (3, 4), the first part falling: that is walked downwards, and the second upwards
falling_first : down (both (of_a (points (1 ∷ 2 ∷ []))) (of_b (points (3 ∷ 4 ∷ [])))) ≡ at (integer 2 ∷ integer 3 ∷ []) ∷ at (integer 2 ∷ integer 4 ∷ []) ∷ at (integer 1 ∷ integer 3 ∷ []) ∷ at (integer 1 ∷ integer 4 ∷ []) ∷ []
falling_first = refl

-- everything is the whole first part
of_everything : down everything ≡ within [] some ∷ []
of_everything = refl

-- nothing has no range
of_nothing : down nothing ≡ []
of_nothing = refl
