-- The cover of a tree: the ranges that a walk over it gives.
use Rattle.std.specs.Prelude.{Bool, true, false, ◌&&◌, if◌then◌else◌, List, [], ◌∷◌, map, reverse, flat_map, Option, Some, None}
use Rattle.std.specs.Ordering.{is_eq}
use Rattle.rx_value.specs.declared.values.Value.{Value}
use Rattle.rx_value.specs.declared.order.Side.TheVariants.{Below, Above}
use Rattle.rx_value.specs.declared.order.End.{End}
use Rattle.rx_value.specs.declared.order.End.TheVariants.{Cut}
use Rattle.rx_value.specs.declared.order.Span.{Span}
use Rattle.rx_value.specs.declared.ranges.KeyRange.{KeyRange}
use Rattle.rx_value.specs.Order.{value_cmp, end_cmp}
use Rattle.rx_value.specs.Spans.{is_whole_span, whole_span}
use Rattle.rx_value.specs.Keys.{is_range_before}
use Rattle.rx_tree.specs.Tree.{Level, Tree}
use Rattle.rx_tree.specs.Tree.Level.{end, item}
use Rattle.rx_tree.specs.Tree.Tree.{everything, nothing, items}

-- the value that lies alone between two ends, where one does
abbrev pub value_between : End → End → Option Value
value_between (Cut v Below) (Cut w Above) = if is_eq (value_cmp v w) then Some v else None
value_between _ _ = None

-- the value of a span that is one point
abbrev pub point_of : Span → Option Value
point_of s = value_between s.lo s.hi

-- What a walk meets on a level: a point that goes on with a level of the next part, or a span that is full.
pub data Stretch : Type 0 where
  deep : Value → Level → Stretch
  full : Span → Stretch

-- a point goes on with its child, and every other item is full, whatever its child says
abbrev pub stretch_of : Span → Level → Stretch
stretch_of s end = full s
stretch_of s (item t d rest) = elim (point_of s) [ Some v ↦ deep v (item t d rest) | None ↦ full s ]

-- a full span before others: touching ones are one
abbrev pub put_full : Span → List Stretch → List Stretch
put_full s (full t ∷ rest) = if is_eq (end_cmp s.hi t.lo) then full (record { lo = s.lo; hi = t.hi }) ∷ rest else full s ∷ full t ∷ rest
put_full s rest = full s ∷ rest

-- a stretch before others
abbrev pub put_stretch : Stretch → List Stretch → List Stretch
put_stretch (deep v c) rest = deep v c ∷ rest
put_stretch (full s) rest = put_full s rest

-- the stretches of a level, by rising position
abbrev pub stretches : Level → List Stretch
stretches end = []
stretches (item s c rest) = put_stretch (stretch_of s c) (stretches rest)

-- in the order of a part: turned round where it falls
abbrev pub in_order : Bool → List Stretch → List Stretch
in_order true list = reverse list
in_order false list = list

-- a range that goes on behind a point
abbrev pub behind_point : Value → KeyRange → KeyRange
behind_point v r = record { points = v ∷ r.points; last = r.last }

-- The range of a full span: its point, where it is one. What is a whole part below the first says nothing.
abbrev pub full_range : Bool → Bool → Span → KeyRange
full_range first nullable s =
    elim (point_of s) [
      | Some v ↦ record { points = v ∷ []; last = None }
      | None ↦ elim first [
        | true ↦ record { points = []; last = Some s }
        | false ↦ record { points = []; last = if is_whole_span nullable s then None else Some s }
      ]
    ]

-- the ranges of a stretch; the function gives those of a level of the next part
abbrev pub stretch_ranges : (Level → List KeyRange) → Bool → Bool → Stretch → List KeyRange
stretch_ranges below first nullable (deep v c) = map (behind_point v) (below c)
stretch_ranges below first nullable (full s) = full_range first nullable s ∷ []

-- The ranges of a level, from the lowest up on a rising part and from the highest down on a falling one. The lists have a member for each part
-- from that of the level on: whether it may be NULL, and whether it falls. The test tells whether it is the first part of the index.
abbrev pub level_cover : Bool → List Bool → List Bool → Level → List KeyRange
level_cover first (n ∷ ns) (f ∷ fs) l = flat_map (stretch_ranges (level_cover false ns fs) first n) (in_order f (stretches l))
level_cover first _ _ l = []

-- The cover of a tree: everything is the whole first part as one span.
abbrev pub cover : List Bool → List Bool → Tree → List KeyRange
cover [] falling t = []
cover (n ∷ ns) falling everything = record { points = []; last = Some (whole_span n) } ∷ []
cover (n ∷ ns) falling nothing = []
cover (n ∷ ns) falling (items l) = level_cover true (n ∷ ns) falling l

-- ranges rise and are disjoint: each is before the next
abbrev pub are_rising : List Bool → List KeyRange → Bool
are_rising falling (a ∷ b ∷ rest) = is_range_before falling a b && are_rising falling (b ∷ rest)
are_rising falling _ = true
