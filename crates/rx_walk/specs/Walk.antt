-- What a walk over a level meets, behind the items that it has passed.
use Rattle.std.specs.Prelude.{ℕ, zero, suc, ◌-◌, Bool, true, false, if◌then◌else◌, List, [], ◌∷◌}
use Rattle.std.specs.Ordering.{is_eq}
use Rattle.slab.specs.Slab.{Slab}
use Rattle.rx_value.specs.declared.order.Span.{Span}
use Rattle.rx_value.specs.Order.{end_cmp}
use Rattle.rx_tree.specs.Tree.{Level}
use Rattle.rx_tree.specs.Tree.Level.{end, item}
use Rattle.rx_tree.specs.Join.{length_of}
use Rattle.rx_level.specs.declared.nodes.Node.{Node}
use Rattle.rx_level.specs.Step.{Lent, level_of}
use Rattle.rx_cover.specs.Cover.{Stretch, stretches, in_order}
use Rattle.rx_cover.specs.Cover.Stretch.{deep, full}
use Rattle.rx_walk.specs.declared.stretches.Ends.{Ends}
use Rattle.rx_walk.specs.declared.stretches.Met.{Met}
use Rattle.rx_walk.specs.declared.stretches.Met.TheVariants.{Deep, Full}

-- the first items of a level
abbrev pub take_level : ℕ → Level → Level
take_level zero l = end
take_level (suc k) end = end
take_level (suc k) (item s c rest) = item s c (take_level k rest)

-- the items of a level but the first ones
abbrev pub drop_level : ℕ → Level → Level
drop_level zero l = l
drop_level (suc k) end = end
drop_level (suc k) (item s c rest) = drop_level k rest

-- the place of the item that a walk meets behind those that it has passed
abbrev pub place_ahead : Bool → ℕ → ℕ → ℕ
place_ahead true passed count = count - 1 - passed
place_ahead false passed count = passed

-- what a walk hasn't passed: the items behind the passed ones, and where the part falls those before them
abbrev pub level_ahead : Bool → ℕ → Level → Level
level_ahead true passed l = take_level (length_of l - passed) l
level_ahead false passed l = drop_level passed l

-- the stretches that a walk hasn't passed, in its order
abbrev pub ahead : Bool → ℕ → Level → List Stretch
ahead falls passed l = in_order falls (stretches (level_ahead falls passed l))

-- the second of two spans touches the first in a walk's order
abbrev pub touches_in : Bool → Span → Span → Bool
touches_in false s t = is_eq (end_cmp s.hi t.lo)
touches_in true s t = is_eq (end_cmp t.hi s.lo)

-- two spans that touch in a walk's order, as one
abbrev pub join_in : Bool → Span → Span → Span
join_in false s t = record { lo = s.lo; hi = t.hi }
join_in true s t = record { lo = t.lo; hi = s.hi }

-- a full span met before others: those that it touches are one with it
abbrev pub meet_full : Bool → Span → List Stretch → List Stretch
meet_full falls s (full t ∷ rest) = if touches_in falls s t then full (join_in falls s t) ∷ rest else full s ∷ full t ∷ rest
meet_full falls s rest = full s ∷ rest

-- a stretch met before others
abbrev pub meet_stretch : Bool → Stretch → List Stretch → List Stretch
meet_stretch falls (deep v c) rest = deep v c ∷ rest
meet_stretch falls (full s) rest = meet_full falls s rest

-- two ends that are borrowed, as a span
abbrev pub span_of_ends : Ends → Span
span_of_ends e = record { lo = e.lo.now; hi = e.hi.now }

-- what is met, by the store of levels
abbrev pub stretch_met : Slab Node → Met → Stretch
stretch_met s (Deep point child) = deep point.now (level_of s child)
stretch_met s (Full ends) = full (span_of_ends ends)

-- the level behind a point is lent
abbrev pub IsMetLent : Slab Node → Met → Type 0
IsMetLent s (Deep point child) = Lent s [] child
IsMetLent s (Full ends) = Unit {0}
