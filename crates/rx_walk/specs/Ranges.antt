-- The ranges that a walk still has to give.
use Rattle.std.specs.Prelude.{ℕ, suc, Bool, true, false, List, [], ◌∷◌, ◌++◌, map, Some, slice_index}
use Rattle.std.specs.List.{flat_map}
use Rattle.rx_value.specs.declared.values.Value.{Value}
use Rattle.rx_value.specs.declared.ranges.KeyRange.{KeyRange}
use Rattle.rx_value.specs.Spans.{whole_span}
use Rattle.rx_tree.specs.Tree.{Level}
use Rattle.rx_cover.specs.Cover.{Stretch, behind_point, full_range, stretch_ranges, level_cover}
use Rattle.rx_cover.specs.Cover.Stretch.{deep, full}
use Rattle.rx_graph.specs.declared.handles.Root.{Root}
use Rattle.rx_graph.specs.declared.handles.Root.TheVariants.{Everything, Nothing, Items}
use Rattle.rx_walk.specs.Walk.{ahead}

-- a range that goes on behind points
abbrev pub behind_points : List Value → KeyRange → KeyRange
behind_points vs r = record { points = vs ++ r.points; last = r.last }

-- no part comes before
abbrev pub is_first : List Value → Bool
is_first [] = true
is_first (v ∷ vs) = false

-- The ranges of stretches, where a walk is on its way below the first one, if that is a point: the first function gives what is left there,
-- the second one all ranges of a level of the next part.
abbrev pub rest_met : (Level → List KeyRange) → (Level → List KeyRange) → Bool → Bool → List Stretch → List KeyRange
rest_met left below first n [] = []
rest_met left below first n (deep v c ∷ more) = map (behind_point v) (left c) ++ flat_map (stretch_ranges below first n) more
rest_met left below first n (full s ∷ more) = full_range first n s ∷ flat_map (stretch_ranges below first n) more

-- The ranges of a level that are left where a walk has passed so many items of it, and so many of each level below the one that it is at.
-- The counts are listed by parts, and this part is the one of that number.
abbrev pub rest_at : ℕ → Bool → List Bool → List Bool → Level → List ℕ → List KeyRange
rest_at d first (n ∷ ns) (f ∷ fs) l places = rest_met (λ c. rest_at (suc d) false ns fs c places) (level_cover false ns fs) first n (ahead f (slice_index places d) l)
rest_at d first _ _ l places = []

-- the whole of the first part as one range
abbrev pub whole_first : List Bool → List KeyRange
whole_first [] = []
whole_first (n ∷ ns) = record { points = []; last = Some (whole_span n) } ∷ []

-- the root of the tree that holds all keys
abbrev pub is_all : Root → Bool
is_all Everything = true
is_all Nothing = false
is_all (Items k) = false
