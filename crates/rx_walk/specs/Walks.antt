-- The ranges that a walk over the parts of a tree still has to give.
use Rattle.std.specs.Prelude.{ℕ, suc, false, List, map, Option, length, slice_index}
use Rattle.rx_value.specs.declared.values.Value.{Value}
use Rattle.rx_value.specs.declared.ranges.KeyRange.{KeyRange}
use Rattle.rx_tree.specs.Tree.{Level}
use Rattle.rx_level.specs.Step.{level_of}
use Rattle.rx_cover.specs.Cover.{level_cover}
use Rattle.rx_walk.specs.declared.walks.Walk.{Walk}
use Rattle.rx_walk.specs.declared.walks.Part.{Part}
use Rattle.rx_walk.specs.Walk.{ahead}
use Rattle.rx_walk.specs.Ranges.{behind_points, is_first, rest_at, rest_met}

-- what is left of a level behind these points
abbrev pub rest_below : Walk → Option ℕ → List Value → List ℕ → List KeyRange
rest_below w root points places = map (behind_points points) (rest_at (length points) (is_first points) w.parts.now w.falling.now (level_of w.levels.now root) places)

-- the same of a level of a part
abbrev pub rest_in : Part → List Value → List ℕ → Level → List KeyRange
rest_in p points places l =
    map (behind_points points)
    (rest_met (λ c. rest_at (suc (length points)) false p.below.parts.now p.below.falling.now c places) (level_cover false p.below.parts.now p.below.falling.now)
    (is_first points) p.nullable (ahead p.falls (slice_index places (length points)) l))
