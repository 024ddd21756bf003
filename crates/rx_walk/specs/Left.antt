-- What an iterator over ranges has still to give.
use Rattle.std.specs.Prelude.{◌≡◌, ◌≤◌, true, List, [], length, None, if◌then◌else◌}
use Rattle.rx_value.specs.declared.ranges.KeyRange.{KeyRange}
use Rattle.rx_level.specs.Step.{Lent}
use Rattle.rx_walk.specs.declared.ranges.Ranges.{Ranges}
use Rattle.rx_walk.specs.Ranges.{whole_first}
use Rattle.rx_walk.specs.Walks.{rest_below}

-- the ranges that are left: that of everything, or those of the root's level
abbrev pub rest : Ranges → List KeyRange
rest r = if r.whole then whole_first r.walk.parts.now else rest_below r.walk r.root [] r.places

-- The root's level is lent, there is a place for each part, and everything has no level.
pub record IsWalk (r : Ranges) : Type 0 where
  pub lent : Lent r.walk.levels.now [] r.root
  pub parts : length r.walk.parts.now ≤ 16
  pub places : length r.places ≡ 16
  pub whole : r.whole ≡ true → r.root ≡ None
