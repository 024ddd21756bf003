use Rattle.std.proofs.Common.{◌+◌, ◌*◌, Some}
use Rattle.rx_tree.specs.Tree.{level_size}
use Rattle.rx_level.specs.Step.{level_of}
use Rattle.rx_or.proofs.uniting.+unite.Given as goal

abbrev pub decreases-unite_below : goal.decreases-unite_below
decreases-unite_below l = 8 * (level_size (level_of l.levels.now l.c) + level_size (level_of l.levels.now l.d)) + 3

abbrev pub decreases-below_once : goal.decreases-below_once
decreases-below_once l = 8 * (level_size (level_of l.levels.now (Some l.c)) + level_size (level_of l.levels.now (Some l.d))) + 4

abbrev pub decreases-below_pair : goal.decreases-below_pair
decreases-below_pair l = 8 * (level_size (level_of l.levels.now l.c) + level_size (level_of l.levels.now l.d)) + 5

abbrev pub decreases-item_over : goal.decreases-item_over
decreases-item_over l = 8 * (level_size (level_of l.levels.now l.c) + level_size (level_of l.levels.now l.d)) + 6

abbrev pub decreases-fill : goal.decreases-fill
decreases-fill l = 8 * (level_size (level_of l.levels.now l.child) + level_size (level_of l.levels.now l.within))

abbrev pub decreases-over_item : goal.decreases-over_item
decreases-over_item l = 8 * (level_size (level_of l.levels.now l.child) + level_size (level_of l.levels.now l.h)) + 1

abbrev pub decreases-unite_ahead : goal.decreases-unite_ahead
decreases-unite_ahead l = 8 * (level_size (level_of l.levels.now l.side) + level_size (level_of l.levels.now l.h)) + 2

abbrev pub decreases-unite_behind : goal.decreases-unite_behind
decreases-unite_behind l = 8 * (level_size (level_of l.levels.now l.side) + level_size (level_of l.levels.now l.h)) + 2

abbrev pub decreases-walk : goal.decreases-walk
decreases-walk l = 8 * (level_size (level_of l.levels.now l.g) + level_size (level_of l.levels.now l.h))

abbrev pub decreases-unite_level : goal.decreases-unite_level
decreases-unite_level l = 8 * (level_size (level_of l.levels.now l.g) + level_size (level_of l.levels.now l.h)) + 1

abbrev pub decreases-unite : goal.decreases-unite
decreases-unite l = 8 * (level_size (level_of l.levels.now l.g) + level_size (level_of l.levels.now l.h)) + 2
