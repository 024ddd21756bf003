use Rattle.std.proofs.Common.{◌+◌, ◌*◌, Some}
use Rattle.rx_tree.specs.Tree.{level_size}
use Rattle.rx_level.specs.Step.{level_of}
use Rattle.rx_graft.proofs.hanging.+hanging.Given as goal

abbrev pub decreases-hang : goal.decreases-hang
decreases-hang l = 3 * level_size (level_of l.levels.now l.root) + 1

abbrev pub decreases-make : goal.decreases-make
decreases-make l = 3 * level_size (level_of l.levels.now (Some l.key))

abbrev pub decreases-under : goal.decreases-under
decreases-under l = 3 * level_size (level_of l.levels.now l.child) + 2
