use Rattle.rx_tree.specs.Join.{length_of}
use Rattle.rx_level.specs.Step.{level_of}
use Rattle.rx_and.proofs.narrowing.+items_behind.Given as goal

abbrev pub decreases-items_behind : goal.decreases-items_behind
decreases-items_behind l = length_of (level_of l.levels.now l.root)
