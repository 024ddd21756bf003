use Rattle.rx_tree.specs.Join.{length_of}
use Rattle.rx_level.specs.Step.{level_of}
use Rattle.rx_and.proofs.narrowing.+items_before.Given as goal

abbrev pub decreases-items_before : goal.decreases-items_before
decreases-items_before l = length_of (level_of l.levels.now l.root)
