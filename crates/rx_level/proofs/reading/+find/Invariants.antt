use Rattle.rx_tree.specs.Join.{length_of}
use Rattle.rx_level.specs.Step.{level_of}
use Rattle.rx_level.proofs.reading.+find.Given as goal

abbrev pub decreases-find : goal.decreases-find
decreases-find l = length_of (level_of l.levels.now l.root)
