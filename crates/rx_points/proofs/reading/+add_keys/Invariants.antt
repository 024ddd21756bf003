use Rattle.rx_tree.specs.Join.{length_of}
use Rattle.rx_level.specs.Step.{level_of}
use Rattle.rx_points.proofs.reading.+add_keys.Given as goal

abbrev pub decreases-add_keys : goal.decreases-add_keys
decreases-add_keys l = length_of (level_of l.levels.now l.root)
