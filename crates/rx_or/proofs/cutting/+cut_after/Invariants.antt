use Rattle.rx_level.specs.Step.{tall_of}
use Rattle.rx_or.proofs.cutting.+cut_after.Given as goal

abbrev pub decreases-cut_after : goal.decreases-cut_after
decreases-cut_after l = tall_of l.levels.now l.root
