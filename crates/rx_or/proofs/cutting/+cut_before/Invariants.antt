use Rattle.rx_level.specs.Step.{tall_of}
use Rattle.rx_or.proofs.cutting.+cut_before.Given as goal

abbrev pub decreases-cut_before : goal.decreases-cut_before
decreases-cut_before l = tall_of l.levels.now l.root
