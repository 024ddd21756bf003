use Rattle.rx_level.specs.Step.{tall_of}
use Rattle.rx_cut.proofs.clipping.+ahead.Given as goal

abbrev pub decreases-ahead : goal.decreases-ahead
decreases-ahead l = tall_of l.levels.now l.root
