use Rattle.rx_level.specs.Step.{tall_of}
use Rattle.rx_cut.proofs.clipping.+behind.Given as goal

abbrev pub decreases-behind : goal.decreases-behind
decreases-behind l = tall_of l.levels.now l.root
