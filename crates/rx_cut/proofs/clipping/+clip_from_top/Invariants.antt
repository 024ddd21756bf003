use Rattle.rx_level.specs.Step.{tall_of}
use Rattle.rx_cut.proofs.clipping.+clip_from_top.Given as goal

abbrev pub decreases-clip_from_top : goal.decreases-clip_from_top
decreases-clip_from_top l = tall_of l.levels.now l.root
