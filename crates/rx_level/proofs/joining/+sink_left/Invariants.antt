use Rattle.rx_level.specs.Step.{tall_of}
use Rattle.rx_level.proofs.joining.+sink_left.Given as goal

abbrev pub decreases-sink_left : goal.decreases-sink_left
decreases-sink_left l = tall_of l.levels.now l.right
