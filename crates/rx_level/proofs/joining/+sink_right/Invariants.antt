use Rattle.rx_level.specs.Step.{tall_of}
use Rattle.rx_level.proofs.joining.+sink_right.Given as goal

abbrev pub decreases-sink_right : goal.decreases-sink_right
decreases-sink_right l = tall_of l.levels.now l.left
