use Rattle.std.proofs.Common.{Some}
use Rattle.rx_level.specs.Step.{tall_of}
use Rattle.rx_level.proofs.joining.+take_first.Given as goal

abbrev pub decreases-take_first : goal.decreases-take_first
decreases-take_first l = tall_of l.levels.now (Some l.key)
