use Rattle.std.proofs.Common.{Some}
use Rattle.rx_level.specs.Step.{tall_of}
use Rattle.rx_weld.proofs.gluing.+take_last.Given as goal

abbrev pub decreases-take_last : goal.decreases-take_last
decreases-take_last l = tall_of l.levels.now (Some l.key)
