use Rattle.std.proofs.Common.{length}
use Rattle.rx_run.proofs.made.+point_on.Given as goal

abbrev pub decreases-point_on : goal.decreases-point_on
decreases-point_on l = length l.parts.now
