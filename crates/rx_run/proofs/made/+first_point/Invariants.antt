use Rattle.std.proofs.Common.{length}
use Rattle.rx_run.proofs.made.+first_point.Given as goal

abbrev pub decreases-first_point : goal.decreases-first_point
decreases-first_point l = length l.scans.now
