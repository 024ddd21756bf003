use Rattle.std.proofs.Common.{length}
use Rattle.rx_level.proofs.building.+build_between.Given as goal

abbrev pub decreases-build_between : goal.decreases-build_between
decreases-build_between l = length l.bounds.now
