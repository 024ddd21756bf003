use Rattle.rx_level.proofs.building.+build_last.Given as goal

abbrev pub decreases-build_last : goal.decreases-build_last
decreases-build_last l = l.count
