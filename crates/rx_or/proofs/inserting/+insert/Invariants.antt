use Rattle.rx_level.specs.Step.{tall_of}
use Rattle.rx_or.proofs.inserting.+insert.Given as goal

abbrev pub decreases-insert : goal.decreases-insert
decreases-insert l = tall_of l.levels.now l.root
