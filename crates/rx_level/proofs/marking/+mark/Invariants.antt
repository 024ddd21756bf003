use Rattle.rx_level.specs.Store.{rank_of}
use Rattle.rx_level.proofs.marking.+mark.Given as goal

abbrev pub decreases-mark : goal.decreases-mark
decreases-mark l = rank_of l.nodes.now l.root
