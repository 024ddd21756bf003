use Rattle.slab.specs.Slab.{slab_len}
use Rattle.rx_level.proofs.uses.+unlink.Given as goal

abbrev pub decreases-unlink : goal.decreases-unlink
decreases-unlink l = slab_len l.nodes.now
