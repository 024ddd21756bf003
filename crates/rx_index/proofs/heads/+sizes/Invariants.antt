use Rattle.std.proofs.Common.{length}
use Rattle.rx_index.proofs.heads.+sizes.Given as goal

abbrev pub decreases-sizes : goal.decreases-sizes
decreases-sizes l = length l.fields.now
