use Rattle.std.proofs.Common.{length}
use Rattle.rx_index.proofs.heads.+head.Given as goal

abbrev pub decreases-head : goal.decreases-head
decreases-head l = length l.fields.now
