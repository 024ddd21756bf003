use Rattle.std.proofs.Common.{length}
use Rattle.rx_index.proofs.fields.+are_exact.Given as goal

abbrev pub decreases-are_exact : goal.decreases-are_exact
decreases-are_exact l = length l.fields.now
