use Rattle.std.proofs.Common.{length}
use Rattle.rx_value.proofs.precedence.+differ_so.Given as goal

abbrev pub decreases-differ_so : goal.decreases-differ_so
decreases-differ_so l = length l.falling.now
