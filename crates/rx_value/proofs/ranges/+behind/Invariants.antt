use Rattle.std.proofs.Common.{length}
use Rattle.rx_value.proofs.ranges.+behind.Given as goal

abbrev pub decreases-behind : goal.decreases-behind
decreases-behind l = length l.values.now
