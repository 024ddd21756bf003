use Rattle.std.proofs.Common.{length}
use Rattle.graph_cases.proofs.grids.+tuple_count.Given as goal

abbrev pub decreases-tuple_count : goal.decreases-tuple_count
decreases-tuple_count l = length l.parts.now
