use Rattle.std.proofs.Common.{length}
use Rattle.graph_cases.proofs.carried.+met_from.Given as goal

abbrev pub decreases-met_from : goal.decreases-met_from
decreases-met_from l = length l.graphs.now
