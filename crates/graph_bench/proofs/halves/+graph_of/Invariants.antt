use Rattle.graph_bench.proofs.halves.+graph_of.Given as goal

abbrev pub decreases-graph_of : goal.decreases-graph_of
decreases-graph_of g l = l.range.count
