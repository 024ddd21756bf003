use Rattle.graph_bench.proofs.steps.+with_points.Given as goal

abbrev pub decreases-with_points : goal.decreases-with_points
decreases-with_points g l = l.range.count
