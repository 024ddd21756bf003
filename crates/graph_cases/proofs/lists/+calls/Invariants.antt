use Rattle.graph_cases.proofs.lists.+calls.Given as goal

abbrev pub decreases-calls : goal.decreases-calls
decreases-calls l = l.count
