use Rattle.graph_cases.proofs.lists.+level_holds.Given as goal

abbrev pub decreases-level_holds : goal.decreases-level_holds
decreases-level_holds l = l.steps
