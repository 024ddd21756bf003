use Rattle.rx_graph.proofs.wholes.+is_whole_at.Given as goal

abbrev pub decreases-is_whole_at : goal.decreases-is_whole_at
decreases-is_whole_at l = l.part
