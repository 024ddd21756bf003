use Rattle.rx_graph.proofs.rising.+are_spans_at.Given as goal

abbrev pub decreases-are_spans_at : goal.decreases-are_spans_at
decreases-are_spans_at l = l.part
