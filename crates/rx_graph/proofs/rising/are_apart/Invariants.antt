use Rattle.std.proofs.Common.{length}
use Rattle.rx_tree.specs.Points.{AreApart}
use Rattle.rx_graph.proofs.rising.are_apart.Given as goal

-- all are apart where those that are left are
abbrev pub invariant-spans : goal.invariant-spans
invariant-spans l = (AreApart l.end l.rest → AreApart l.fn.end l.fn.spans) × (AreApart l.fn.end l.fn.spans → AreApart l.end l.rest)

abbrev pub decreases-spans : goal.decreases-spans
decreases-spans l = length l.rest
