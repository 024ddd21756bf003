use Rattle.std.proofs.Common.{true, length}
use Rattle.rx_cond_graph.specs.Giving.{agree_all}
use Rattle.rx_cond_graph.proofs.RowsSoFar.{SoFar}
use Rattle.rx_cond_graph.proofs.rows.row.Given as goal

-- the values so far are met, and those that are left go on
abbrev pub invariant-values : goal.invariant-values
invariant-values l = SoFar (agree_all l.parts l.fn.columns l.fn.key) (agree_all l.parts l.columns l.values) true l.fn.arena l.arena l.whole

abbrev pub decreases-values : goal.decreases-values
decreases-values l = length l.values
