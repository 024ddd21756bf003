use Rattle.std.proofs.Common.{false, drop}
use Rattle.rx_cond_graph.specs.Giving.{agree_any}
use Rattle.rx_cond_graph.proofs.RowsSoFar.{SoFar}
use Rattle.rx_cond_graph.proofs.rows.rows.Given as goal

-- the keys so far are united, and those that are left go on
abbrev pub invariant-keys : goal.invariant-keys
invariant-keys l = SoFar (agree_any l.parts l.columns l.list) (agree_any l.parts l.columns (drop l.key-index l.list)) false l.fn.arena l.arena l.whole
