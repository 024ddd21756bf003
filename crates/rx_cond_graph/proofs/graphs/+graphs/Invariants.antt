use Rattle.std.proofs.Common.{map}
use Rattle.rx_cond.specs.Tree.{tree_of}
use Rattle.rx_cond_graph.proofs.Joining.{JoinedSoFar}
use Rattle.rx_cond_graph.proofs.graphs.+graphs.Given as goal

-- the items so far are joined
abbrev pub invariant-joined-items : goal.invariant-joined-items
invariant-joined-items l = JoinedSoFar l.parts l.meets l.sign l.limit (map tree_of l.items) l.item-index l.fn.arena l.arena l.whole
