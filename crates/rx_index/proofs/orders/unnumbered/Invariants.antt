use Rattle.std.proofs.Common.{[]}
use Rattle.rx_index.specs.Placed.{ArePlaced}
use Rattle.rx_index.proofs.orders.unnumbered.Given as goal

-- the rows so far
abbrev pub invariant-loop-id : goal.invariant-loop-id
invariant-loop-id l = ArePlaced [] [] l.rows l.id l.list.items
