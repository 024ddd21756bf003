use Rattle.rx_index.specs.Placed.{ArePlaced}
use Rattle.rx_index.proofs.orders.placed_by.Given as goal

-- the rows so far
abbrev pub invariant-loop-id : goal.invariant-loop-id
invariant-loop-id l = ArePlaced l.words.first.items l.words.second.items l.rows l.id l.list.items
