use Rattle.std.proofs.Common.{◌≡◌, take}
use Rattle.rx_index.specs.Placed.{ids_in}
use Rattle.rx_index.proofs.orders.ids_of.Given as goal

-- the ids so far
abbrev pub invariant-loop-place : goal.invariant-loop-place
invariant-loop-place l = l.ids ≡ ids_in (take l.place-index l.list)
