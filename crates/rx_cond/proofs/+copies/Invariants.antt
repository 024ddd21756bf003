use Rattle.std.proofs.Common.{◌≡◌, take, map}
use Rattle.rx_cond.specs.Tree.{tree_of}
use Rattle.rx_cond.proofs.+copies.Given as goal

-- the copies so far have the trees of their items
abbrev pub invariant-copies::copy_all-loop-item : goal.invariant-copies::copy_all-loop-item
invariant-copies::copy_all-loop-item l = map tree_of l.copies.items ≡ map tree_of (take l.item-index l.items)
