use Rattle.std.proofs.Common.{◌≡◌, ◌++◌, length}
use Rattle.std.specs.Vec.Iter.{into_iter_items}
use Rattle.rx_order.specs.Order.{distinct, chosen}
use Rattle.rx_order.proofs.distinct.distinct_outputs.Given as goal

-- what is kept, and then what is chosen of the rest
abbrev pub invariant-loop-output : goal.invariant-loop-output
invariant-loop-output l =
    (l.kept.items ++ chosen (into_iter_items l.output-iterator.a) (into_iter_items l.output-iterator.b) ≡ distinct l.fn.outputs.items)
    × (length (into_iter_items l.output-iterator.a) ≡ length (into_iter_items l.output-iterator.b))
