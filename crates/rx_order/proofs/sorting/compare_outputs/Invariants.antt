use Rattle.std.proofs.Common.{◌≡◌, drop}
use Rattle.rx_order.specs.Order.{outputs_cmp}
use Rattle.rx_order.proofs.sorting.compare_outputs.Given as goal

-- the parts ahead compare as all do
abbrev pub invariant-loop-part : goal.invariant-loop-part
invariant-loop-part l = outputs_cmp (drop l.part-index l.order) l.a l.b ≡ outputs_cmp l.order l.a l.b
