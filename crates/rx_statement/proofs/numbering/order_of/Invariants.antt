use Rattle.std.proofs.Common.{◌≡◌, take, map}
use Rattle.rx_statement.specs.Asking.{order_of}
use Rattle.rx_statement.proofs.numbering.order_of.Given as goal

abbrev pub invariant-loop-part : goal.invariant-loop-part
invariant-loop-part l = l.list ≡ map (order_of l.columns) (take l.part-index l.order)
