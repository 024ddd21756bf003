use Rattle.std.proofs.Common.{◌≡◌, drop}
use Rattle.rx_statement.specs.Names.{unknown_in_order}
use Rattle.rx_statement.proofs.names.unknown_in_order.Given as goal

-- each part so far is a column or a place
abbrev pub invariant-loop-part : goal.invariant-loop-part
invariant-loop-part l = unknown_in_order l.columns l.count (drop l.part-index l.order) ≡ unknown_in_order l.columns l.count l.order
