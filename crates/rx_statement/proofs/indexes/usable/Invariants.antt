use Rattle.std.proofs.Common.{◌≡◌, take, map}
use Rattle.rx_statement.specs.Asking.{is_usable}
use Rattle.rx_statement.proofs.indexes.usable.Given as goal

abbrev pub invariant-loop-index : goal.invariant-loop-index
invariant-loop-index l = l.list ≡ map (is_usable l.hints) (take l.index-index l.indexes)
