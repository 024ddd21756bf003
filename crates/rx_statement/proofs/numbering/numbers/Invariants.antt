use Rattle.std.proofs.Common.{◌≡◌, take, map}
use Rattle.rx_where.specs.Resolution.{number}
use Rattle.rx_statement.proofs.numbering.numbers.Given as goal

abbrev pub invariant-loop-name : goal.invariant-loop-name
invariant-loop-name l = l.numbers ≡ map (number l.columns) (take l.name-index l.names)
