use Rattle.std.proofs.Common.{◌≡◌, drop}
use Rattle.rx_statement.specs.Names.{unknown_in_hints}
use Rattle.rx_statement.proofs.names.unknown_in_hints.Given as goal

-- each name of the hints so far is an index
abbrev pub invariant-loop-hint : goal.invariant-loop-hint
invariant-loop-hint l = unknown_in_hints l.indexes (drop l.hint-index l.hints) ≡ unknown_in_hints l.indexes l.hints
