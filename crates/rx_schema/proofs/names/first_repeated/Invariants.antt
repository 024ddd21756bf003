use Rattle.std.proofs.Common.{◌≡◌, take, drop}
use Rattle.rx_schema.specs.Names.{repeated_after, first_repeated}
use Rattle.rx_schema.proofs.names.first_repeated.Given as goal

-- no name so far equals an earlier one
abbrev pub invariant-loop-i : goal.invariant-loop-i
invariant-loop-i l = repeated_after (take l.i l.names) (drop l.i l.names) ≡ first_repeated l.names
