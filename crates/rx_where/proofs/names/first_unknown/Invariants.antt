use Rattle.std.proofs.Common.{◌≡◌, drop}
use Rattle.rx_where.specs.Names.{first_unknown}
use Rattle.rx_where.proofs.names.first_unknown.Given as goal

-- each name so far is a column
abbrev pub invariant-loop-name : goal.invariant-loop-name
invariant-loop-name l = first_unknown l.columns (drop l.name-index l.names) ≡ first_unknown l.columns l.names
