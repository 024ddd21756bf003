use Rattle.std.proofs.Common.{◌≡◌, drop}
use Rattle.rx_where.specs.Kinds.{column_kind}
use Rattle.rx_where.proofs.kinds.column_kind.Given as goal

-- no column so far has the name
abbrev pub invariant-loop-column : goal.invariant-loop-column
invariant-loop-column l = column_kind (drop l.column-index l.columns) l.name ≡ column_kind l.columns l.name
