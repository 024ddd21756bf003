use Rattle.std.proofs.Common.{◌≡◌, take}
use Rattle.std.specs.Option.{option_copied}
use Rattle.std.specs.List.{reduce}
use Rattle.rx_group.specs.Classes.{rows_of}
use Rattle.rx_aggregate.specs.Aggregates.{present, pick}
use Rattle.rx_aggregate.proofs.columns.extreme.Given as goal

-- the best of the rows so far
abbrev pub invariant-loop-row : goal.invariant-loop-row
invariant-loop-row l = option_copied l.best ≡ reduce (pick l.greatest) (present l.column (rows_of (take l.row-index l.rows)))
