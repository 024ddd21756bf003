use Rattle.std.proofs.Common.{◌≡◌, take, filter}
use Rattle.rx_group.specs.Classes.{rows_of}
use Rattle.rx_aggregate.specs.Aggregates.{is_whole_at}
use Rattle.rx_aggregate.proofs.counts.whole_rows.Given as goal

-- those of the rows so far
abbrev pub invariant-loop-row : goal.invariant-loop-row
invariant-loop-row l = rows_of l.whole.items ≡ filter (is_whole_at l.columns) (rows_of (take l.row-index l.rows))
