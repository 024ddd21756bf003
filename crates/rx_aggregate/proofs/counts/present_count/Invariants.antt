use Rattle.std.proofs.Common.{◌≡◌, ◌≤◌, take, length}
use Rattle.rx_group.specs.Classes.{rows_of}
use Rattle.rx_aggregate.specs.Aggregates.{present}
use Rattle.rx_aggregate.proofs.counts.present_count.Given as goal

-- how many there are in the rows so far
abbrev pub invariant-loop-row : goal.invariant-loop-row
invariant-loop-row l = (l.count ≡ length (present l.column (rows_of (take l.row-index l.rows)))) × (l.count ≤ l.row-index)
