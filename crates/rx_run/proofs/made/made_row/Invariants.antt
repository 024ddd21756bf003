use Rattle.std.proofs.Common.{◌≡◌, map}
use Rattle.std.specs.List.{range_with_len}
use Rattle.rx_run.specs.Made.{made_value}
use Rattle.rx_run.proofs.made.made_row.Given as goal

-- the columns so far
abbrev pub invariant-loop-column : goal.invariant-loop-column
invariant-loop-column l = l.row ≡ map (made_value l.schema l.scans) (range_with_len 0 l.column)
