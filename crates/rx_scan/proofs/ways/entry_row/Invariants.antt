use Rattle.std.proofs.Common.{◌≡◌, map}
use Rattle.std.specs.List.{range_with_len}
use Rattle.rx_scan.specs.Handed.{entry_value}
use Rattle.rx_scan.proofs.ways.entry_row.Given as goal

-- what the entry has in the columns so far
abbrev pub invariant-loop-column : goal.invariant-loop-column
invariant-loop-column l = l.row ≡ map (entry_value l.parts l.key) (range_with_len 0 l.column)
