use Rattle.std.proofs.Common.{◌≡◌, true, take}
use Rattle.std.specs.List.{list_all}
use Rattle.rx_merges.specs.Intersections.{have_column}
use Rattle.rx_merges.proofs.intersections.have_columns.Given as goal

-- all columns so far
abbrev pub invariant-loop-column : goal.invariant-loop-column
invariant-loop-column l = list_all (have_column l.schema l.scans) (take l.column-index l.columns) ≡ true
