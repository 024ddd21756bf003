use Rattle.std.proofs.Common.{◌≡◌, take}
use Rattle.std.specs.List.{filter}
use Rattle.rx_merges.specs.Ordered.{is_row_ordered, sorted}
use Rattle.rx_merges.proofs.ordered.row_ordered.Given as goal

-- those of the scans so far
abbrev pub invariant-loop-scan : goal.invariant-loop-scan
invariant-loop-scan l = l.sorted.items ≡ sorted (filter (is_row_ordered l.schema) (take l.scan-index l.scans))
