use Rattle.std.proofs.Common.{◌≡◌, ◌++◌, take}
use Rattle.rx_rows.specs.Lines.{behind_tabs}
use Rattle.rx_rows.proofs.lines.print_whole_row.Given as goal

abbrev pub invariant-loop-value : goal.invariant-loop-value
invariant-loop-value l = l.into ≡ l.initial.into ++ behind_tabs (take l.value-index l.rest)
