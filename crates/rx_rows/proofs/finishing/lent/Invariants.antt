use Rattle.std.proofs.Common.{◌≡◌, take}
use Rattle.rx_group.specs.Classes.{rows_of}
use Rattle.rx_rows.proofs.finishing.lent.Given as goal

abbrev pub invariant-loop-row : goal.invariant-loop-row
invariant-loop-row l = rows_of l.lent.items ≡ take l.row-index l.rows
