use Rattle.std.proofs.Common.{◌≡◌, take, map}
use Rattle.rx_group.specs.Classes.{values_at, firsts, classes, rows_of, lists_of}
use Rattle.rx_group.specs.Numbers.{Numbers}
use Rattle.rx_group.proofs.grouping.classes.Given as goal

-- the classes of the rows so far, and a map that has the place of each
abbrev pub invariant-loop-row : goal.invariant-loop-row
invariant-loop-row l =
    (lists_of l.made.items ≡ classes (values_at l.columns) (rows_of (take l.row-index l.rows)))
    × Numbers (map (values_at l.columns) (firsts (values_at l.columns) (rows_of (take l.row-index l.rows)))) l.numbers
