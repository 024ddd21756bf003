use Rattle.std.proofs.Common.{◌≡◌, take}
use Rattle.std.specs.List.{flat_map}
use Rattle.rx_rows.specs.Lines.{line_of}
use Rattle.rx_engine.proofs.printing.print_rows.Given as goal

-- the lines so far
abbrev pub invariant-loop-row : goal.invariant-loop-row
invariant-loop-row l = l.text ≡ flat_map line_of (take l.row-index l.rows)
