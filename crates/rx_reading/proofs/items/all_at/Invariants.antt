use Rattle.std.proofs.Common.{◌≤◌, length}
use Rattle.rx_reading.specs.Reading.{past, all_at}
use Rattle.rx_reading.proofs.Going.{Going}
use Rattle.rx_reading.proofs.items.all_at.Given as goal

abbrev pub invariant-items : goal.invariant-items
invariant-items g l = record {
  read : Going (past l.separator) (g.I.Item.reader l.item) (all_at (past l.separator) (g.I.Item.reader l.item) l.fn.front l.fn.tokens) l.items l.rest;
  within : length l.rest ≤ length l.fn.tokens;
}

abbrev pub decreases-items : goal.decreases-items
decreases-items g l = length l.rest
