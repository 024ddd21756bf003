use Rattle.std.proofs.Common.{◌≡◌, length}
use Rattle.rx_cond.specs.Test.{row_equality}
use Rattle.rx_cond.specs.Tri.{three_and}
use Rattle.rx_cond.proofs.single.row_equality.Given as goal

-- the columns so far, and the rest
abbrev pub invariant-columns : goal.invariant-columns
invariant-columns l = three_and l.all (row_equality l.columns l.key l.row) ≡ row_equality l.fn.columns l.fn.key l.row

abbrev pub decreases-columns : goal.decreases-columns
decreases-columns l = length l.columns
