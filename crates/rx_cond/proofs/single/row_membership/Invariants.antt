use Rattle.std.proofs.Common.{◌≡◌, drop}
use Rattle.rx_cond.specs.Test.{row_membership}
use Rattle.rx_cond.specs.Tri.{three_or}
use Rattle.rx_cond.proofs.single.row_membership.Given as goal

-- the keys so far, and the rest
abbrev pub invariant-loop-key : goal.invariant-loop-key
invariant-loop-key l = three_or l.any (row_membership l.columns (drop l.key-index l.list) l.row) ≡ row_membership l.columns l.list l.row
