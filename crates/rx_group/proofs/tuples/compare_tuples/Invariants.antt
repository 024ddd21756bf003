use Rattle.std.proofs.Common.{◌≡◌, length}
use Rattle.rx_group.specs.Classes.{values_cmp}
use Rattle.rx_group.proofs.tuples.compare_tuples.Given as goal

-- what is left compares as the whole does
abbrev pub invariant-values : goal.invariant-values
invariant-values l = values_cmp l.left l.right ≡ values_cmp l.fn.a l.fn.b

abbrev pub decreases-values : goal.decreases-values
decreases-values l = length l.left
