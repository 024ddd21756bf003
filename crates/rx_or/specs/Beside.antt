-- Levels that lie one behind the other.
use Rattle.rx_value.specs.declared.order.End.{End}
use Rattle.rx_tree.specs.Tree.{Level}
use Rattle.rx_tree.specs.Canonical.{BeginsFrom}
use Rattle.rx_tree.specs.Weld.{EndsBy}

-- the first level ends at some end or before, and the second begins there or later
pub record LiesBefore (a b : Level) : Type 0 where
  pub at : End
  pub ends : EndsBy at a
  pub begins : BeginsFrom at b
