-- The items of a level on one side of an end.
use Rattle.std.specs.Prelude.{◌≡◌}
use Rattle.rx_value.specs.declared.order.End.{End}
use Rattle.rx_tree.specs.Tree.{Level}
use Rattle.rx_tree.specs.Canonical.{BeginsFrom}
use Rattle.rx_tree.specs.Join.{join_level}
use Rattle.rx_tree.specs.Weld.{EndsBy}

-- A level is the front of another: the rest of that begins at an end or later.
pub record IsFront (e : End) (front whole : Level) : Type 0 where
  pub rest : Level
  pub is : whole ≡ join_level front rest
  pub begins : BeginsFrom e rest

-- A level is the back of another: the rest of that ends at an end or before.
pub record IsBack (e : End) (back whole : Level) : Type 0 where
  pub rest : Level
  pub is : whole ≡ join_level rest back
  pub ends : EndsBy e rest
