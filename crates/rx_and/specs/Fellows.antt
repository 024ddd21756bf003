-- Levels that are in their places over the same parts, or over parts that follow one another.
use Rattle.std.specs.Prelude.{Bool, List, ◌∷◌}
use Rattle.rx_tree.specs.Tree.{Level}
use Rattle.rx_tree.specs.Canonical.{ArePlaced}

-- Both levels are in their places over the same parts.
pub record AreFellows (a b : Level) : Type 0 where
  pub parts : List Bool
  pub first : ArePlaced parts a
  pub second : ArePlaced parts b

-- The first level is in its places over the parts that follow the one from which on the second is in its places.
pub record MayHangBelow (c h : Level) : Type 0 where
  pub nullable : Bool
  pub parts : List Bool
  pub below : ArePlaced parts c
  pub placed : ArePlaced (nullable ∷ parts) h
