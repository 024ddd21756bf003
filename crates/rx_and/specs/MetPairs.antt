-- What a memory tells of pairs of levels that were met.
use Rattle.std.specs.Prelude.{◌≡◌, ◌⊎◌, ◌<◌, ◌+◌, ℕ, List, Option}
use Rattle.slab.specs.Slab.{Slab}
use Rattle.rx_tree.specs.Tree.{Level, level_size}
use Rattle.rx_tree.specs.Meet.{both}
use Rattle.rx_level.specs.declared.nodes.Node.{Node}
use Rattle.rx_level.specs.Step.{level_of}
use Rattle.rx_pairs.specs.Pairs.{Made, Among, IsSo, Keeps}

-- the third level is what the first two have in common
abbrev pub IsMet : Level → Level → Level → Type 0
IsMet a b c = c ≡ both a b

-- the first two levels have fewer items than this together
abbrev pub AreBelow : ℕ → Level → Level → Level → Type 0
AreBelow n a b c = level_size a + level_size b < n

-- how many items the levels of two links have together
abbrev pub sizes_of : Slab Node → Option ℕ → Option ℕ → ℕ
sizes_of s g h = level_size (level_of s g) + level_size (level_of s h)

-- A call adds pairs to a memory that have fewer items than this, and gives these handles.
pub record Meets (n : ℕ) (old new : Slab Node) (before after : List Made) (given : List (Option ℕ)) : Type 0 where
  pub keeps : Keeps IsMet old new before after given
  pub fewer : (e : Made) → Among after e → Among before e ⊎ IsSo (AreBelow n) new e
