-- Sets of keys, by the tuples of positions that are in them, and the tree of one.
use Rattle.std.specs.Prelude.{◌≡◌, ◌≤◌, ◌&&◌, ◌||◌, ℕ, Bool, List}
use Rattle.rx_value.specs.declared.order.End.{End}
use Rattle.rx_tree.specs.Tree.{Tree, size}
use Rattle.rx_tree.specs.Member.{IsTuple, holds}
use Rattle.rx_tree.specs.Canonical.{IsCanonical}

-- which tuples of positions are in a set
abbrev pub KeySet : Type 0
KeySet = List End → Bool

-- the canonical tree of a set over these parts: it holds exactly the tuples of the set
pub record IsTreeOf (parts : List Bool) (f : KeySet) (t : Tree) : Type 0 where
  pub canonical : IsCanonical parts t
  pub positions : (ps : List End) → IsTuple parts ps → holds t ps ≡ f ps

-- a set over these parts has a canonical tree of no more items than the limit
pub record IsSmall (parts : List Bool) (limit : ℕ) (f : KeySet) : Type 0 where
  pub tree : Tree
  pub is : IsTreeOf parts f tree
  pub few : size tree ≤ limit

-- two sets over these parts have the same tuples
abbrev pub AreSame : List Bool → KeySet → KeySet → Type 0
AreSame parts f g = (ps : List End) → IsTuple parts ps → f ps ≡ g ps

-- the tuples of both sets
abbrev pub both : KeySet → KeySet → KeySet
both f g ps = f ps && g ps

-- the tuples of either set
abbrev pub either : KeySet → KeySet → KeySet
either f g ps = f ps || g ps
