-- The different nodes that a link leads to.
use Rattle.std.specs.Prelude.{◌≡◌, ◌<◌, ◌↔◌, ◌⊎◌, ℕ, Bool, true, false, List, length, get_or, Option, Some, IsSome}
use Rattle.std.specs.List.{count_by}
use Rattle.slab.specs.Slab.{Slab, get}
use Rattle.rx_level.specs.declared.nodes.Node.{Node}
use Rattle.rx_level.specs.Store.{links_in}

-- a link leads to the node, at once or over links of nodes
pub data IsUnder (s : Slab Node) (r : Option ℕ) : ℕ → Type 0 where
  here : (m : ℕ) → r ≡ Some m → IsSome (get s m) → IsUnder s r m
  below : (m k : ℕ) → IsUnder s r k → 0 < links_in m (get s k) → IsUnder s r m

-- the node has a mark
abbrev pub IsMarked : List Bool → ℕ → Type 0
IsMarked marks m = get_or marks m false ≡ true

-- what a node with a mark leads to has one
abbrev pub IsClosed : Slab Node → List Bool → Type 0
IsClosed s marks = (k m : ℕ) → IsMarked marks k → 0 < links_in m (get s k) → IsMarked marks m

-- Marks that are set from a link on: those that were there stay, and those that come are of nodes under the link.
pub record IsMarking (s : Slab Node) (r : Option ℕ) (old new : List Bool) : Type 0 where
  pub long : length new ≡ length old
  pub closed : IsClosed s new
  pub kept : (m : ℕ) → IsMarked old m → IsMarked new m
  pub found : (m : ℕ) → r ≡ Some m → IsSome (get s m) → IsMarked new m
  pub only : (m : ℕ) → IsMarked new m → IsMarked old m ⊎ IsUnder s r m

-- This is how many nodes are under a link: so many marks, of exactly those nodes.
pub record IsNumberUnder (s : Slab Node) (r : Option ℕ) (n : ℕ) : Type 0 where
  pub marks : List Bool
  pub exact : (m : ℕ) → IsMarked marks m ↔ IsUnder s r m
  pub number : n ≡ count_by (λ marked. marked) marks
