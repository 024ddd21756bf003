-- What a call does to the store: which handles it spends and gives, and that no other handle's tree changes.
use Rattle.std.specs.Prelude.{◌≡◌, ℕ, ◌+◌, ◌<◌, ◌≤◌, List, [], Option, Some, None}
use Rattle.slab.specs.Slab.{Slab}
use Rattle.rx_level.specs.declared.nodes.Node.{Node}
use Rattle.rx_value.specs.declared.order.Span.{Span}
use Rattle.rx_level.specs.declared.trees.Item.{Item}
use Rattle.rx_tree.specs.Tree.{Level}
use Rattle.rx_tree.specs.Join.{join_level}
use Rattle.rx_tree.specs.Tree.Level.{item}
use Rattle.rx_level.specs.Tree.{Tree, plain, tall}
use Rattle.rx_level.specs.Tree.Tree.{some}
use Rattle.rx_level.specs.Store.{IsSound, IsThere, held_of, owed, tree_of}

-- the store is sound, and these handles are held, each as often as it is listed
pub record Owns (s : Slab Node) (roots : List (Option ℕ)) : Type 0 where
  pub sound : IsSound s []
  pub owned : (m : ℕ) → owed m roots ≤ held_of s m

-- The handles that a call spends and gives. Every handle that is held besides those spent keeps its tree.
pub record Step (old new : Slab Node) (spent given : List (Option ℕ)) : Type 0 where
  pub sound : IsSound new []
  pub held : (m : ℕ) → held_of new m + owed m spent ≡ held_of old m + owed m given
  pub keeps : (m : ℕ) → owed m spent < held_of old m → tree_of new (Some m) ≡ tree_of old (Some m)

-- the items of a link's level
abbrev pub level_of : Slab Node → Option ℕ → Level
level_of s r = plain (tree_of s r)

-- an item between two levels
abbrev pub between : Slab Node → Option ℕ → Item → Option ℕ → Level
between s l i r = join_level (level_of s l) (item i.span (level_of s i.child) (level_of s r))

-- the height of a link's tree
abbrev pub tall_of : Slab Node → Option ℕ → ℕ
tall_of s r = tall (tree_of s r)

-- a tree that stands in another
pub data IsSubtree (t : Tree) : Tree → Type 0 where
  self : IsSubtree t t
  child : (k : ℕ) (s : Span) (c l r : Tree) → IsSubtree t c → IsSubtree t (some k s c l r)
  left : (k : ℕ) (s : Span) (c l r : Tree) → IsSubtree t l → IsSubtree t (some k s c l r)
  right : (k : ℕ) (s : Span) (c l r : Tree) → IsSubtree t r → IsSubtree t (some k s c l r)

-- a link that stands in the tree of a handle, which is held besides those of the list
pub record IsLent (s : Slab Node) (besides : List (Option ℕ)) (r : Option ℕ) : Type 0 where
  pub holder : ℕ
  pub held : owed holder besides < held_of s holder
  pub part : IsSubtree (tree_of s r) (tree_of s (Some holder))
  pub there : IsThere s r

-- the link is none, or lent
abbrev pub Lent : Slab Node → List (Option ℕ) → Option ℕ → Type 0
Lent s besides None = Unit {0}
Lent s besides (Some k) = IsLent s besides (Some k)
