-- The store of nodes: what leads to a node, and how its counts follow.
use Rattle.std.specs.Prelude.{◌≡◌, ◌==◌, ◌+◌, ◌<◌, cond, max, sum_by, ℕ, zero, suc, List, [], ◌∷◌, Option, Some, None, IsSome}
use Rattle.slab.specs.Slab.{Slab, get}
use Rattle.rx_value.specs.declared.order.Span.{Span}
use Rattle.rx_level.specs.declared.nodes.Node.{Node}
use Rattle.rx_level.specs.Tree.{Tree, IsNear}
use Rattle.rx_level.specs.Tree.Tree.{none, some}

-- 1 where the link leads to the node m
abbrev pub leads : ℕ → Option ℕ → ℕ
leads m None = 0
leads m (Some k) = cond (k == m) 1 0

-- how many links of a node lead to m
abbrev pub links_in : ℕ → Option Node → ℕ
links_in m None = 0
links_in m (Some v) = leads m v.child + leads m v.left + leads m v.right

-- how many links of the store lead to m
abbrev pub links_to : Slab Node → ℕ → ℕ
links_to s m = sum_by (links_in m) s.slots

-- how many links of a list lead to m
abbrev pub owed : ℕ → List (Option ℕ) → ℕ
owed m [] = 0
owed m (r ∷ rest) = leads m r + owed m rest

-- 1 where the link leads somewhere
abbrev pub root_in : Option ℕ → ℕ
root_in None = 0
root_in (Some k) = 1

-- how many links of a list lead somewhere
abbrev pub roots_in : List (Option ℕ) → ℕ
roots_in [] = 0
roots_in (r ∷ rest) = root_in r + roots_in rest

-- the numbers of a node, 0 where there is none
abbrev pub linked_in : Option Node → ℕ
linked_in None = 0
linked_in (Some v) = v.links

abbrev pub held_in : Option Node → ℕ
held_in None = 0
held_in (Some v) = v.held

abbrev pub rank_in : Option Node → ℕ
rank_in None = 0
rank_in (Some v) = v.rank

abbrev pub height_in : Option Node → ℕ
height_in None = 0
height_in (Some v) = v.height

abbrev pub count_in : Option Node → ℕ
count_in None = 0
count_in (Some v) = v.count

abbrev pub size_in : Option Node → ℕ
size_in None = 0
size_in (Some v) = v.size

-- the part of a node, 0 where there is none
abbrev pub part_in : Option Node → ℕ
part_in None = 0
part_in (Some v) = v.part

-- what a link leads to
abbrev pub at : Slab Node → Option ℕ → Option Node
at s None = None
at s (Some k) = get s k

-- the link is none, or leads to a node
abbrev pub IsThere : Slab Node → Option ℕ → Type 0
IsThere s None = Unit {0}
IsThere s (Some k) = IsSome (get s k)

-- how many handles lead to m
abbrev pub held_of : Slab Node → ℕ → ℕ
held_of s m = held_in (get s m)

-- how many handles there are
abbrev pub total_held : Slab Node → ℕ
total_held s = sum_by held_in s.slots

-- the numbers of what a link leads to
abbrev pub rank_of : Slab Node → Option ℕ → ℕ
rank_of s r = rank_in (at s r)

abbrev pub height_of : Slab Node → Option ℕ → ℕ
height_of s r = height_in (at s r)

abbrev pub count_of : Slab Node → Option ℕ → ℕ
count_of s r = count_in (at s r)

abbrev pub size_of : Slab Node → Option ℕ → ℕ
size_of s r = size_in (at s r)

-- the part of what a link leads to
abbrev pub part_of : Slab Node → Option ℕ → ℕ
part_of s r = part_in (at s r)

-- the link is none, or leads to a node of this part
abbrev pub IsAt : Slab Node → ℕ → Option ℕ → Type 0
IsAt s p None = Unit {0}
IsAt s p (Some k) = part_of s (Some k) ≡ p

-- a node without its counts
abbrev pub bare : Option Node → Option Node
bare None = None
bare (Some v) = Some (record v { links = 0; held = 0 })

-- what a node says for itself
pub record Body : Type 0 where
  pub span : Span
  pub child : Option ℕ
  pub left : Option ℕ
  pub right : Option ℕ

-- a node's span and links
abbrev pub body_in : Option Node → Option Body
body_in None = None
body_in (Some v) = Some (record { span = v.span; child = v.child; left = v.left; right = v.right })

-- each node of the first store is one of the second
abbrev pub IsWithinStore : Slab Node → Slab Node → Type 0
IsWithinStore new old = (k : ℕ) → IsSome (get new k) → bare (get new k) ≡ bare (get old k)

-- a node's numbers are those of what it leads to, its sides are near in height and of its own part, and its child is
-- of the next part
pub record IsShaped (s : Slab Node) (v : Node) : Type 0 where
  pub child : rank_of s v.child < v.rank
  pub left : rank_of s v.left < v.rank
  pub right : rank_of s v.right < v.rank
  pub near : IsNear (height_of s v.left) (height_of s v.right)
  pub height : v.height ≡ 1 + max (height_of s v.left) (height_of s v.right)
  pub count : v.count ≡ 1 + count_of s v.left + count_of s v.right
  pub size : v.size ≡ 1 + size_of s v.child + size_of s v.left + size_of s v.right
  pub below : IsAt s (v.part + 1) v.child
  pub before : IsAt s v.part v.left
  pub after : IsAt s v.part v.right

-- The store is sound, with these links owed to it, and one node that may be unused.
pub record IsNearly (s : Slab Node) (spare : Option ℕ) (rest : List (Option ℕ)) : Type 0 where
  pub links : (m : ℕ) → linked_in (get s m) ≡ links_to s m + owed m rest
  pub used : (m : ℕ) → IsSome (get s m) → 0 < held_of s m + linked_in (get s m) + leads m spare
  pub shaped : (m : ℕ) (v : Node) → get s m ≡ Some v → IsShaped s v

-- The store is sound, with these links owed to it.
abbrev pub IsSound : Slab Node → List (Option ℕ) → Type 0
IsSound s rest = IsNearly s None rest

-- the tree of a node, from those of its links
abbrev pub grown : (Option ℕ → Tree) → ℕ → Option Node → Tree
grown f k None = none
grown f k (Some v) = some k v.span (f v.child) (f v.left) (f v.right)

-- the tree of a link, so many nodes deep
abbrev pub tree_at : ℕ → Slab Node → Option ℕ → Tree
tree_at zero s r = none
tree_at (suc n) s None = none
tree_at (suc n) s (Some k) = grown (tree_at n s) k (get s k)

-- the tree of a link
abbrev pub tree_of : Slab Node → Option ℕ → Tree
tree_of s r = tree_at (rank_of s r) s r

-- The store is sound, and this is how many handles there are.
pub record IsCounted (s : Slab Node) (handles : ℕ) : Type 0 where
  pub sound : IsSound s []
  pub total : handles ≡ total_held s

-- a handle leads to the node, at once or over links
pub data IsReached (s : Slab Node) : ℕ → Type 0 where
  held : (m : ℕ) → 0 < held_of s m → IsReached s m
  linked : (m k : ℕ) → IsReached s k → 0 < links_in m (get s k) → IsReached s m
