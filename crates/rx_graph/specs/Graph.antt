-- What an arena means: trees by the numbers of their handles, and how often each is held.
use Rattle.std.specs.Prelude.{◌≡◌, ◌≤◌, ◌<◌, ◌+◌, ◌^◌, ℕ, Bool, List, [], ◌∷◌, Option, Some, None, length}
use Rattle.slab.specs.Slab.{Slab}
use Rattle.rx_value.specs.Limits.{most_parts}
use Rattle.rx_tree.specs.Tree.{Tree}
use Rattle.rx_tree.specs.Tree.Tree.{everything, nothing, items}
use Rattle.rx_tree.specs.Canonical.{IsCanonical}
use Rattle.rx_level.specs.declared.nodes.Node.{Node}
use Rattle.rx_level.specs.Store.{held_of, owed, total_held}
use Rattle.rx_level.specs.Step.{level_of}
use Rattle.rx_graph.specs.declared.handles.Root.{Root}
use Rattle.rx_graph.specs.declared.handles.Root.TheVariants.{Everything, Nothing, Items}

-- the parts of an index, each with whether it may be NULL: at least one, and no more than an index has
abbrev pub IsPartList : List Bool → Type 0
IsPartList nullable = (1 ≤ length nullable) × (length nullable ≤ most_parts)

-- The parts, each with whether it may be NULL; the store of levels; and how many handles everything and nothing have.
pub record Graph : Type 0 where
  pub nullable : List Bool
  pub store : Slab Node
  pub all : ℕ
  pub none : ℕ

-- the tree of a root
abbrev pub tree_in : Graph → Root → Tree
tree_in g Everything = everything
tree_in g Nothing = nothing
tree_in g (Items k) = items (level_of g.store (Some k))

-- how many handles have a root
abbrev pub held_count : Graph → Root → ℕ
held_count g Everything = g.all
held_count g Nothing = g.none
held_count g (Items k) = held_of g.store k

-- how many handles there are
abbrev pub handle_count : Graph → ℕ
handle_count g = g.all + g.none + total_held g.store

-- the link to a root's level, none where it has no items
abbrev pub link_of : Root → Option ℕ
link_of Everything = None
link_of Nothing = None
link_of (Items k) = Some k

-- the links of a list of roots
abbrev pub links_of : List Root → List (Option ℕ)
links_of [] = []
links_of (r ∷ rest) = link_of r ∷ links_of rest

-- 1 where the root is everything
abbrev pub all_at : Root → ℕ
all_at Everything = 1
all_at Nothing = 0
all_at (Items k) = 0

-- 1 where the root is nothing
abbrev pub none_at : Root → ℕ
none_at Everything = 0
none_at Nothing = 1
none_at (Items k) = 0

-- how often everything stands in a list of roots
abbrev pub all_in : List Root → ℕ
all_in [] = 0
all_in (r ∷ rest) = all_at r + all_in rest

-- how often nothing stands in a list of roots
abbrev pub none_in : List Root → ℕ
none_in [] = 0
none_in (r ∷ rest) = none_at r + none_in rest

-- how often a root stands in a list
abbrev pub times : Root → List Root → ℕ
times Everything roots = all_in roots
times Nothing roots = none_in roots
times (Items k) roots = owed k (links_of roots)

-- these roots are held, each as often as it is listed
abbrev pub IsHeld : Graph → List Root → Type 0
IsHeld g roots = (r : Root) → times r roots ≤ held_count g r

-- The handles that a call spends and gives. The parts stay, and each handle held besides those spent keeps its tree.
pub record Steps (old new : Graph) (spent given : List Root) : Type 0 where
  pub parts : new.nullable ≡ old.nullable
  pub held : (r : Root) → held_count new r + times r spent ≡ held_count old r + times r given
  pub keeps : (r : Root) → times r spent < held_count old r → tree_in new r ≡ tree_in old r

-- the tree of each handle is canonical
abbrev pub AreCanonical : Graph → Type 0
AreCanonical g = (r : Root) → 0 < held_count g r → IsCanonical g.nullable (tree_in g r)

-- what every call keeps: canonical trees, and no more handles than were let in
pub record IsKept (g : Graph) : Type 0 where
  pub canonical : AreCanonical g
  pub few : handle_count g < 2 ^ 32
