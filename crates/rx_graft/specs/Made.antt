-- What a memory holds: what was made at which place, and where the numbers of it come from.
use Rattle.std.specs.Prelude.{◌≡◌, ◌⊎◌, ◌↔◌, ◌&&◌, nat_eq, ℕ, Bool, ◌+◌, ◌-◌, ◌<◌, ◌≤◌, List, [], ◌∷◌, ◌++◌, drop, length, Option, Some, None}
use Rattle.std.specs.List.{IsDistinct}
use Rattle.std.specs.Map.{keys_of, lookup}
use Rattle.slab.specs.Slab.{Slab, slab_len}
use Rattle.rx_level.specs.declared.nodes.Node.{Node}
use Rattle.rx_tree.specs.Tree.{Level}
use Rattle.rx_level.specs.Tree.{Tree}
use Rattle.rx_level.specs.Store.{owed, tree_of}
use Rattle.rx_level.specs.Step.{Owns, Step, Lent, level_of, tall_of}
use Rattle.rx_level.specs.Standing.{StandsAt, StandsIn}
use Rattle.rx_level.specs.Under.{IsUnder}
use Rattle.rx_graft.specs.Hang.{hung, depth_of}

-- a node's number, and how many levels stand above it
abbrev pub Place : Type 0
Place = ℕ × ℕ

-- two places are one
abbrev pub is_same_place : Place → Place → Bool
is_same_place p q = nat_eq p.0 q.0 && nat_eq p.1 q.1

-- a place, and the handle of what was made there
abbrev pub Made : Type 0
Made = Place × Option ℕ

-- no two entries are of one place
abbrev pub AreDifferent : List Made → Type 0
AreDifferent es = IsDistinct is_same_place (keys_of es)

-- it stands in the list
abbrev pub Among : List Made → Made → Type 0
Among [] e = ⊥
Among (x ∷ rest) e = (x ≡ e) ⊎ Among rest e

-- no entry is of this place
abbrev pub Lacks : List Made → Place → Type 0
Lacks es p = lookup (is_same_place p) es ≡ None

-- the last entry of a list has this handle, and the other list is what stands before it
pub record HasLast (old new : List Made) (made : Option ℕ) : Type 0 where
  pub place : Place
  pub is : old ≡ new ++ (place, made) ∷ []

-- the handles of a list
abbrev pub handles_of : List Made → List (Option ℕ)
handles_of [] = []
handles_of (x ∷ rest) = x.1 ∷ handles_of rest

-- the levels of a list of links
abbrev pub levels_of : Slab Node → List (Option ℕ) → List Level
levels_of s [] = []
levels_of s (r ∷ rest) = level_of s r ∷ levels_of s rest

-- each link of a list is lent
abbrev pub AreLent : Slab Node → List (Option ℕ) → Type 0
AreLent s [] = Unit {0}
AreLent s (r ∷ rest) = Lent s [] r × AreLent s rest

-- the number stands in the tree of a link of the list
abbrev pub StandsInOne : Slab Node → List (Option ℕ) → ℕ → Type 0
StandsInOne s [] m = ⊥
StandsInOne s (r ∷ rest) m = StandsIn m (tree_of s r) ⊎ StandsInOne s rest m

-- the number is that of a handle of the list, or stands in the tree of a link
abbrev pub IsMadeOf : Slab Node → List (Option ℕ) → List Made → Option ℕ → Type 0
IsMadeOf s links es r = (m : ℕ) → StandsIn m (tree_of s r) → (0 < owed m (handles_of es)) ⊎ StandsInOne s links m

-- What was made at a place is the level there, with the links' levels hung below.
pub record IsKnown (s : Slab Node) (links : List (Option ℕ)) (es : List Made) (e : Made) : Type 0 where
  pub lent : Lent s [] (Some e.0.0)
  pub level : level_of s e.1 ≡ hung (drop e.0.1 (levels_of s links)) (level_of s (Some e.0.0))
  pub tall : tall_of s e.1 ≡ tall_of s (Some e.0.0)
  pub deep : depth_of (level_of s (Some e.0.0)) ≤ length links - e.0.1
  pub made : IsMadeOf s links es e.1

-- The memory owns its handles, the links are lent, and what the memory tells is so.
pub record IsReady (s : Slab Node) (links : List (Option ℕ)) (es : List Made) : Type 0 where
  pub owns : Owns s (handles_of es)
  pub lent : AreLent s links
  pub known : (e : Made) → Among es e → IsKnown s links es e

-- A call spends nothing, adds to a memory, and gives these handles and those of what it added.
pub record Adds (old new : Slab Node) (before after : List Made) (given : List (Option ℕ)) : Type 0 where
  pub came : List Made
  pub is : after ≡ before ++ came
  pub step : Step old new [] (given ++ handles_of came)

-- the place is that of a node of the tree, which stands so far down
pub record StandsFrom (d : ℕ) (t : Tree) (p : Place) : Type 0 where
  pub below : ℕ
  pub depth : p.1 ≡ d + below
  pub stands : StandsAt p.0 below t

-- A call hangs what is so far down in the list of links below a level: what it adds to a memory, and of what it makes the link that it gives.
pub record Hangs (old new : Slab Node) (links : List (Option ℕ)) (d : ℕ) (root : Option ℕ) (before after : List Made) (r : Option ℕ) : Type 0 where
  pub adds : Adds old new before after (r ∷ [])
  pub ready : IsReady new links after
  pub places : (e : Made) → Among after e → Among before e ⊎ StandsFrom d (tree_of old root) e.0
  pub deep : depth_of (level_of old root) ≤ length links - d
  pub live : slab_len new + length before ≤ slab_len old + length after
  pub made : IsMadeOf new links after r

-- the numbers under each link are those that stand in its tree
abbrev pub AreUnder : Slab Node → Type 0
AreUnder s = (r : Option ℕ) (m : ℕ) → IsUnder s r m ↔ StandsIn m (tree_of s r)

-- each number that stands in a link's tree stands in that of h
abbrev pub StandIn : Slab Node → List (Option ℕ) → Option ℕ → Type 0
StandIn s links h = (m : ℕ) → StandsInOne s links m → StandsIn m (tree_of s h)
