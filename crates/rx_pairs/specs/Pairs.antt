-- What a memory of pairs of levels holds.
use Rattle.std.specs.Prelude.{◌≡◌, ◌⊎◌, ◌&&◌, nat_eq, ℕ, Bool, List, [], ◌∷◌, ◌++◌, Option, Some, None}
use Rattle.std.specs.Map.{lookup}
use Rattle.slab.specs.Slab.{Slab}
use Rattle.rx_tree.specs.Tree.{Level}
use Rattle.rx_level.specs.declared.nodes.Node.{Node}
use Rattle.rx_level.specs.Step.{Owns, Step, level_of}

-- the links of two levels
abbrev pub Pair : Type 0
Pair = ℕ × ℕ

-- two pairs are one
abbrev pub is_same_pair : Pair → Pair → Bool
is_same_pair p q = nat_eq p.0 q.0 && nat_eq p.1 q.1

-- a pair, and the link to what was made of it
abbrev pub Made : Type 0
Made = Pair × Option ℕ

-- it stands in the list
abbrev pub Among : List Made → Made → Type 0
Among [] e = ⊥
Among (x ∷ rest) e = (x ≡ e) ⊎ Among rest e

-- no entry is of this pair
abbrev pub Lacks : List Made → Pair → Type 0
Lacks es p = lookup (is_same_pair p) es ≡ None

-- the handles of a list: of both levels of each pair, and of what was made
abbrev pub handles_of : List Made → List (Option ℕ)
handles_of [] = []
handles_of (x ∷ rest) = Some x.0.0 ∷ Some x.0.1 ∷ x.1 ∷ handles_of rest

-- an answer's level stands in this relation to the levels of its pair
abbrev pub IsSo : (Level → Level → Level → Type 0) → Slab Node → Made → Type 0
IsSo R s e = R (level_of s (Some e.0.0)) (level_of s (Some e.0.1)) (level_of s e.1)

-- A memory owns its handles, and each answer stands in a relation to its pair.
pub record IsReady (R : Level → Level → Level → Type 0) (s : Slab Node) (es : List Made) : Type 0 where
  pub owns : Owns s (handles_of es)
  pub known : (e : Made) → Among es e → IsSo R s e

-- A call spends nothing, adds to a memory, and gives these handles and those of what it added.
pub record Adds (old new : Slab Node) (before after : List Made) (given : List (Option ℕ)) : Type 0 where
  pub came : List Made
  pub is : after ≡ before ++ came
  pub step : Step old new [] (given ++ handles_of came)

-- The same, and each answer of the memory stands in a relation to its pair.
pub record Keeps (R : Level → Level → Level → Type 0) (old new : Slab Node) (before after : List Made) (given : List (Option ℕ)) : Type 0 where
  pub adds : Adds old new before after given
  pub known : (e : Made) → Among after e → IsSo R new e
