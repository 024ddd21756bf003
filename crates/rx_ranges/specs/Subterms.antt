-- The signed conditions under a signed condition: itself, its parts, and the fronts of its lists. Below NOT the sign turns.
use Rattle.std.specs.Prelude.{ℕ, zero, suc, ◌≤◌, Bool, true, false, not, List}
use Rattle.rx_value.specs.declared.shapes.Part.{Part}
use Rattle.rx_cond.specs.Tree.{Tree, Trees, truth, compare, member, row_member, is_null, like, neg, conj, disj, none, more}
use Rattle.rx_regions.specs.Cans.{can_be, all_can, one_can}
use Rattle.rx_sets.specs.Sets.{KeySet, IsSmall}

-- the first so many of these conditions
abbrev pub front : ℕ → Trees → Trees
front zero items = none
front (suc n) none = none
front (suc n) (more t ts) = more t (front n ts)

abbrev mutual
  -- a signed condition and all signed conditions under it have a property
  pub HoldsUnder : (Bool → Tree → Type 0) → Bool → Tree → Type 0
  HoldsUnder P sign (truth t) = P sign (truth t)
  HoldsUnder P sign (compare op left right) = P sign (compare op left right)
  HoldsUnder P sign (member left list) = P sign (member left list)
  HoldsUnder P sign (row_member columns list) = P sign (row_member columns list)
  HoldsUnder P sign (is_null operand) = P sign (is_null operand)
  HoldsUnder P sign (like column pattern) = P sign (like column pattern)
  HoldsUnder P sign (neg t) = P sign (neg t) × HoldsUnder P (not sign) t
  HoldsUnder P sign (conj items) = ((n : ℕ) → P sign (conj (front n items))) × HoldsUnderEach P sign items
  HoldsUnder P sign (disj items) = ((n : ℕ) → P sign (disj (front n items))) × HoldsUnderEach P sign items

  -- each of these conditions with this sign, and all under it, have a property
  pub HoldsUnderEach : (Bool → Tree → Type 0) → Bool → Trees → Type 0
  HoldsUnderEach P sign none = Unit {0}
  HoldsUnderEach P sign (more t ts) = HoldsUnder P sign t × HoldsUnderEach P sign ts

-- a signed condition has a tree of no more items than the limit on these parts, each of which may be NULL or not
abbrev pub IsSmallOn : List Bool → List Part → ℕ → Bool → Tree → Type 0
IsSmallOn nullable parts limit sign t = IsSmall nullable limit (can_be sign t parts)

-- a signed condition and all under it have such trees
abbrev pub AreSmall : List Bool → List Part → ℕ → Bool → Tree → Type 0
AreSmall nullable parts limit sign t = HoldsUnder (IsSmallOn nullable parts limit) sign t

-- all of these conditions can have this truth, or one of them can
abbrev pub joined_can : Bool → Bool → Trees → List Part → KeySet
joined_can true sign items parts ps = all_can sign items parts ps
joined_can false sign items parts ps = one_can sign items parts ps

-- each front of these conditions, all or one of them with this truth, has such a tree, and so have all under each
pub record AreSmallJoined (nullable : List Bool) (parts : List Part) (limit : ℕ) (meets sign : Bool) (items : Trees) : Type 0 where
  pub fronts : (n : ℕ) → IsSmall nullable limit (joined_can meets sign (front n items) parts)
  pub each : HoldsUnderEach (IsSmallOn nullable parts limit) sign items
