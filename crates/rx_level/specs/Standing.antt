-- Where the nodes of a tree stand.
use Rattle.std.specs.Prelude.{◌≡◌, ℕ, suc}
use Rattle.rx_value.specs.declared.order.Span.{Span}
use Rattle.rx_level.specs.Tree.{Tree}
use Rattle.rx_level.specs.Tree.Tree.{some}

-- the node of this number stands in a tree, so many parts below the topmost
pub data StandsAt (k : ℕ) : ℕ → Tree → Type 0 where
  here : (s : Span) (c l r : Tree) → StandsAt k 0 (some k s c l r)
  below : (p m : ℕ) (s : Span) (c l r : Tree) → StandsAt k p c → StandsAt k (suc p) (some m s c l r)
  left : (p m : ℕ) (s : Span) (c l r : Tree) → StandsAt k p l → StandsAt k p (some m s c l r)
  right : (p m : ℕ) (s : Span) (c l r : Tree) → StandsAt k p r → StandsAt k p (some m s c l r)

-- the node of this number stands in a tree
abbrev pub StandsIn : ℕ → Tree → Type 0
StandsIn k t = (p : ℕ) × StandsAt k p t

-- wherever a node stands in a tree, it stands so many parts below the topmost
abbrev pub IsAtOneDepth : Tree → Type 0
IsAtOneDepth t = (k p q : ℕ) → StandsAt k p t → StandsAt k q t → p ≡ q
