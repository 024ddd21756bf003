-- A level as the tree of nodes that keeps it.
use Rattle.std.specs.Prelude.{◌≡◌, ℕ, zero, suc, ◌+◌, ◌≤◌, max, Option, Some, None}
use Rattle.rx_value.specs.declared.order.Span.{Span}
use Rattle.rx_tree.specs.Tree.{Level}
use Rattle.rx_tree.specs.Join.{join_level}
use Rattle.rx_tree.specs.Tree.Level.{end, item}

-- a node: its number, its span, the tree below it (none: all keys), and the items to its left and right
pub data Tree : Type 0 where
  none : Tree
  some : ℕ → Span → Tree → Tree → Tree → Tree

-- the items of a tree in order
abbrev pub plain : Tree → Level
plain none = end
plain (some k s c l r) = join_level (plain l) (item s (plain c) (plain r))

-- the height of a level's own tree
abbrev pub tall : Tree → ℕ
tall none = 0
tall (some k s c l r) = 1 + max (tall l) (tall r)

-- neither number is more than one above the other
abbrev pub IsNear : ℕ → ℕ → Type 0
IsNear m n = (m ≤ n + 1) × (n ≤ m + 1)

-- the height of a tree that is made even, from the heights of its sides
abbrev pub IsHeight : ℕ → ℕ → ℕ → Type 0
IsHeight l r h = (max l r ≤ h) × (h ≤ 1 + max l r) × (IsNear l r → h ≡ 1 + max l r)

-- in the level's own tree, no two sides differ by more than one in height
abbrev pub IsEven : Tree → Type 0
IsEven none = Unit {0}
IsEven (some k s c l r) = IsNear (tall l) (tall r) × IsEven l × IsEven r

-- the fewest items of an even tree of this height
abbrev pub least : ℕ → ℕ
least zero = 0
least (suc zero) = 1
least (suc (suc h)) = 1 + least (suc h) + least h

-- a node without its number
pub record Fork : Type 0 where
  pub span : Span
  pub child : Tree
  pub left : Tree
  pub right : Tree

-- the topmost node of a tree, without its number
abbrev pub fork_of : Tree → Option Fork
fork_of none = None
fork_of (some k s c l r) = Some (record { span = s; child = c; left = l; right = r })
