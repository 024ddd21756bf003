-- Nodes that stand in the tree of a lent link.
use Rattle.std.proofs.Common.{◌≡◌, ◌+◌, ◌≤◌, arith, ℕ, suc, [], Option, Some, None, IsSome, refl, ap, sym, ◌∙◌, subst}
use Rattle.slab.specs.Slab.{Slab, get}
use Rattle.rx_value.specs.declared.order.Span.{Span}
use Rattle.rx_level.specs.declared.nodes.Node.{Node}
use Rattle.rx_level.specs.Tree.{Tree, Fork, fork_of}
use Rattle.rx_level.specs.Tree.Tree.{none, some}
use Rattle.rx_level.specs.Store.{IsSound, Body, body_in, rank_in, tree_of, tree_at}
use Rattle.rx_level.specs.Step.{Lent}
use Rattle.rx_level.specs.Standing.{StandsAt, StandsIn}
use Rattle.rx_level.specs.Standing.StandsAt.{here, below, left, right}
use Rattle.rx_level.proofs.Unfolding.{tree_of-node}
use Rattle.rx_level.proofs.Lending.{lent_links}
use Rattle.rx_level.proofs.Heights.{forked}

-- how many nodes a tree has, each counted at each place
abbrev pub nodes_of : Tree → ℕ
nodes_of none = 0
nodes_of (some k s c l r) = 1 + nodes_of c + nodes_of l + nodes_of r

-- the node of a link, and the trees of what it leads to
pub record NodeAt (s : Slab Node) (k : ℕ) : Type 0 where
  pub node : Node
  pub is : get s k ≡ Some node
  pub tree : tree_of s (Some k) ≡ some k node.span (tree_of s node.child) (tree_of s node.left) (tree_of s node.right)

pub node_of : (s : Slab Node) → IsSound s [] → (k : ℕ) (o : Option Node) → get s k ≡ o → IsSome (get s k) → NodeAt s k
node_of s sound k None is there = absurd (cc (is, there))
node_of s sound k (Some v) is there = record { node = v; is = is; tree = tree_of-node s None [] sound k v is }

abbrev number_of : Tree → Option ℕ
number_of none = None
number_of (some k s c l r) = Some k

-- a tree with a fork, and a number that stands at its top
pub tree_forked : (s : Slab Node) → IsSound s [] → (k : ℕ) → IsSome (get s k) → (f : Fork) → fork_of (tree_of s (Some k)) ≡ Some f → tree_of s (Some k) ≡ some k f.span f.child f.left f.right
tree_forked s sound k there f e =
    let h = forked (tree_of s (Some k)) f e in
    let n = node_of s sound k (get s k) refl there in
    let numbers : Some h.number ≡ Some k = ap number_of (sym h.is ∙ n.tree) in
    let number : h.number ≡ k = cc numbers in
    h.is ∙ ap (λ x. some x f.span f.child f.left f.right) number

tree_absent : (s : Slab Node) (k : ℕ) → get s k ≡ None → tree_of s (Some k) ≡ none
tree_absent s k is = ap (λ o. tree_at (rank_in o) s (Some k)) is

abbrev child_of : Tree → Tree
child_of none = none
child_of (some k s c l r) = c

abbrev left_of : Tree → Tree
left_of none = none
left_of (some k s c l r) = l

abbrev right_of : Tree → Tree
right_of none = none
right_of (some k s c l r) = r

-- a link with a tree that has a node
pub record Rooted (s : Slab Node) (root : Option ℕ) (m : ℕ) (sp : Span) (c l r : Tree) : Type 0 where
  pub node : Node
  pub root_is : root ≡ Some m
  pub is : get s m ≡ Some node
  pub child : tree_of s node.child ≡ c
  pub left : tree_of s node.left ≡ l
  pub right : tree_of s node.right ≡ r

rooted_at : (s : Slab Node) → IsSound s [] → (k : ℕ) (o : Option Node) → get s k ≡ o → (m : ℕ) (sp : Span) (c l r : Tree) → tree_of s (Some k) ≡ some m sp c l r → Rooted s (Some k) m sp c l r
rooted_at s sound k None is m sp c l r e = let no : none ≡ some m sp c l r = sym (tree_absent s k is) ∙ e in absurd (cc no)
rooted_at s sound k (Some v) is m sp c l r e =
    let same : some k v.span (tree_of s v.child) (tree_of s v.left) (tree_of s v.right) ≡ some m sp c l r = sym (tree_of-node s None [] sound k v is) ∙ e in
    let numbers : Some k ≡ Some m = ap number_of same in
    let number : k ≡ m = cc numbers in
    record { node = v; root_is = numbers; is = ap (get s) (sym number) ∙ is; child = ap child_of same; left = ap left_of same; right = ap right_of same }

pub rooted : (s : Slab Node) → IsSound s [] → (root : Option ℕ) (m : ℕ) (sp : Span) (c l r : Tree) → tree_of s root ≡ some m sp c l r → Rooted s root m sp c l r
rooted s sound None m sp c l r e = absurd (cc e)
rooted s sound (Some k) m sp c l r e = rooted_at s sound k (get s k) refl m sp c l r e

-- what stands in the tree of a lent link is lent, and its tree is no larger
pub record IsStanding (s : Slab Node) (k : ℕ) (t : Tree) : Type 0 where
  pub lent : Lent s [] (Some k)
  pub small : nodes_of (tree_of s (Some k)) ≤ nodes_of t

larger : (s : Slab Node) (k : ℕ) (t u : Tree) → IsStanding s k t → nodes_of t ≤ nodes_of u → IsStanding s k u
larger s k t u h low = let small = h.small in record { lent = h.lent; small = omega (arith, small, low) }

abbrev body_of : Node → Body
body_of v = record { span = v.span; child = v.child; left = v.left; right = v.right }

pub standing : (s : Slab Node) → IsSound s [] → (k p : ℕ) (t : Tree) → StandsAt k p t → (root : Option ℕ) → tree_of s root ≡ t → Lent s [] root → IsStanding s k t
standing s sound k p t (here sp c l r) root e lent =
    let v = rooted s sound root k sp c l r e in
    record {
      lent = subst (λ (x : Option ℕ). Lent s [] x) v.root_is lent;
      small = let same : nodes_of (tree_of s (Some k)) ≡ nodes_of (some k sp c l r) = ap (λ x. nodes_of (tree_of s x)) (sym v.root_is) ∙ ap nodes_of e in omega (arith, same);
    }
standing s sound k p t (below q m sp c l r h) root e lent =
    let v = rooted s sound root m sp c l r e in
    let links = lent_links s sound [] m (subst (λ (x : Option ℕ). Lent s [] x) v.root_is lent) (body_of v.node) (ap body_in v.is) in
    larger s k c (some m sp c l r) (standing s sound k q c h v.node.child v.child links.child) (omega arith)
standing s sound k p t (left q m sp c l r h) root e lent =
    let v = rooted s sound root m sp c l r e in
    let links = lent_links s sound [] m (subst (λ (x : Option ℕ). Lent s [] x) v.root_is lent) (body_of v.node) (ap body_in v.is) in
    larger s k l (some m sp c l r) (standing s sound k q l h v.node.left v.left links.left) (omega arith)
standing s sound k p t (right q m sp c l r h) root e lent =
    let v = rooted s sound root m sp c l r e in
    let links = lent_links s sound [] m (subst (λ (x : Option ℕ). Lent s [] x) v.root_is lent) (body_of v.node) (ap body_in v.is) in
    larger s k r (some m sp c l r) (standing s sound k q r h v.node.right v.right links.right) (omega arith)

-- where a number stands in a node's tree
pub data Where (m k : ℕ) (c l r : Tree) : Type 0 where
  at_top : m ≡ k → Where m k c l r
  in_child : StandsIn m c → Where m k c l r
  in_left : StandsIn m l → Where m k c l r
  in_right : StandsIn m r → Where m k c l r

abbrev Cases : ℕ → Tree → Type 0
Cases m none = ⊥
Cases m (some k s c l r) = Where m k c l r

cases : (m p : ℕ) (t : Tree) → StandsAt m p t → Cases m t
cases m p t (here s c l r) = at_top refl
cases m p t (below q k s c l r h) = in_child (q, h)
cases m p t (left q k s c l r h) = in_left (q, h)
cases m p t (right q k s c l r h) = in_right (q, h)

pub stands_where : (m k : ℕ) (s : Span) (c l r t : Tree) → t ≡ some k s c l r → StandsIn m t → Where m k c l r
stands_where m k s c l r t is h = let h' : StandsIn m (some k s c l r) = subst (λ (u : Tree). StandsIn m u) is h in cases m h'.0 (some k s c l r) h'.1

pub none_stands : (m : ℕ) → StandsIn m none → ⊥
none_stands m h = cases m h.0 none h.1

-- what stands in a child's tree stands in the node's
pub child_stands : (t : Tree) (f : Fork) → fork_of t ≡ Some f → (m : ℕ) → StandsIn m f.child → StandsIn m t
child_stands t f e m h =
    let o = forked t f e in
    subst (λ u. StandsIn m u) (sym o.is) (suc h.0, below h.0 o.number f.span f.child f.left f.right h.1)
