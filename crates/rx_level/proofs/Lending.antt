-- A link that stands in a held tree stays as long as that is held.
use Rattle.std.proofs.Common.{◌≡◌, ◌+◌, ◌<◌, ◌≤◌, arith, ℕ, List, [], Option, Some, None, IsSome, refl, ap, sym, ◌∙◌, subst}
use Rattle.slab.specs.Slab.{Slab, get}
use Rattle.rx_value.specs.declared.order.Span.{Span}
use Rattle.rx_level.specs.declared.nodes.Node.{Node}
use Rattle.rx_tree.specs.Join.{join_level}
use Rattle.rx_tree.specs.Tree.Level.{item}
use Rattle.rx_level.specs.Tree.{Tree, fork_of}
use Rattle.rx_level.specs.Tree.Tree.{none, some}
use Rattle.rx_level.specs.Store.{at, IsThere, IsSound, Body, body_in, rank_in, held_of, leads, owed, tree_of, tree_at}
use Rattle.rx_level.specs.Step.{Step, level_of, IsSubtree, IsLent, Lent}
use Rattle.rx_level.specs.Step.IsSubtree.{self, child, left, right}
use Rattle.rx_level.proofs.Steps.{level_of-parts, tree_of-parts, links_there}
use Rattle.rx_level.proofs.Unfolding.{tree_of-node}
use Rattle.rx_level.proofs.Counts.{leads_same}

abbrev root_of : Tree → Option ℕ
root_of none = None
root_of (some k s c l r) = Some k

abbrev pub child_of : Tree → Tree
child_of none = none
child_of (some k s c l r) = c

abbrev pub left_of : Tree → Tree
left_of none = none
left_of (some k s c l r) = l

abbrev pub right_of : Tree → Tree
right_of none = none
right_of (some k s c l r) = r

tree_absent : (s : Slab Node) (k : ℕ) → get s k ≡ None → tree_of s (Some k) ≡ none
tree_absent s k is = ap (λ o. tree_at (rank_in o) s (Some k)) is

stands_node : (s : Slab Node) → IsSound s [] → (k : ℕ) (o : Option Node) → get s k ≡ o → tree_of s (root_of (tree_of s (Some k))) ≡ tree_of s (Some k)
stands_node s sound k None is = subst (λ (t : Tree). tree_of s (root_of t) ≡ t) (sym (tree_absent s k is)) refl
stands_node s sound k (Some v) is =
    let e : tree_of s (Some k) ≡ some k v.span (tree_of s v.child) (tree_of s v.left) (tree_of s v.right) = tree_of-node s None [] sound k v is in
    subst (λ (t : Tree). tree_of s (root_of t) ≡ t) (sym e) e

stands_at : (s : Slab Node) → IsSound s [] → (r : Option ℕ) → tree_of s (root_of (tree_of s r)) ≡ tree_of s r
stands_at s sound None = refl
stands_at s sound (Some k) = stands_node s sound k (get s k) refl

record Below (s : Slab Node) (c l r : Tree) : Type 0 where
  child : tree_of s (root_of c) ≡ c
  left : tree_of s (root_of l) ≡ l
  right : tree_of s (root_of r) ≡ r

stands_below : (s : Slab Node) → IsSound s [] → (k : ℕ) (o : Option Node) → get s k ≡ o → (sp : Span) (c l r : Tree) → tree_of s (Some k) ≡ some k sp c l r → Below s c l r
stands_below s sound k None is sp c l r e = let no : none ≡ some k sp c l r = sym (tree_absent s k is) ∙ e in absurd (cc no)
stands_below s sound k (Some v) is sp c l r e =
    let same : some k v.span (tree_of s v.child) (tree_of s v.left) (tree_of s v.right) ≡ some k sp c l r = sym (tree_of-node s None [] sound k v is) ∙ e in
    record {
      child = subst (λ (t : Tree). tree_of s (root_of t) ≡ t) (ap child_of same) (stands_at s sound v.child);
      left = subst (λ (t : Tree). tree_of s (root_of t) ≡ t) (ap left_of same) (stands_at s sound v.left);
      right = subst (λ (t : Tree). tree_of s (root_of t) ≡ t) (ap right_of same) (stands_at s sound v.right);
    }

part_stands : (s : Slab Node) → IsSound s [] → (t u : Tree) → IsSubtree t u → tree_of s (root_of u) ≡ u → tree_of s (root_of t) ≡ t
part_stands s sound t u (self) h = h
part_stands s sound t u (child k sp c l r p) h = part_stands s sound t c p (stands_below s sound k (get s k) refl sp c l r h).child
part_stands s sound t u (left k sp c l r p) h = part_stands s sound t l p (stands_below s sound k (get s k) refl sp c l r h).left
part_stands s sound t u (right k sp c l r p) h = part_stands s sound t r p (stands_below s sound k (get s k) refl sp c l r h).right

part_part : (t u v : Tree) → IsSubtree t u → IsSubtree u v → IsSubtree t v
part_part t u v p (self) = p
part_part t u v p (child k sp c l r q) = child k sp c l r (part_part t u c p q)
part_part t u v p (left k sp c l r q) = left k sp c l r (part_part t u l p q)
part_part t u v p (right k sp c l r q) = right k sp c l r (part_part t u r p q)

root_there : (s : Slab Node) → IsSound s [] → (k : ℕ) (o : Option Node) → get s k ≡ o → IsSome o → root_of (tree_of s (Some k)) ≡ Some k
root_there s sound k None is there = cc there
root_there s sound k (Some v) is there = ap root_of (tree_of-node s None [] sound k v is)

tree_there : (s : Slab Node) (k : ℕ) (o : Option Node) → get s k ≡ o → root_of (tree_of s (Some k)) ≡ Some k → IsSome (get s k)
tree_there s k None is h = let no : None ≡ Some k = ap root_of (sym (tree_absent s k is)) ∙ h in absurd (cc no)
tree_there s k (Some v) is h = rw is refl

pub record StaysLent (a b : Slab Node) (besides : List (Option ℕ)) (r : Option ℕ) : Type 0 where
  pub tree : tree_of b r ≡ tree_of a r
  pub lent : Lent b besides r

pub lent_after : (a b : Slab Node) (s g besides later : List (Option ℕ)) → IsSound a [] → Step a b s g → ((m : ℕ) → owed m s ≤ owed m besides) → ((m : ℕ) → owed m later + owed m s ≤ owed m besides + owed m g) → (r : Option ℕ) → Lent a besides r → StaysLent a b later r
lent_after a b s g besides later sound step low fits None h = record { tree = refl; lent = tt }
lent_after a b s g besides later sound step low fits (Some k) h =
    let m = h.holder in
    let holder : tree_of b (Some m) ≡ tree_of a (Some m) = step.keeps m (omega (arith, h.held, low m)) in
    let part : IsSubtree (tree_of a (Some k)) (tree_of b (Some m)) = subst (λ (t : Tree). IsSubtree (tree_of a (Some k)) t) (sym holder) h.part in
    let root : root_of (tree_of a (Some k)) ≡ Some k = root_there a sound k (get a k) refl h.there in
    let stands : tree_of b (root_of (tree_of a (Some k))) ≡ tree_of a (Some k) = part_stands b step.sound (tree_of a (Some k)) (tree_of b (Some m)) part (stands_at b step.sound (Some m)) in
    let same : tree_of b (Some k) ≡ tree_of a (Some k) = subst (λ (r : Option ℕ). tree_of b r ≡ tree_of a (Some k)) root stands in
    record {
      tree = same;
      lent = record {
        holder = m;
        held = omega (arith, h.held, step.held m, low m, fits m);
        part = subst (λ (t : Tree). IsSubtree t (tree_of b (Some m))) (sym same) part;
        there = tree_there b k (get b k) refl (ap root_of same ∙ root);
      };
    }

lent_of : (s : Slab Node) (besides : List (Option ℕ)) (m : ℕ) → owed m besides < held_of s m → (r : Option ℕ) → IsThere s r → IsSubtree (tree_of s r) (tree_of s (Some m)) → Lent s besides r
lent_of s besides m more None there part = tt
lent_of s besides m more (Some k) there part = record { holder = m; held = more; part = part; there = there }

pub record LinksLent (s : Slab Node) (besides : List (Option ℕ)) (p : Body) : Type 0 where
  pub child : Lent s besides p.child
  pub left : Lent s besides p.left
  pub right : Lent s besides p.right

-- what a lent node leads to is lent
pub lent_links : (s : Slab Node) → IsSound s [] → (besides : List (Option ℕ)) (k : ℕ) → IsLent s besides (Some k) → (p : Body) → body_in (get s k) ≡ Some p → LinksLent s besides p
lent_links s sound besides k h p e =
    let there = links_there s sound k p e in
    let tree : tree_of s (Some k) ≡ some k p.span (tree_of s p.child) (tree_of s p.left) (tree_of s p.right) = tree_of-parts s sound k p e in
    let whole : IsSubtree (some k p.span (tree_of s p.child) (tree_of s p.left) (tree_of s p.right)) (tree_of s (Some h.holder)) = subst (λ (t : Tree). IsSubtree t (tree_of s (Some h.holder))) tree h.part in
    record {
      child = lent_of s besides h.holder h.held p.child there.child (part_part _ _ _ (child k p.span _ _ _ self) whole);
      left = lent_of s besides h.holder h.held p.left there.left (part_part _ _ _ (left k p.span _ _ _ self) whole);
      right = lent_of s besides h.holder h.held p.right there.right (part_part _ _ _ (right k p.span _ _ _ self) whole);
    }

-- a held handle is lent besides the others
pub lent_held : (s : Slab Node) (besides : List (Option ℕ)) (r : Option ℕ) → IsThere s r → ((m : ℕ) → owed m besides + leads m r ≤ held_of s m) → Lent s besides r
lent_held s besides None there room = tt
lent_held s besides (Some k) there room = record { holder = k; held = omega (arith, room k, leads_same k); part = self; there = there }

-- what a link's node says, of a store and a link that may be none
pub record SeenAs (s : Slab Node) (root : Option ℕ) (p : Body) : Type 0 where
  pub fork : fork_of (tree_of s root) ≡ Some (record { span = p.span; child = tree_of s p.child; left = tree_of s p.left; right = tree_of s p.right })
  pub level : level_of s root ≡ join_level (level_of s p.left) (item p.span (level_of s p.child) (level_of s p.right))
  pub links : LinksLent s [] p

pub seen_as : (s : Slab Node) → IsSound s [] → (root : Option ℕ) → Lent s [] root → (p : Body) → body_in (at s root) ≡ Some p → SeenAs s root p
seen_as s sound None lent p e = absurd (cc e)
seen_as s sound (Some k) lent p e = record {
  fork = ap fork_of (tree_of-parts s sound k p e);
  level = level_of-parts s sound k p e;
  links = lent_links s sound [] k lent p e;
}

-- a lent link that leads to no node is none
pub unseen : (s : Slab Node) (root : Option ℕ) → Lent s [] root → at s root ≡ None → root ≡ None
unseen s None lent e = refl
unseen s (Some k) lent e = let no : IsSome (get s k) = lent.there in absurd (cc (no, e))

-- the same where the store goes by two names
pub seen_in : (a b : Slab Node) → a ≡ b → IsSound a [] → (root : Option ℕ) → Lent b [] root → (p : Body) → body_in (at a root) ≡ Some p → SeenAs b root p
seen_in a b same sound root lent p e =
    seen_as b (subst (λ (s : Slab Node). IsSound s []) same sound) root lent p (subst (λ (s : Slab Node). body_in (at s root) ≡ Some p) same e)

pub unseen_in : (a b : Slab Node) → a ≡ b → (root : Option ℕ) → Lent b [] root → at a root ≡ None → root ≡ None
unseen_in a b same root lent e = unseen b root lent (subst (λ (s : Slab Node). at s root ≡ None) same e)
