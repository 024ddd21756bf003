-- A node stands in a link's tree as many parts deep as its own part is beyond the link's, and where the link leads to it.
use Rattle.std.proofs.Common.{◌≡◌, ◌+◌, ◌<◌, ◌≤◌, ◌↔◌, inl, inr, arith, ℕ, zero, suc, [], Option, Some, None, IsSome, refl, ap, sym, ◌∙◌, subst}
use Rattle.std.proofs.lemmas.Bool.Decides.{eqb_tells}
use Rattle.slab.specs.Slab.{Slab, get}
use Rattle.rx_value.specs.declared.order.Span.{Span}
use Rattle.rx_level.specs.declared.nodes.Node.{Node}
use Rattle.rx_level.specs.Tree.{Tree}
use Rattle.rx_level.specs.Tree.Tree.{none, some}
use Rattle.rx_level.specs.Store.{leads, links_in, rank_in, rank_of, part_in, part_of, IsThere, IsAt, IsSound, grown, tree_at, tree_of}
use Rattle.rx_level.specs.Standing.{StandsAt, StandsIn, IsAtOneDepth}
use Rattle.rx_level.specs.Standing.StandsAt.{here, below, left, right}
use Rattle.rx_level.specs.Under.{IsUnder}
use Rattle.rx_level.specs.Under.IsUnder.{here as top, below as under}
use Rattle.rx_level.proofs.Unfolding.{link_there}
use Rattle.rx_level.proofs.Reach.{led}
use Rattle.rx_level.proofs.Marks.{under_down}
use Rattle.rx_level.proofs.Lending.{child_of, left_of, right_of}

nowhere : (k p : ℕ) (t : Tree) → StandsAt k p t → t ≡ none → ⊥
nowhere k p t (here s c l r) e = absurd (cc e)
nowhere k p t (below q m s c l r h) e = absurd (cc e)
nowhere k p t (left q m s c l r h) e = absurd (cc e)
nowhere k p t (right q m s c l r h) e = absurd (cc e)

-- where a node stands in a tree: at its top, or in one of the three below it
data Place (k p n : ℕ) (c l r : Tree) : Type 0 where
  first : k ≡ n → p ≡ 0 → Place k p n c l r
  in_child : (q : ℕ) → p ≡ suc q → StandsAt k q c → Place k p n c l r
  in_left : StandsAt k p l → Place k p n c l r
  in_right : StandsAt k p r → Place k p n c l r

record Grown (n : ℕ) (c l r : Tree) (n' : ℕ) (c' l' r' : Tree) : Type 0 where
  number : n ≡ n'
  child : c ≡ c'
  left : l ≡ l'
  right : r ≡ r'

abbrev number_of : Tree → ℕ
number_of none = 0
number_of (some k s c l r) = k

same_grown : (n n' : ℕ) (s s' : Span) (c l r c' l' r' : Tree) → some n s c l r ≡ some n' s' c' l' r' → Grown n c l r n' c' l' r'
same_grown n n' s s' c l r c' l' r' e = record {
  number = ap number_of e;
  child = ap child_of e;
  left = ap left_of e;
  right = ap right_of e;
}

place_of : (k p : ℕ) (t : Tree) → StandsAt k p t → (n : ℕ) (s : Span) (c l r : Tree) → t ≡ some n s c l r → Place k p n c l r
place_of k p t (here s c l r) n s' c' l' r' e = first (same_grown k n s s' c l r c' l' r' e).number refl
place_of k p t (below q m s c l r h) n s' c' l' r' e = in_child q refl (subst (λ (x : Tree). StandsAt k q x) (same_grown m n s s' c l r c' l' r' e).child h)
place_of k p t (left q m s c l r h) n s' c' l' r' e = in_left (subst (λ (x : Tree). StandsAt k q x) (same_grown m n s s' c l r c' l' r' e).left h)
place_of k p t (right q m s c l r h) n s' c' l' r' e = in_right (subst (λ (x : Tree). StandsAt k q x) (same_grown m n s s' c l r c' l' r' e).right h)

-- a node that stands so deep in the tree of a link is of a part so far beyond the link's
abbrev IsDeep : Slab Node → ℕ → Type 0
IsDeep s n = (r : Option ℕ) (q : ℕ) → IsAt s q r → (k p : ℕ) → StandsAt k p (tree_at n s r) → part_of s (Some k) ≡ q + p

deep_place : (s : Slab Node) → IsSound s [] → (n m : ℕ) (v : Node) → get s m ≡ Some v → IsDeep s n → (q : ℕ) → part_of s (Some m) ≡ q → (k p : ℕ) → Place k p m (tree_at n s v.child) (tree_at n s v.left) (tree_at n s v.right) → part_of s (Some k) ≡ q + p
deep_place s sound n m v is deep q part k p (first e z) = ap (λ (x : ℕ). part_of s (Some x)) e ∙ omega (arith, part, z)
deep_place s sound n m v is deep q part k p (in_child d e h) =
    let own : v.part ≡ q = sym (ap part_in is) ∙ part in
    omega (arith, own, e, deep v.child (v.part + 1) (sound.shaped m v is).below k d h)
deep_place s sound n m v is deep q part k p (in_left h) =
    let own : v.part ≡ q = sym (ap part_in is) ∙ part in
    omega (arith, own, deep v.left v.part (sound.shaped m v is).before k p h)
deep_place s sound n m v is deep q part k p (in_right h) =
    let own : v.part ≡ q = sym (ap part_in is) ∙ part in
    omega (arith, own, deep v.right v.part (sound.shaped m v is).after k p h)

deep_node : (s : Slab Node) → IsSound s [] → (n m : ℕ) (o : Option Node) → get s m ≡ o → IsDeep s n → (q : ℕ) → part_of s (Some m) ≡ q → (k p : ℕ) → StandsAt k p (grown (tree_at n s) m o) → part_of s (Some k) ≡ q + p
deep_node s sound n m None is deep q part k p h = absurd (nowhere k p none h refl)
deep_node s sound n m (Some v) is deep q part k p h =
    deep_place s sound n m v is deep q part k p (place_of k p _ h m v.span (tree_at n s v.child) (tree_at n s v.left) (tree_at n s v.right) refl)

deep_at : (s : Slab Node) → IsSound s [] → (n : ℕ) → IsDeep s n
deep_at s sound zero r q part k p h = absurd (nowhere k p none h refl)
deep_at s sound (suc n) None q part k p h = absurd (nowhere k p none h refl)
deep_at s sound (suc n) (Some m) q part k p h = deep_node s sound n m (get s m) refl (deep_at s sound n) q part k p h

-- the part of a node tells how deep it stands in the tree of a link
pub deep : (s : Slab Node) → IsSound s [] → (r k p : ℕ) → StandsAt k p (tree_of s (Some r)) → part_of s (Some k) ≡ part_of s (Some r) + p
deep s sound r k p h = deep_at s sound (rank_of s (Some r)) (Some r) (part_of s (Some r)) refl k p h

-- a node stands at one depth of a link's tree
pub one_depth : (s : Slab Node) → IsSound s [] → (r : Option ℕ) → IsAtOneDepth (tree_of s r)
one_depth s sound None k p q one two = absurd (nowhere k p none one refl)
one_depth s sound (Some r) k p q one two = omega (arith, deep s sound r k p one, deep s sound r k q two)

-- the link leads to each node that stands in its tree
abbrev IsLed : Slab Node → ℕ → Type 0
IsLed s n = (r : Option ℕ) (k p : ℕ) → StandsAt k p (tree_at n s r) → IsUnder s r k

led_place : (s : Slab Node) (n m : ℕ) (v : Node) → get s m ≡ Some v → IsLed s n → (k p : ℕ) → Place k p m (tree_at n s v.child) (tree_at n s v.left) (tree_at n s v.right) → IsUnder s (Some m) k
led_place s n m v is led_by k p (first e z) = top k (ap Some (sym e)) (subst (λ (x : ℕ). IsSome (get s x)) (sym e) (cc is))
led_place s n m v is led_by k p (in_child d e h) =
    let inside : (x : ℕ) → links_in x (get s m) ≡ leads x v.child + leads x v.left + leads x v.right = (λ x. ap (links_in x) is) in
    under_down s (Some m) v.child m (top m refl (cc is)) (λ x. omega (arith, inside x)) k (led_by v.child k d h)
led_place s n m v is led_by k p (in_left h) =
    let inside : (x : ℕ) → links_in x (get s m) ≡ leads x v.child + leads x v.left + leads x v.right = (λ x. ap (links_in x) is) in
    under_down s (Some m) v.left m (top m refl (cc is)) (λ x. omega (arith, inside x)) k (led_by v.left k p h)
led_place s n m v is led_by k p (in_right h) =
    let inside : (x : ℕ) → links_in x (get s m) ≡ leads x v.child + leads x v.left + leads x v.right = (λ x. ap (links_in x) is) in
    under_down s (Some m) v.right m (top m refl (cc is)) (λ x. omega (arith, inside x)) k (led_by v.right k p h)

led_node : (s : Slab Node) (n m : ℕ) (o : Option Node) → get s m ≡ o → IsLed s n → (k p : ℕ) → StandsAt k p (grown (tree_at n s) m o) → IsUnder s (Some m) k
led_node s n m None is led_by k p h = absurd (nowhere k p none h refl)
led_node s n m (Some v) is led_by k p h =
    led_place s n m v is led_by k p (place_of k p _ h m v.span (tree_at n s v.child) (tree_at n s v.left) (tree_at n s v.right) refl)

led_at : (s : Slab Node) (n : ℕ) → IsLed s n
led_at s zero r k p h = absurd (nowhere k p none h refl)
led_at s (suc n) None k p h = absurd (nowhere k p none h refl)
led_at s (suc n) (Some m) k p h = led_node s n m (get s m) refl (led_at s n) k p h

-- a node is the topmost of its own tree
top_node : (s : Slab Node) → IsSound s [] → (n m : ℕ) (o : Option Node) → get s m ≡ o → IsSome o → StandsAt m 0 (grown (tree_at n s) m o)
top_node s sound n m None is there = cc there
top_node s sound n m (Some v) is there = here v.span (tree_at n s v.child) (tree_at n s v.left) (tree_at n s v.right)

ranked : (s : Slab Node) → IsSound s [] → (m : ℕ) (o : Option Node) → get s m ≡ o → IsSome o → 0 < rank_in o
ranked s sound m None is there = cc there
ranked s sound m (Some v) is there = omega (arith, (sound.shaped m v is).child)

top_at : (s : Slab Node) → IsSound s [] → (n m : ℕ) → rank_of s (Some m) ≤ n → IsSome (get s m) → StandsAt m 0 (tree_at n s (Some m))
top_at s sound zero m low there = absurd (omega (arith, low, ranked s sound m (get s m) refl there))
top_at s sound (suc n) m low there = top_node s sound n m (get s m) refl there

-- where a node stands, what it leads to stands
abbrev IsPast : Slab Node → ℕ → Type 0
IsPast s n = (r : Option ℕ) → rank_of s r ≤ n → (k p m : ℕ) → StandsAt k p (tree_at n s r) → 0 < links_in m (get s k) → StandsIn m (tree_at n s r)

past_link : (s : Slab Node) → IsSound s [] → (n k : ℕ) (q : Option ℕ) → ((m : ℕ) → leads m q ≤ links_in m (get s k)) → rank_of s q ≤ n → (m : ℕ) → 0 < leads m q → StandsAt m 0 (tree_at n s q)
past_link s sound n k q among low m to =
    let is : q ≡ Some m = led m q to in
    let there : IsSome (get s m) = subst (λ (x : Option ℕ). IsThere s x) is (link_there s None [] sound k q among) in
    subst (λ (x : Option ℕ). StandsAt m 0 (tree_at n s x)) (sym is) (top_at s sound n m (subst (λ (x : Option ℕ). rank_of s x ≤ n) is low) there)

past_first : (s : Slab Node) → IsSound s [] → (n k : ℕ) (v : Node) → get s k ≡ Some v → v.rank ≤ suc n → (m : ℕ) → 0 < links_in m (get s k) → StandsIn m (some k v.span (tree_at n s v.child) (tree_at n s v.left) (tree_at n s v.right))
past_first s sound n k v is low m to =
    let shape = sound.shaped k v is in
    let inside : (x : ℕ) → links_in x (get s k) ≡ leads x v.child + leads x v.left + leads x v.right = (λ x. ap (links_in x) is) in
    elim (eqb_tells (leads m v.child) 0) [
      | inr e ↦ (1, below 0 k _ _ _ _ (past_link s sound n k v.child (λ x. omega (arith, inside x)) (omega (arith, shape.child, low)) m (omega (arith, e.1))))
      | inl e ↦ elim (eqb_tells (leads m v.left) 0) [
        | inr d ↦ (0, left 0 k _ _ _ _ (past_link s sound n k v.left (λ x. omega (arith, inside x)) (omega (arith, shape.left, low)) m (omega (arith, d.1))))
        | inl d ↦ (0, right 0 k _ _ _ _ (past_link s sound n k v.right (λ x. omega (arith, inside x)) (omega (arith, shape.right, low)) m (omega (arith, e.1, d.1, inside m, to))))
      ]
    ]

past_place : (s : Slab Node) → IsSound s [] → (n a : ℕ) (v : Node) → get s a ≡ Some v → v.rank ≤ suc n → IsPast s n → (k p m : ℕ) → Place k p a (tree_at n s v.child) (tree_at n s v.left) (tree_at n s v.right) → 0 < links_in m (get s k) → StandsIn m (some a v.span (tree_at n s v.child) (tree_at n s v.left) (tree_at n s v.right))
past_place s sound n a v is low past k p m (first e z) to = past_first s sound n a v is low m (subst (λ (x : ℕ). 0 < links_in m (get s x)) e to)
past_place s sound n a v is low past k p m (in_child d e h) to =
    let q = past v.child (omega (arith, (sound.shaped a v is).child, low)) k d m h to in
    (suc q.0, below q.0 a _ _ _ _ q.1)
past_place s sound n a v is low past k p m (in_left h) to =
    let q = past v.left (omega (arith, (sound.shaped a v is).left, low)) k p m h to in
    (q.0, left q.0 a _ _ _ _ q.1)
past_place s sound n a v is low past k p m (in_right h) to =
    let q = past v.right (omega (arith, (sound.shaped a v is).right, low)) k p m h to in
    (q.0, right q.0 a _ _ _ _ q.1)

past_node : (s : Slab Node) → IsSound s [] → (n a : ℕ) (o : Option Node) → get s a ≡ o → rank_in o ≤ suc n → IsPast s n → (k p m : ℕ) → StandsAt k p (grown (tree_at n s) a o) → 0 < links_in m (get s k) → StandsIn m (grown (tree_at n s) a o)
past_node s sound n a None is low past k p m h to = absurd (nowhere k p none h refl)
past_node s sound n a (Some v) is low past k p m h to =
    past_place s sound n a v is low past k p m (place_of k p _ h a v.span (tree_at n s v.child) (tree_at n s v.left) (tree_at n s v.right) refl) to

past_at : (s : Slab Node) → IsSound s [] → (n : ℕ) → IsPast s n
past_at s sound zero r low k p m h to = absurd (nowhere k p none h refl)
past_at s sound (suc n) None low k p m h to = absurd (nowhere k p none h refl)
past_at s sound (suc n) (Some a) low k p m h to = past_node s sound n a (get s a) refl low (past_at s sound n) k p m h to

stands_under : (s : Slab Node) → IsSound s [] → (r : Option ℕ) (m : ℕ) → IsUnder s r m → StandsIn m (tree_of s r)
stands_under s sound r m (top m' e there) =
    (0, subst (λ (x : Option ℕ). StandsAt m' 0 (tree_of s x)) (sym e) (top_at s sound (rank_of s (Some m')) m' (omega arith) there))
stands_under s sound r m (under m' k u to) =
    let h = stands_under s sound r k u in
    past_at s sound (rank_of s r) r (omega arith) k h.0 m' h.1 to

-- the nodes that a link leads to are those that stand in its tree
pub stands : (s : Slab Node) → IsSound s [] → (r : Option ℕ) (m : ℕ) → IsUnder s r m ↔ StandsIn m (tree_of s r)
stands s sound r m = (stands_under s sound r m, (λ h. led_at s (rank_of s r) r m h.0 h.1))
