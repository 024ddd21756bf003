-- The height that a node keeps is that of its tree.
use Rattle.std.proofs.Common.{◌≡◌, ◌≤◌, ℕ, zero, suc, [], Option, Some, None, IsSome, arith, refl, ap, sym, ◌∙◌, ◌+◌, subst, max}
use Rattle.slab.specs.Slab.{Slab, get}
use Rattle.rx_level.specs.declared.nodes.Node.{Node}
use Rattle.rx_level.specs.Tree.{Tree, tall, IsNear, IsEven, Fork, fork_of}
use Rattle.rx_level.specs.Tree.Tree.{none, some}
use Rattle.rx_level.specs.Store.{IsSound, IsWithinStore, bare, rank_of, rank_in, height_in, height_of, tree_at, grown, tree_of}
use Rattle.rx_level.specs.Step.{tall_of}
use Rattle.rx_level.proofs.Counts.{height-bare}

height_low : (s : Slab Node) → IsSound s [] → (k : ℕ) (o : Option Node) → get s k ≡ o → rank_in o ≡ 0 → height_in o ≡ 0
height_low s sound k None is low = refl
height_low s sound k (Some v) is low = absurd (omega (arith, (sound.shaped k v is).child, low))

height_node : (s : Slab Node) → IsSound s [] → (n k : ℕ) (o : Option Node) → get s k ≡ o → rank_in o ≤ suc n → ((r : Option ℕ) → rank_of s r ≤ n → height_of s r ≡ tall (tree_at n s r)) → height_in o ≡ tall (grown (tree_at n s) k o)
height_node s sound n k None is low below = refl
height_node s sound n k (Some v) is low below =
    let shape = sound.shaped k v is in
    let l = below v.left (omega (arith, shape.left, low)) in
    let r = below v.right (omega (arith, shape.right, low)) in
    shape.height ∙ (rw (l, r) refl)

height_at : (s : Slab Node) → IsSound s [] → (n : ℕ) (r : Option ℕ) → rank_of s r ≤ n → height_of s r ≡ tall (tree_at n s r)
height_at s sound zero None low = refl
height_at s sound zero (Some k) low = height_low s sound k (get s k) refl (omega (arith, low))
height_at s sound (suc n) None low = refl
height_at s sound (suc n) (Some k) low = height_node s sound n k (get s k) refl low (height_at s sound n)

pub height_tree : (s : Slab Node) → IsSound s [] → (r : Option ℕ) → height_of s r ≡ tall_of s r
height_tree s sound r = height_at s sound (rank_of s r) r (omega arith)

-- trees of near heights have nodes of near heights
pub near_tree : (s : Slab Node) → IsSound s [] → (l r : Option ℕ) → IsNear (tall_of s l) (tall_of s r) → IsNear (height_of s l) (height_of s r)
near_tree s sound l r near = rw (height_tree s sound l, height_tree s sound r) near

bare_height : (o p : Option Node) → (IsSome o → bare o ≡ bare p) → (IsSome p → bare p ≡ bare o) → height_in o ≡ height_in p
bare_height None None to from = refl
bare_height None (Some w) to from = ap height_in (sym (from refl)) ∙ height-bare (Some w)
bare_height (Some v) p to from = sym (height-bare (Some v)) ∙ ap height_in (to refl) ∙ height-bare p

-- where two stores differ in counts alone, heights are the same
pub heights_same : (old new : Slab Node) → IsWithinStore old new → IsWithinStore new old → (r : Option ℕ) → height_of new r ≡ height_of old r
heights_same old new onto within None = refl
heights_same old new onto within (Some k) = bare_height (get new k) (get old k) (within k) (onto k)

-- where three changes of counts follow, near heights stay near
pub near_three : (a b c d : Slab Node) → IsWithinStore a b → IsWithinStore b a → IsWithinStore b c → IsWithinStore c b → IsWithinStore c d → IsWithinStore d c → (l r : Option ℕ) → IsNear (height_of a l) (height_of a r) → IsNear (height_of d l) (height_of d r)
near_three a b c d onto1 within1 onto2 within2 onto3 within3 l r near =
    let same : (x : Option ℕ) → height_of d x ≡ height_of a x = λ x. heights_same c d onto3 within3 x ∙ heights_same b c onto2 within2 x ∙ heights_same a b onto1 within1 x in
    rw (same l, same r) near

even_node : (s : Slab Node) → IsSound s [] → (n k : ℕ) (o : Option Node) → get s k ≡ o → rank_in o ≤ suc n → ((r : Option ℕ) → rank_of s r ≤ n → IsEven (tree_at n s r)) → IsEven (grown (tree_at n s) k o)
even_node s sound n k None is low below = tt
even_node s sound n k (Some v) is low below =
    let shape = sound.shaped k v is in
    let l = height_at s sound n v.left (omega (arith, shape.left, low)) in
    let r = height_at s sound n v.right (omega (arith, shape.right, low)) in
    ((rw (l, r) at shape.near), below v.left (omega (arith, shape.left, low)), below v.right (omega (arith, shape.right, low)))

even_at : (s : Slab Node) → IsSound s [] → (n : ℕ) (r : Option ℕ) → rank_of s r ≤ n → IsEven (tree_at n s r)
even_at s sound zero r low = tt
even_at s sound (suc n) None low = tt
even_at s sound (suc n) (Some k) low = even_node s sound n k (get s k) refl low (even_at s sound n)

-- the trees of a sound store are even
pub even_tree : (s : Slab Node) → IsSound s [] → (r : Option ℕ) → IsEven (tree_of s r)
even_tree s sound r = even_at s sound (rank_of s r) r (omega arith)

-- what a fork says of its tree
pub record Forked (t : Tree) (f : Fork) : Type 0 where
  pub number : ℕ
  pub is : t ≡ some number f.span f.child f.left f.right

abbrev fork_tree : ℕ → Option Fork → Tree
fork_tree k None = none
fork_tree k (Some f) = some k f.span f.child f.left f.right

pub forked : (t : Tree) (f : Fork) → fork_of t ≡ Some f → Forked t f
forked none f e = absurd (cc e)
forked (some k s c l r) f e = record { number = k; is = ap (fork_tree k) e }

pub fork_tall : (t : Tree) (f : Fork) → fork_of t ≡ Some f → tall t ≡ 1 + max (tall f.left) (tall f.right)
fork_tall t f e = ap tall (forked t f e).is

pub fork_near : (t : Tree) (f : Fork) → IsEven t → fork_of t ≡ Some f → IsNear (tall f.left) (tall f.right)
fork_near t f even e = (subst IsEven (forked t f e).is even).0
