-- A link's tree depends on what it leads to, and on nothing else in the store.
use Rattle.std.proofs.Common.{◌≡◌, ◌<◌, ◌≤◌, arith, ℕ, zero, suc, List, Option, Some, None, IsSome, refl, ap, sym, ◌∙◌}
use Rattle.slab.specs.Slab.{Slab, get}
use Rattle.rx_level.specs.declared.nodes.Node.{Node}
use Rattle.rx_level.specs.Tree.{Tree}
use Rattle.rx_level.specs.Tree.Tree.{none, some}
use Rattle.rx_level.specs.Store.{leads, links_in, linked_in, rank_in, IsThere, rank_of, bare, IsWithinStore, IsShaped, IsNearly, grown, tree_at, tree_of}
use Rattle.rx_level.proofs.Counts.{links_in-le, leads_same, rank-bare}

missing : (s : Slab Node) (spare : Option ℕ) (rest : List (Option ℕ)) → IsNearly s spare rest → (m k : ℕ) (o : Option Node) → get s m ≡ o → 0 < links_in m (get s k) → IsSome o
missing s spare rest h m k None e leads_to = absurd (omega (arith, h.links m, ap linked_in e, links_in-le s m k, leads_to))
missing s spare rest h m k (Some v) e leads_to = refl

-- what a node leads to is there
pub link_there : (s : Slab Node) (spare : Option ℕ) (rest : List (Option ℕ)) → IsNearly s spare rest → (k : ℕ) (r : Option ℕ) → ((m : ℕ) → leads m r ≤ links_in m (get s k)) → IsThere s r
link_there s spare rest h k None among = tt
link_there s spare rest h k (Some m) among = missing s spare rest h m k (get s m) refl (omega (arith, among m, leads_same m))

grown-bare : (f : Option ℕ → Tree) (k : ℕ) (o : Option Node) → grown f k (bare o) ≡ grown f k o
grown-bare f k None = refl
grown-bare f k (Some v) = refl

grown_same : (f g : Option ℕ → Tree) (k : ℕ) (o : Option Node) → ((r : Option ℕ) → ((m : ℕ) → leads m r ≤ links_in m o) → f r ≡ g r) → grown f k o ≡ grown g k o
grown_same f g k None same = refl
grown_same f g k (Some v) same =
    let c : f v.child ≡ g v.child = same v.child (λ m. omega arith) in
    let l : f v.left ≡ g v.left = same v.left (λ m. omega arith) in
    let r : f v.right ≡ g v.right = same v.right (λ m. omega arith) in
    rw (c, l, r) refl

-- a store within another has its trees
pub tree_within : (new old : Slab Node) (spare : Option ℕ) (rest : List (Option ℕ)) → IsNearly new spare rest → IsWithinStore new old → (n : ℕ) (r : Option ℕ) → IsThere new r → tree_at n new r ≡ tree_at n old r
tree_within new old spare rest h within zero r there = refl
tree_within new old spare rest h within (suc n) None there = refl
tree_within new old spare rest h within (suc n) (Some k) there =
    grown_same (tree_at n new) (tree_at n old) k (get new k) (λ r among. tree_within new old spare rest h within n r (link_there new spare rest h k r among))
    ∙ sym (grown-bare (tree_at n old) k (get new k))
    ∙ ap (grown (tree_at n old) k) (within k there)
    ∙ grown-bare (tree_at n old) k (get old k)

pub rank_within : (new old : Slab Node) → IsWithinStore new old → (r : Option ℕ) → IsThere new r → rank_of new r ≡ rank_of old r
rank_within new old within None there = refl
rank_within new old within (Some k) there = sym (rank-bare (get new k)) ∙ ap rank_in (within k there) ∙ rank-bare (get old k)

pub tree_of_within : (new old : Slab Node) (spare : Option ℕ) (rest : List (Option ℕ)) → IsNearly new spare rest → IsWithinStore new old → (r : Option ℕ) → IsThere new r → tree_of new r ≡ tree_of old r
tree_of_within new old spare rest h within r there =
    ap (λ n. tree_at n new r) (rank_within new old within r there) ∙ tree_within new old spare rest h within (rank_of old r) r there

grown_none : (f : Option ℕ → Tree) (k : ℕ) (o : Option Node) → ((v : Node) → o ≡ Some v → 0 < v.rank) → rank_in o ≡ 0 → grown f k o ≡ none
grown_none f k None positive low = refl
grown_none f k (Some v) positive low = absurd (omega (arith, positive v refl, low))

low_links : (s : Slab Node) (spare : Option ℕ) (rest : List (Option ℕ)) → IsNearly s spare rest → (f g : Option ℕ → Tree) (k n m : ℕ) (o : Option Node) → get s k ≡ o → rank_in o ≤ suc n → rank_in o ≤ suc m → ((r : Option ℕ) → rank_of s r ≤ n → rank_of s r ≤ m → f r ≡ g r) → grown f k o ≡ grown g k o
low_links s spare rest h f g k n m None is low_n low_m same = refl
low_links s spare rest h f g k n m (Some v) is low_n low_m same =
    let shape : IsShaped s v = h.shaped k v is in
    let c : f v.child ≡ g v.child = same v.child (omega (arith, shape.child, low_n)) (omega (arith, shape.child, low_m)) in
    let l : f v.left ≡ g v.left = same v.left (omega (arith, shape.left, low_n)) (omega (arith, shape.left, low_m)) in
    let r : f v.right ≡ g v.right = same v.right (omega (arith, shape.right, low_n)) (omega (arith, shape.right, low_m)) in
    rw (c, l, r) refl

-- any depth from the rank on gives the whole tree
pub tree_deep : (s : Slab Node) (spare : Option ℕ) (rest : List (Option ℕ)) → IsNearly s spare rest → (n m : ℕ) (r : Option ℕ) → rank_of s r ≤ n → rank_of s r ≤ m → tree_at n s r ≡ tree_at m s r
tree_deep s spare rest h zero zero r low_n low_m = refl
tree_deep s spare rest h zero (suc m) None low_n low_m = refl
tree_deep s spare rest h zero (suc m) (Some k) low_n low_m = sym (grown_none (tree_at m s) k (get s k) (λ v is. omega (arith, (h.shaped k v is).child)) (omega (arith, low_n)))
tree_deep s spare rest h (suc n) zero None low_n low_m = refl
tree_deep s spare rest h (suc n) zero (Some k) low_n low_m = grown_none (tree_at n s) k (get s k) (λ v is. omega (arith, (h.shaped k v is).child)) (omega (arith, low_m))
tree_deep s spare rest h (suc n) (suc m) None low_n low_m = refl
tree_deep s spare rest h (suc n) (suc m) (Some k) low_n low_m =
    low_links s spare rest h (tree_at n s) (tree_at m s) k n m (get s k) refl low_n low_m (λ r a b. tree_deep s spare rest h n m r a b)

-- a node's tree is its span over the trees of its links
pub tree_of-node : (s : Slab Node) (spare : Option ℕ) (rest : List (Option ℕ)) → IsNearly s spare rest → (k : ℕ) (v : Node) → get s k ≡ Some v → tree_of s (Some k) ≡ some k v.span (tree_of s v.child) (tree_of s v.left) (tree_of s v.right)
tree_of-node s spare rest h k v is =
    let shape : IsShaped s v = h.shaped k v is in
    let rank : rank_of s (Some k) ≡ v.rank = ap rank_in is in
    tree_deep s spare rest h (rank_of s (Some k)) (suc v.rank) (Some k) (omega arith) (omega (arith, rank))
    ∙ ap (grown (tree_at v.rank s) k) is
    ∙ (let c : tree_at v.rank s v.child ≡ tree_of s v.child = tree_deep s spare rest h v.rank (rank_of s v.child) v.child (omega (arith, shape.child)) (omega arith) in
    let l : tree_at v.rank s v.left ≡ tree_of s v.left = tree_deep s spare rest h v.rank (rank_of s v.left) v.left (omega (arith, shape.left)) (omega arith) in
    let r : tree_at v.rank s v.right ≡ tree_of s v.right = tree_deep s spare rest h v.rank (rank_of s v.right) v.right (omega (arith, shape.right)) (omega arith) in
    rw (c, l, r) refl)
