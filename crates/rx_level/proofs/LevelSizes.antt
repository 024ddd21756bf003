-- The numbers of a link are those of its level.
use Rattle.std.proofs.Common.{◌≡◌, ◌≤◌, ℕ, zero, suc, [], Option, Some, None, arith, refl}
use Rattle.slab.specs.Slab.{Slab, get}
use Rattle.rx_level.specs.declared.nodes.Node.{Node}
use Rattle.rx_tree.specs.Tree.{level_size}
use Rattle.rx_tree.specs.Join.{length_of}
use Rattle.rx_level.specs.Tree.{plain}
use Rattle.rx_tree.specs.Tree.Level.{item}
use Rattle.rx_level.specs.Store.{IsSound, rank_of, rank_in, size_in, size_of, count_in, count_of, tree_at, grown}
use Rattle.rx_level.specs.Step.{level_of}
use Rattle.rx_tree.proofs.Joining.{size-join, length-join}

size_node : (s : Slab Node) → IsSound s [] → (n k : ℕ) (o : Option Node) → get s k ≡ o → rank_in o ≤ suc n → ((r : Option ℕ) → rank_of s r ≤ n → size_of s r ≡ level_size (plain (tree_at n s r))) → size_in o ≡ level_size (plain (grown (tree_at n s) k o))
size_node s sound n k None is low below = refl
size_node s sound n k (Some v) is low below =
    let shape = sound.shaped k v is in
    let c = below v.child (omega (arith, shape.child, low)) in
    let l = below v.left (omega (arith, shape.left, low)) in
    let r = below v.right (omega (arith, shape.right, low)) in
    omega (arith, shape.size, c, l, r, size-join (plain (tree_at n s v.left)) (item v.span (plain (tree_at n s v.child)) (plain (tree_at n s v.right))))

size_low : (s : Slab Node) → IsSound s [] → (k : ℕ) (o : Option Node) → get s k ≡ o → rank_in o ≡ 0 → size_in o ≡ 0
size_low s sound k None is low = refl
size_low s sound k (Some v) is low = absurd (omega (arith, (sound.shaped k v is).child, low))

size_at : (s : Slab Node) → IsSound s [] → (n : ℕ) (r : Option ℕ) → rank_of s r ≤ n → size_of s r ≡ level_size (plain (tree_at n s r))
size_at s sound zero None low = refl
size_at s sound zero (Some k) low = size_low s sound k (get s k) refl (omega (arith, low))
size_at s sound (suc n) None low = refl
size_at s sound (suc n) (Some k) low = size_node s sound n k (get s k) refl low (size_at s sound n)

-- a link's size is that of its level
pub size_level : (s : Slab Node) → IsSound s [] → (r : Option ℕ) → size_of s r ≡ level_size (level_of s r)
size_level s sound r = size_at s sound (rank_of s r) r (omega arith)

count_node : (s : Slab Node) → IsSound s [] → (n k : ℕ) (o : Option Node) → get s k ≡ o → rank_in o ≤ suc n → ((r : Option ℕ) → rank_of s r ≤ n → count_of s r ≡ length_of (plain (tree_at n s r))) → count_in o ≡ length_of (plain (grown (tree_at n s) k o))
count_node s sound n k None is low below = refl
count_node s sound n k (Some v) is low below =
    let shape = sound.shaped k v is in
    let c = below v.child (omega (arith, shape.child, low)) in
    let l = below v.left (omega (arith, shape.left, low)) in
    let r = below v.right (omega (arith, shape.right, low)) in
    omega (arith, shape.count, c, l, r, length-join (plain (tree_at n s v.left)) (item v.span (plain (tree_at n s v.child)) (plain (tree_at n s v.right))))

count_low : (s : Slab Node) → IsSound s [] → (k : ℕ) (o : Option Node) → get s k ≡ o → rank_in o ≡ 0 → count_in o ≡ 0
count_low s sound k None is low = refl
count_low s sound k (Some v) is low = absurd (omega (arith, (sound.shaped k v is).child, low))

count_at : (s : Slab Node) → IsSound s [] → (n : ℕ) (r : Option ℕ) → rank_of s r ≤ n → count_of s r ≡ length_of (plain (tree_at n s r))
count_at s sound zero None low = refl
count_at s sound zero (Some k) low = count_low s sound k (get s k) refl (omega (arith, low))
count_at s sound (suc n) None low = refl
count_at s sound (suc n) (Some k) low = count_node s sound n k (get s k) refl low (count_at s sound n)

-- a link's count is that of its level
pub count_level : (s : Slab Node) → IsSound s [] → (r : Option ℕ) → count_of s r ≡ length_of (level_of s r)
count_level s sound r = count_at s sound (rank_of s r) r (omega arith)
