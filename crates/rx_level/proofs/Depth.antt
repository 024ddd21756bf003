-- An even tree is not high for its items.
use Rattle.std.proofs.Common.{◌≡◌, ◌≤◌, ◌+◌, ◌*◌, ◌⊎◌, inl, inr, max, ℕ, zero, suc, arith, ap, sym, subst}
use Rattle.std.proofs.lemmas.Bool.Decides.{eqb_tells}
use Rattle.rx_tree.specs.Tree.Level.{item}
use Rattle.rx_tree.specs.Join.{length_of}
use Rattle.rx_level.specs.Tree.{Tree, tall, IsEven, plain, least}
use Rattle.rx_level.specs.Tree.Tree.{none, some}
use Rattle.rx_tree.proofs.Joining.{length-join}

least_more : (h : ℕ) → least h ≤ least (suc h)
least_more zero = omega arith
least_more (suc h) = omega arith

-- three levels more are four times the items
pub least_four : (h : ℕ) → 4 * least (suc h) ≤ least (suc (suc (suc (suc h))))
least_four zero = omega arith
least_four (suc h) = omega (arith, least_more h, least_more (suc h))

least_side : (a b : ℕ) → b ≤ a → a ≤ b + 1 → least (suc a) ≤ 1 + least a + least b
least_side zero b low high = omega arith
least_side (suc a) b low high = elim (eqb_tells b a) [
  | inl e ↦ subst (λ (x : ℕ). least (suc (suc a)) ≤ 1 + least (suc a) + least x) (sym e.1) (omega arith)
  | inr e ↦ let top : b ≡ suc a = omega (arith, low, high, e.1) in
      subst (λ (x : ℕ). least (suc (suc a)) ≤ 1 + least (suc a) + least x) (sym top) (omega (arith, least_more a))
]

least_of : (a b m : ℕ) → a ≤ b + 1 → b ≤ a + 1 → ((m ≡ a) × (b ≤ a)) ⊎ ((m ≡ b) × (a ≤ b)) → least (suc m) ≤ 1 + least a + least b
least_of a b m near_a near_b (inl h) = subst (λ (x : ℕ). least (suc x) ≤ 1 + least a + least b) (sym h.0) (least_side a b h.1 near_a)
least_of a b m near_a near_b (inr h) = subst (λ (x : ℕ). least (suc x) ≤ 1 + least a + least b) (sym h.0) (omega (arith, least_side b a h.1 near_b))

least_max : (a b : ℕ) → a ≤ b + 1 → b ≤ a + 1 → least (suc (max a b)) ≤ 1 + least a + least b
least_max a b near_a near_b = least_of a b (max a b) near_a near_b (grind arith)

pub even_least : (t : Tree) → IsEven t → least (tall t) ≤ length_of (plain t)
even_least none h = omega arith
even_least (some k s c l r) h =
    let top : 1 + max (tall l) (tall r) ≡ suc (max (tall l) (tall r)) = omega arith in
    let e : least (tall (some k s c l r)) ≡ least (suc (max (tall l) (tall r))) = ap least top in
    omega (arith, e, least_max (tall l) (tall r) h.0.0 h.0.1, even_least l h.1, even_least r h.2, length-join (plain l) (item s (plain c) (plain r)))
