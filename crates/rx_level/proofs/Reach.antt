-- Each node of a sound store is reached from a handle.
use Rattle.std.proofs.Common.{◌≡◌, ◌+◌, ◌<◌, ◌≤◌, inl, inr, cond, sum_by, is_some, arith, ℕ, zero, suc, List, [], ◌∷◌, Option, Some, None, IsSome, refl, ap, sym, subst}
use Rattle.std.proofs.lemmas.List.Sums.{sum_by-cons}
use Rattle.slab.specs.Slab.{Slab, get, slab_len}
use Rattle.rx_level.specs.declared.nodes.Node.{Node}
use Rattle.rx_level.specs.Store.{leads, links_in, rank_in, held_of, rank_of, IsSound, IsReached}
use Rattle.rx_level.specs.Store.IsReached.{held, linked}
use Rattle.std.proofs.lemmas.Bool.Decides.{eqb_tells}
use Rattle.rx_level.proofs.Counts.{slot, sum_none, slot-le-sum, leads_unlike}

-- a slot that is not 0
record Positive (f : Option Node → ℕ) (xs : List (Option Node)) : Type 0 where
  place : ℕ
  more : 0 < f (slot xs place)

first_or : (f : Option Node → ℕ) (x : Option Node) (xs : List (Option Node)) (n : ℕ) → f x ≡ n → 0 < sum_by f (x ∷ xs) → (0 < sum_by f xs → Positive f xs) → Positive f (x ∷ xs)
first_or f x xs zero e h later =
    let p = later (omega (arith, sum_by-cons f x xs, e, h)) in record { place = suc p.place; more = p.more }
first_or f x xs (suc n) e h later = record { place = zero; more = omega (arith, e) }

positive_slot : (f : Option Node → ℕ) (xs : List (Option Node)) → 0 < sum_by f xs → Positive f xs
positive_slot f [] h = absurd (omega (arith, h))
positive_slot f (x ∷ xs) h = first_or f x xs (f x) refl h (positive_slot f xs)

pub led : (m : ℕ) (r : Option ℕ) → 0 < leads m r → r ≡ Some m
led m None h = absurd (omega (arith, h))
led m (Some k) h = elim (eqb_tells k m) [
  | inl e ↦ ap Some e.1
  | inr e ↦ absurd (omega (arith, h, leads_unlike m k (λ s. e.1 (sym s))))
]

ranked_link : (s : Slab Node) (m rank : ℕ) (r : Option ℕ) → rank_of s r < rank → 0 < leads m r → rank_of s (Some m) < rank
ranked_link s m rank r low h = subst (λ (x : Option ℕ). rank_of s x < rank) (led m r h) low

ranked_by : (s : Slab Node) (m rank : ℕ) (c l r : Option ℕ) → rank_of s c < rank → rank_of s l < rank → rank_of s r < rank → 0 < leads m c + leads m l + leads m r → rank_of s (Some m) < rank
ranked_by s m rank c l r hc hl hr leads_to = elim (eqb_tells (leads m c) 0) [
  | inr e ↦ ranked_link s m rank c hc (omega (arith, e.1))
  | inl e ↦ elim (eqb_tells (leads m l) 0) [
    | inr d ↦ ranked_link s m rank l hl (omega (arith, d.1))
    | inl d ↦ ranked_link s m rank r hr (omega (arith, e.1, d.1, leads_to))
  ]
]

record Ranked (s : Slab Node) (m : ℕ) (o : Option Node) : Type 0 where
  there : IsSome o
  above : rank_of s (Some m) < rank_in o

ranked_above : (s : Slab Node) → IsSound s [] → (m k : ℕ) (o : Option Node) → get s k ≡ o → 0 < links_in m o → Ranked s m o
ranked_above s h m k None is leads_to = absurd (omega (arith, leads_to))
ranked_above s h m k (Some v) is leads_to =
    let shape = h.shaped k v is in record { there = refl; above = ranked_by s m v.rank v.child v.left v.right shape.child shape.left shape.right leads_to }

reached_from : (s : Slab Node) → IsSound s [] → (m : ℕ) → held_of s m ≡ 0 → IsSome (get s m) → (k : ℕ) × (0 < links_in m (get s k)) × Ranked s m (get s k)
reached_from s h m free there =
    let p = positive_slot (links_in m) s.slots (omega (arith, h.links m, h.used m there, free)) in
    (p.place, p.more, ranked_above s h m p.place (get s p.place) refl p.more)

-- by falling rank
reached_below : (s : Slab Node) → IsSound s [] → (n m : ℕ) → sum_by rank_in s.slots ≤ n + rank_of s (Some m) → IsSome (get s m) → IsReached s m
reached_below s h zero m deep there = elim (eqb_tells (held_of s m) 0) [
  | inr e ↦ held m (omega (arith, e.1))
  | inl e ↦ let up = reached_from s h m e.1 there in absurd (omega (arith, deep, up.2.above, slot-le-sum rank_in refl s.slots up.0))
]
reached_below s h (suc n) m deep there = elim (eqb_tells (held_of s m) 0) [
  | inr e ↦ held m (omega (arith, e.1))
  | inl e ↦ let up = reached_from s h m e.1 there in linked m up.0 (reached_below s h n up.0 (omega (arith, deep, up.2.above)) up.2.there) up.1
]

-- each node is reached from a handle
pub all_reached : (s : Slab Node) → IsSound s [] → (m : ℕ) → IsSome (get s m) → IsReached s m
all_reached s h m there = reached_below s h (sum_by rank_in s.slots) m (omega arith) there

unreached : (s : Slab Node) → ((m : ℕ) → held_of s m ≡ 0) → (m : ℕ) → IsReached s m → ⊥
unreached s free m (held m' some) = absurd (omega (arith, free m', some))
unreached s free m (linked m' k from to) = unreached s free k from

absent : (s : Slab Node) → IsSound s [] → ((m : ℕ) → held_of s m ≡ 0) → (m : ℕ) (o : Option Node) → get s m ≡ o → o ≡ None
absent s h free m None is = refl
absent s h free m (Some v) is = absurd (unreached s free m (all_reached s h m (cc is)))

-- with no handles there are no nodes
pub none_live : (s : Slab Node) → IsSound s [] → ((m : ℕ) → held_of s m ≡ 0) → slab_len s ≡ 0
none_live s h free = sum_none (λ o. cond (is_some o) 1 0) refl s.slots (λ m. absent s h free m (get s m) refl)
