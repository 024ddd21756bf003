-- The place of the first of the least costs is where the definition says.
use Rattle.std.proofs.Common.{◌≡◌, ℕ, zero, suc, ◌<◌, ◌≤◌, Bool, true, false, ◌&&◌, List, [], ◌∷◌, length, get_or, refl, arith, nat_le, cond, ◌⊎◌, inl, inr}
use Rattle.std.specs.List.{list_all}
use Rattle.rx_cost.specs.Choice.{IsFirstLeast, least_place}

both_pass : (b c : Bool) → (b && c) ≡ true → (b ≡ true) × (c ≡ true)
both_pass true c h = (refl, h)
both_pass false c h = absurd (cc h)

-- where all costs pass, none is below this one
none_below : (cost : ℕ) (costs : List ℕ) → list_all (λ c. nat_le cost c) costs ≡ true → (k : ℕ) → k < length costs → cost ≤ get_or costs k 0
none_below cost [] all k within = absurd (omega (arith, within))
none_below cost (c ∷ cs) all zero within = let (here, there) = both_pass (nat_le cost c) (list_all (λ d. nat_le cost d) cs) all in grind (arith, here)
none_below cost (c ∷ cs) all (suc k) within = none_below cost cs (both_pass (nat_le cost c) (list_all (λ d. nat_le cost d) cs) all).1 k (omega (arith, within))

-- where one cost doesn't pass, it is below this one
abbrev SomeBelow : ℕ → List ℕ → Type 0
SomeBelow cost costs = (k : ℕ) × (k < length costs) × (get_or costs k 0 < cost)

one_below : (cost : ℕ) (costs : List ℕ) → list_all (λ c. nat_le cost c) costs ≡ false → SomeBelow cost costs
one_below cost [] some = absurd (cc some)
one_below cost (c ∷ cs) some = by_test (nat_le cost c) refl some (one_below cost cs)
  where
    by_test : (b : Bool) → nat_le cost c ≡ b → (b && list_all (λ d. nat_le cost d) cs) ≡ false → (list_all (λ d. nat_le cost d) cs ≡ false → SomeBelow cost cs) → SomeBelow cost (c ∷ cs)
    by_test true e h later = let (k, within, below) = later h in (suc k, omega (arith, within), below)
    by_test false e h later = (0, omega arith, grind (arith, e))

-- the first cost is the least, or a later one is
first_here : (c : ℕ) (cs : List ℕ) → list_all (λ d. nat_le c d) cs ≡ true → IsFirstLeast (c ∷ cs) 0
first_here c cs all = record { within = omega arith; least = here; first = λ k h. absurd (omega (arith, h)) }
  where
    here : (k : ℕ) → k < length (c ∷ cs) → c ≤ get_or (c ∷ cs) k 0
    here zero h = omega arith
    here (suc k) h = none_below c cs all k (omega (arith, h))

first_later : (c : ℕ) (cs : List ℕ) (place : ℕ) → get_or cs place 0 < c → IsFirstLeast cs place → IsFirstLeast (c ∷ cs) (suc place)
first_later c cs place lower rest = record { within = omega (arith, rest.within); least = all; first = before }
  where
    all : (k : ℕ) → k < length (c ∷ cs) → get_or cs place 0 ≤ get_or (c ∷ cs) k 0
    all zero h = omega (arith, lower)
    all (suc k) h = rest.least k (omega (arith, h))

    before : (k : ℕ) → k < suc place → get_or cs place 0 < get_or (c ∷ cs) k 0
    before zero h = lower
    before (suc k) h = rest.first k (omega (arith, h))

pub place_is_first : (costs : List ℕ) → 0 < length costs → IsFirstLeast costs (least_place costs)
place_is_first [] some = absurd (omega (arith, some))
place_is_first (c ∷ cs) some = by_test (list_all (λ d. nat_le c d) cs) refl (place_is_first cs)
  where
    by_test : (b : Bool) → list_all (λ d. nat_le c d) cs ≡ b → (0 < length cs → IsFirstLeast cs (least_place cs)) → IsFirstLeast (c ∷ cs) (cond b 0 (suc (least_place cs)))
    by_test true e later = first_here c cs e
    by_test false e later =
        let (j, inside, below) = one_below c cs e in
        let rest = later (omega (arith, inside)) in
        first_later c cs (least_place cs) (omega (arith, below, rest.least j inside)) rest

-- no other place is the first of the least
lt_or : (p q : ℕ) → (p < q) ⊎ (q ≤ p)
lt_or zero zero = inr (omega arith)
lt_or zero (suc q) = inl (omega arith)
lt_or (suc p) zero = inr (omega arith)
lt_or (suc p) (suc q) = elim (lt_or p q) [ inl h ↦ inl (omega (arith, h)) | inr h ↦ inr (omega (arith, h)) ]

not_before : (costs : List ℕ) (p q : ℕ) → IsFirstLeast costs p → IsFirstLeast costs q → q ≤ p
not_before costs p q a b = elim (lt_or p q) [ inl h ↦ absurd (omega (arith, b.first p h, a.least q b.within)) | inr h ↦ h ]

pub one_first : (costs : List ℕ) (p q : ℕ) → IsFirstLeast costs p → IsFirstLeast costs q → p ≡ q
one_first costs p q a b = omega (arith, not_before costs p q a b, not_before costs q p b a)
