-- How many handles there are, from how many lead to each node.
use Rattle.std.proofs.Common.{◌≡◌, ◌+◌, ◌<◌, ◌≤◌, inl, inr, sum_by, length, arith, ℕ, zero, suc, List, [], ◌∷◌, Option, Some, None, refl, ap, sym, ◌∙◌}
use Rattle.std.proofs.lemmas.List.Sums.{sum_by-cons}
use Rattle.std.proofs.lemmas.Bool.Decides.{eqb_tells}
use Rattle.slab.specs.Slab.{Slab, slab_len}
use Rattle.rx_level.specs.declared.nodes.Node.{Node}
use Rattle.rx_level.specs.Store.{leads, owed, roots_in, held_in, held_of, total_held, IsSound, IsCounted}
use Rattle.rx_level.specs.Step.{Step}
use Rattle.rx_level.proofs.Counts.{slot, slot-le-sum, leads_unlike, leads_same}
use Rattle.rx_level.proofs.Reach.{none_live}

-- the sum of the first numbers
abbrev upto : (ℕ → ℕ) → ℕ → ℕ
upto f zero = 0
upto f (suc n) = f 0 + upto (λ m. f (suc m)) n

upto_same : (f g : ℕ → ℕ) (n : ℕ) → ((m : ℕ) → f m ≡ g m) → upto f n ≡ upto g n
upto_same f g zero same = refl
upto_same f g (suc n) same = omega (arith, same 0, upto_same (λ m. f (suc m)) (λ m. g (suc m)) n (λ m. same (suc m)))

upto_zero : (n : ℕ) → upto (λ m. 0) n ≡ 0
upto_zero zero = refl
upto_zero (suc n) = omega (arith, upto_zero n)

upto_add : (f g : ℕ → ℕ) (n : ℕ) → upto (λ m. f m + g m) n ≡ upto f n + upto g n
upto_add f g zero = refl
upto_add f g (suc n) = omega (arith, upto_add (λ m. f (suc m)) (λ m. g (suc m)) n)

upto_below : (f g : ℕ → ℕ) (n : ℕ) → ((m : ℕ) → f m ≤ g m) → upto f n ≤ upto g n
upto_below f g zero low = omega arith
upto_below f g (suc n) low = omega (arith, low 0, upto_below (λ m. f (suc m)) (λ m. g (suc m)) n (λ m. low (suc m)))

upto_slots : (xs : List (Option Node)) (n : ℕ) → length xs ≤ n → upto (λ m. held_in (slot xs m)) n ≡ sum_by held_in xs
upto_slots [] n long = upto_zero n
upto_slots (x ∷ xs) zero long = absurd (omega (arith, long))
upto_slots (x ∷ xs) (suc n) long = omega (arith, sum_by-cons held_in x xs, upto_slots xs n (omega (arith, long)))

leads_next : (m k : ℕ) → leads (suc m) (Some (suc k)) ≡ leads m (Some k)
leads_next m k = elim (eqb_tells m k) [
  | inl e ↦ ap (λ x. leads (suc x) (Some (suc k))) e.1 ∙ leads_same (suc k) ∙ sym (ap (λ x. leads x (Some k)) e.1 ∙ leads_same k)
  | inr e ↦ leads_unlike (suc m) (suc k) (λ d. e.1 (omega (arith, d))) ∙ sym (leads_unlike m k e.1)
]

upto_leads : (k n : ℕ) → k < n → upto (λ m. leads m (Some k)) n ≡ 1
upto_leads k zero low = absurd (omega (arith, low))
upto_leads zero (suc n) low =
    omega (arith, leads_same 0, upto_same (λ m. leads (suc m) (Some 0)) (λ m. 0) n (λ m. leads_unlike (suc m) 0 (λ e. cc e)), upto_zero n)
upto_leads (suc k) (suc n) low =
    omega (arith, leads_unlike 0 (suc k) (λ e. cc e), upto_same (λ m. leads (suc m) (Some (suc k))) (λ m. leads m (Some k)) n (λ m. leads_next m k), upto_leads k n (omega (arith, low)))

-- above all numbers of a list
abbrev above : List (Option ℕ) → ℕ
above [] = 0
above (None ∷ rest) = above rest
above (Some k ∷ rest) = suc k + above rest

upto_owed : (rs : List (Option ℕ)) (n : ℕ) → above rs ≤ n → upto (λ m. owed m rs) n ≡ roots_in rs
upto_owed [] n low = upto_zero n
upto_owed (None ∷ rest) n low = omega (arith, upto_add (λ m. 0) (λ m. owed m rest) n, upto_zero n, upto_owed rest n low)
upto_owed (Some k ∷ rest) n low =
    omega (arith, upto_add (λ m. leads m (Some k)) (λ m. owed m rest) n, upto_leads k n (omega (arith, low)), upto_owed rest n (omega (arith, low)))

upto_held : (s : Slab Node) (n : ℕ) → length s.slots ≤ n → upto (λ m. held_of s m) n ≡ total_held s
upto_held s n long = upto_slots s.slots n long

-- what each node's handles change by, all do
pub totals : (old new : Slab Node) (spent given : List (Option ℕ)) → ((m : ℕ) → held_of new m + owed m spent ≡ held_of old m + owed m given) → total_held new + roots_in spent ≡ total_held old + roots_in given
totals old new spent given held =
    let n : ℕ = length old.slots + length new.slots + above spent + above given in
    let sums : upto (λ m. held_of new m + owed m spent) n ≡ upto (λ m. held_of old m + owed m given) n = upto_same (λ m. held_of new m + owed m spent) (λ m. held_of old m + owed m given) n held in
    omega (
      arith,
      sums,
      upto_add (λ m. held_of new m) (λ m. owed m spent) n,
      upto_add (λ m. held_of old m) (λ m. owed m given) n,
      upto_held new n (omega arith),
      upto_held old n (omega arith),
      upto_owed spent n (omega arith),
      upto_owed given n (omega arith),
    )

-- handles that are held are among all
pub owned_total : (s : Slab Node) (roots : List (Option ℕ)) → ((m : ℕ) → owed m roots ≤ held_of s m) → roots_in roots ≤ total_held s
owned_total s roots owned =
    let n : ℕ = length s.slots + above roots in
    omega (arith, upto_below (λ m. owed m roots) (λ m. held_of s m) n owned, upto_held s n (omega arith), upto_owed roots n (omega arith))

pub held_total : (s : Slab Node) (m : ℕ) → held_of s m ≤ total_held s
held_total s m = slot-le-sum held_in refl s.slots m

-- a step changes the number of handles by those that it spends and gives
pub counted_step : (a b : Slab Node) (n n' : ℕ) (spent given : List (Option ℕ)) → IsCounted a n → Step a b spent given → n' + roots_in spent ≡ n + roots_in given → IsCounted b n'
counted_step a b n n' spent given counted step sum = record {
  sound = step.sound;
  total = omega (arith, counted.total, totals a b spent given step.held, sum);
}

-- handles that are held are among those counted
pub owned_counted : (a b : Slab Node) (n : ℕ) (roots : List (Option ℕ)) → IsCounted a n → a ≡ b → ((m : ℕ) → owed m roots ≤ held_of b m) → roots_in roots ≤ n
owned_counted a b n roots counted same owned = omega (arith, counted.total, ap total_held same, owned_total b roots owned)

-- with no handles there are no nodes
pub none_held : (s : Slab Node) → IsSound s [] → total_held s ≡ 0 → slab_len s ≡ 0
none_held s sound free = none_live s sound (λ m. omega (arith, held_total s m, free))
