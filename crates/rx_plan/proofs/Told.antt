-- Sums that are told as far as a number goes.
use Rattle.std.proofs.Common.{◌≡◌, ◌≤◌, ℕ, ◌+◌, List, [], ◌∷◌, min, refl, ap, sym, ◌∙◌, arith}
use Rattle.std.specs.List.{sum_by}
use Rattle.std.proofs.lemmas.List.Sums.{sum_by-cons}
use Rattle.rx_plan.specs.Seeks.{most_told}

-- so far the sum over the first elements of a list, and these are left
pub record IsSummed {X : Type 0} (f : X → ℕ) (all left : List X) (sum : ℕ) : Type 0 where
  pub within : sum ≤ most_told
  pub rest : min most_told (sum + sum_by f left) ≡ min most_told (sum_by f all)

pub summed-none : {X : Type 0} (f : X → ℕ) (all : List X) → IsSummed f all all 0
summed-none f all = record { within = omega arith; rest = ap (min most_told) (omega arith) }

again : (m a b c : ℕ) → min m (min m (a + min m b) + c) ≡ min m (a + (b + c))
again m a b c = grind arith

pub summed-more : {X : Type 0} (f : X → ℕ) (all rest : List X) (x : X) (sum next : ℕ) → IsSummed f all (x ∷ rest) sum → next ≡ min most_told (sum + min most_told (f x)) → IsSummed f all rest next
summed-more f all rest x sum next s e = record {
  within = grind (arith, e);
  rest = ap (λ n. min most_told (n + sum_by f rest)) e ∙ again most_told sum (f x) (sum_by f rest) ∙ ap (λ n. min most_told (sum + n)) (sym (sum_by-cons f x rest)) ∙ s.rest;
}

pub summed-all : {X : Type 0} (f : X → ℕ) (all : List X) (sum : ℕ) → IsSummed f all [] sum → sum ≡ min most_told (sum_by f all)
summed-all f all sum s = grind (arith, s.within, s.rest)
