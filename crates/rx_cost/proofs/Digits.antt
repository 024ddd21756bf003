-- The binary digits of a number by the powers of 2 that it lies between.
use Rattle.std.proofs.Common.{◌≡◌, ℕ, zero, suc, ◌+◌, ◌*◌, ◌/◌, ◌^◌, ◌<◌, ◌≤◌, refl, arith}
use Rattle.rx_cost.specs.Costs.{digits_within, digits_of}

digits_none : (most : ℕ) → digits_within most 0 ≡ 0
digits_none zero = refl
digits_none (suc most) = refl

-- halved often enough, a number from 2 ^ k on and below the double has k + 1 digits
digits_between : (k most n : ℕ) → n ≤ most → 2 ^ k ≤ n → n < 2 * 2 ^ k → digits_within most n ≡ suc k
digits_between k zero n within from below = absurd (omega (arith, within, from))
digits_between k (suc most) zero within from below = absurd (omega (arith, from))
digits_between zero (suc most) (suc zero) within from below = omega (arith, digits_none most)
digits_between zero (suc most) (suc (suc n)) within from below = absurd (omega (arith, below))
digits_between (suc k) (suc most) (suc n) within from below =
    omega (arith, digits_between k most (suc n / 2) (omega (arith, within)) (omega (arith, from)) (omega (arith, below)))

pub digits_are : (k n : ℕ) → 2 ^ k ≤ n → n < 2 * 2 ^ k → digits_of n ≡ k + 1
digits_are k n from below = omega (arith, digits_between k n n (omega arith) from below)
