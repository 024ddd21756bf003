-- How many bits a number has.
use Rattle.std.proofs.Common.{◌≡◌, ◌+◌, ◌-◌, ◌*◌, ◌^◌, ◌<◌, ◌≤◌, inl, inr, suc, arith, ℕ, subst}
use Rattle.std.specs.Int.Count.{count_leading_zeros}
use Rattle.std.proofs.lemmas.Bool.{cases_lt}
use Rattle.std.proofs.lemmas.Nat.{leading_length}
use Rattle.std.proofs.Math.Nat.{pow-le-pow_right, pow-succ'}

-- a number fits in its bits
pub enough : (n : ℕ) → n < 2 ^ 64 → n < 2 ^ (64 - count_leading_zeros 64 n)
enough n fits =
    let p = leading_length 64 n fits in
    let e : p.0 ≡ 64 - count_leading_zeros 64 n = omega (arith, p.1) in
    subst (λ (m : ℕ). n < 2 ^ m) e p.2

-- a number doesn't fit in fewer bits
pub least : (n : ℕ) → n < 2 ^ 64 → 2 ^ (64 - count_leading_zeros 64 n) ≤ 2 * n + 1
least n fits =
    let p = leading_length 64 n fits in
    let e : p.0 ≡ 64 - count_leading_zeros 64 n = omega (arith, p.1) in
    subst (λ (m : ℕ). 2 ^ m ≤ 2 * n + 1) e p.3

-- the fewest bits of a number are no more than any that are enough
pub no_more : (n b k : ℕ) → 2 ^ b ≤ 2 * n + 1 → n < 2 ^ k → b ≤ k
no_more n b k least enough = elim (cases_lt k b) [
  | inl more ↦
      let above : 2 ^ suc k ≤ 2 ^ b = pow-le-pow_right (omega arith) more in
      absurd (omega (arith, least, enough, above, pow-succ' 2 k))
  | inr fewer ↦ fewer
]
