use Rattle.std.proofs.Common.{◌≡◌, ℕ, ◌+◌, Option, Some, None, refl, ap, arith}
use Rattle.rx_token.specs.Blank.{further}

pub further_step : (n : ℕ) (o : Option ℕ) → further (n + 1) o ≡ further n (further 1 o)
further_step n None = refl
further_step n (Some k) = let e : (n + 1) + k ≡ n + (1 + k) = omega arith in ap (λ (m : ℕ). Some m) e
