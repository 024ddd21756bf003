-- The widths of integers are within 1 to 64 bits.
use Rattle.std.proofs.Common.{inl, inr, ℕ, ◌≤◌}
use Rattle.rx_value.specs.Shape.{HasWidth}
use native.Mathlib.Omega.{arith}

pub width_some : (bits : ℕ) → HasWidth bits → 1 ≤ bits
width_some bits (inl e) = omega (arith, e)
width_some bits (inr (inl e)) = omega (arith, e)
width_some bits (inr (inr (inl e))) = omega (arith, e)
width_some bits (inr (inr (inr (inl e)))) = omega (arith, e)
width_some bits (inr (inr (inr (inr e)))) = omega (arith, e)

pub width_few : (bits : ℕ) → HasWidth bits → bits ≤ 64
width_few bits (inl e) = omega (arith, e)
width_few bits (inr (inl e)) = omega (arith, e)
width_few bits (inr (inr (inl e))) = omega (arith, e)
width_few bits (inr (inr (inr (inl e)))) = omega (arith, e)
width_few bits (inr (inr (inr (inr e)))) = omega (arith, e)
