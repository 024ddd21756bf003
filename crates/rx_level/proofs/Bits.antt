-- The height of a level by the bits of the number of its items.
use Rattle.std.proofs.Common.{◌<◌, ◌≤◌, ◌*◌, ◌^◌, ℕ, zero, suc, arith}
use Rattle.rx_level.specs.Tree.{least}

least_more : (h : ℕ) → least h ≤ least (suc h)
least_more zero = omega arith
least_more (suc h) = omega arith

-- a level's height is at most twice the bits of the number of its items
pub low_bits : (b h : ℕ) → least h < 2 ^ b → h ≤ 2 * b
low_bits zero zero less = omega arith
low_bits zero (suc zero) less = absurd (omega (arith, less))
low_bits zero (suc (suc h)) less = absurd (omega (arith, less))
low_bits (suc b) zero less = omega arith
low_bits (suc b) (suc zero) less = omega arith
low_bits (suc b) (suc (suc h)) less = omega (arith, low_bits b h (omega (arith, less, least_more h)))
