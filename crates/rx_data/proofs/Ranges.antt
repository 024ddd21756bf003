-- The last numbers of the integer types are those of their ranges.
use Rattle.std.proofs.Common.{ℕ, ◌-◌, ◌^◌, ◌≤◌, Bool, true, false, pos, neg_ℤ, ◌+ℤ◌, ◌≤ℤ◌, ◌<ℤ◌, arith}
use Rattle.std.proofs.lemmas.Int.{ints}
use Rattle.rx_value.specs.Shape.{InRange}
use Rattle.rx_data.specs.Fields.{most, least}

below : (p n : ℕ) → pos n <ℤ pos p → n ≤ p - 1
below p n h = omega (arith, ints)

above : (p n : ℕ) → pos 0 ≤ℤ (neg_ℤ (pos n) +ℤ pos p) → n ≤ p
above p n h = omega (arith, ints)

not_below : (n : ℕ) → pos 0 ≤ℤ neg_ℤ (pos n) → n ≤ 0
not_below n h = omega (arith, ints)

-- a number in the range is at most the greatest
pub in_range_is_most : (bits : ℕ) (signed : Bool) (n : ℕ) → InRange bits signed (pos n) → n ≤ most bits signed
in_range_is_most bits true n h = below (2 ^ (bits - 1)) n h.1
in_range_is_most bits false n h = below (2 ^ bits) n h.1

-- a number in the range is no further below zero than the least
pub in_range_is_least : (bits : ℕ) (signed : Bool) (n : ℕ) → InRange bits signed (neg_ℤ (pos n)) → n ≤ least bits signed
in_range_is_least bits true n h = above (2 ^ (bits - 1)) n h.0
in_range_is_least bits false n h = not_below n h.0
