use Rattle.std.proofs.Common.{◌≡◌, ℕ, ◌+◌, ◌<◌, true, [], get_or}
use Rattle.std.specs.Ordering.{is_lt}
use Rattle.rx_value.proofs.KeyOrder.{by_key}
use Rattle.rx_index.proofs.in_place.do_rise.Given as goal

-- each row so far is before the next one
abbrev pub invariant-loop-place : goal.invariant-loop-place
invariant-loop-place l = (k : ℕ) → k + 1 < l.place → is_lt (by_key l.parts (get_or l.rows k []) (get_or l.rows (k + 1) [])) ≡ true
