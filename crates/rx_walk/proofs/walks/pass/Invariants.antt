use Rattle.std.proofs.Common.{◌≡◌, ◌<◌, ℕ, slice_index}
use Rattle.rx_walk.proofs.walks.pass.Given as goal

-- the places behind this one are 0 so far, and those before it as they were
abbrev pub invariant-below : goal.invariant-below
invariant-below l = record {
  here : slice_index l.places l.fn.at ≡ l.fn.passed;
  before : (k : ℕ) → k < l.fn.at → slice_index l.places k ≡ slice_index l.fn.places k;
  after : (k : ℕ) → l.fn.at < k → k < l.place → slice_index l.places k ≡ 0;
}
