use Rattle.std.proofs.Common.{◌≡◌, ◌<◌, ◌+◌, ◌-◌, ◌*◌, ℕ, length, slice_index}
use Rattle.rx_tree.specs.Join.{length_of}
use Rattle.rx_level.specs.Step.{level_of}
use Rattle.rx_walk.specs.Walks.{rest_in}
use Rattle.rx_walk.proofs.walks.+walk.Given as goal

abbrev pub decreases-next_below : goal.decreases-next_below
decreases-next_below l = 2 * length l.walk.parts.now

abbrev pub decreases-range_met : goal.decreases-range_met
decreases-range_met l = 2 * length l.part.below.parts.now + 1

-- nothing of the rest is lost
abbrev pub invariant-next_below-items : goal.invariant-next_below-items
invariant-next_below-items l = record {
  rest : rest_in l.part l.fn.points l.fn.places (level_of l.fn.walk.levels.now l.fn.root) ≡ rest_in l.part l.fn.points l.places (level_of l.fn.walk.levels.now l.fn.root);
  before : (k : ℕ) → k < length l.fn.points → slice_index l.places k ≡ slice_index l.fn.places k;
}

abbrev pub decreases-next_below-items : goal.decreases-next_below-items
decreases-next_below-items l = length_of (level_of l.fn.walk.levels.now l.fn.root) - slice_index l.places l.at
