use Rattle.std.proofs.Common.{◌≡◌, ◌<◌, ◌+◌, ◌*◌, ℕ}
use Rattle.rx_tree.specs.Tree.{level_size}
use Rattle.rx_level.specs.Entries.{entry_at}
use Rattle.rx_level.specs.Step.{level_of}
use Rattle.rx_level.proofs.reading.+same.Given as goal

abbrev pub decreases-same_levels : goal.decreases-same_levels
decreases-same_levels l = 2 * level_size (level_of l.levels.now l.g) + 1

abbrev pub decreases-same_items : goal.decreases-same_items
decreases-same_items l = 2 * level_size (level_of l.levels.now l.g)

-- the items before this place are the same
abbrev pub invariant-same_levels-items : goal.invariant-same_levels-items
invariant-same_levels-items l = (j : ℕ) → j < l.place → entry_at j (level_of l.fn.levels l.fn.g) ≡ entry_at j (level_of l.fn.levels l.fn.h)
