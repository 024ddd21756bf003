use Rattle.std.proofs.Common.{◌≡◌, ◌≤◌, ◌-◌}
use Rattle.rx_tree.specs.Join.{length_of}
use Rattle.rx_level.specs.Step.{level_of}
use Rattle.rx_walk.specs.Walk.{ahead, meet_full, span_of_ends}
use Rattle.rx_walk.proofs.stretches.run_of.Given as goal

-- the wide span met here is what the first one meets, and the walk goes on within the level
abbrev pub invariant-items : goal.invariant-items
invariant-items l = record {
  run : meet_full l.fn.falls (span_of_ends l.fn.ends) (ahead l.fn.falls l.fn.passed (level_of l.fn.levels l.fn.root))
      ≡ meet_full l.fn.falls (span_of_ends l.wide) (ahead l.fn.falls l.passed (level_of l.fn.levels l.fn.root));
  onward : l.fn.passed ≤ l.passed;
  within : l.passed ≤ length_of (level_of l.fn.levels l.fn.root);
}

abbrev pub decreases-items : goal.decreases-items
decreases-items l = length_of (level_of l.fn.levels l.fn.root) - l.passed
