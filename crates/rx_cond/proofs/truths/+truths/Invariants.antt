use Rattle.std.proofs.Common.{◌≡◌, drop, map}
use Rattle.rx_cond.specs.Tri.{three_and, three_or, all_of, any_of}
use Rattle.rx_cond.specs.Tree.{tree_of, trees, truths_at}
use Rattle.rx_cond.proofs.truths.+truths.Given as goal

-- the items so far, and the rest
abbrev pub invariant-truth_of_all-loop-item : goal.invariant-truth_of_all-loop-item
invariant-truth_of_all-loop-item l = three_and l.all (all_of (truths_at (trees (map tree_of (drop l.item-index l.items))) l.row)) ≡ all_of (truths_at (trees (map tree_of l.items)) l.row)

abbrev pub invariant-truth_of_any-loop-item : goal.invariant-truth_of_any-loop-item
invariant-truth_of_any-loop-item l = three_or l.any (any_of (truths_at (trees (map tree_of (drop l.item-index l.items))) l.row)) ≡ any_of (truths_at (trees (map tree_of l.items)) l.row)
