use Rattle.std.proofs.Common.{◌≡◌, drop, map}
use Rattle.rx_where.specs.Kinds.{any_mismatches}
use Rattle.rx_where.specs.Raw.{raw_tree_of, raw_trees}
use Rattle.rx_where.proofs.kinds.+mismatches.Given as goal

-- no condition so far mismatches
abbrev pub invariant-any_mismatches-loop-item : goal.invariant-any_mismatches-loop-item
invariant-any_mismatches-loop-item l =
    any_mismatches l.columns (raw_trees (map raw_tree_of (drop l.item-index l.items))) ≡ any_mismatches l.columns (raw_trees (map raw_tree_of l.items))
