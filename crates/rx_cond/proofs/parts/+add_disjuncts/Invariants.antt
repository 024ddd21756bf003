use Rattle.std.proofs.Common.{◌≡◌, ◌++◌, drop, map}
use Rattle.rx_cond.specs.Parts.{disjuncts_of_all}
use Rattle.rx_cond.specs.Tree.{tree_of, trees}
use Rattle.rx_cond.proofs.parts.+add_disjuncts.Given as goal

-- the parts so far, and those of the rest
abbrev pub invariant-loop-item : goal.invariant-loop-item
invariant-loop-item l =
    map tree_of l.parts ++ disjuncts_of_all (trees (map tree_of (drop l.item-index l.item-items))) ≡ map tree_of l.initial.parts ++ disjuncts_of_all (trees (map tree_of l.item-items))
