use Rattle.rx_cond.specs.Tree.{tree_of}
use Rattle.rx_build.proofs.Known.{NoMoreFit}
use Rattle.rx_build.proofs.building.most_ranges.Given as goal

-- no more parts than those not tried yet fit
abbrev pub invariant-loop-before : goal.invariant-loop-before
invariant-loop-before l = NoMoreFit l.columns l.parts l.items (tree_of l.cond) l.before
