use Rattle.std.proofs.Common.{◌≡◌, take, map}
use Rattle.rx_cond.specs.Tree.{tree_of}
use Rattle.rx_where.specs.Raw.{raw_tree_of}
use Rattle.rx_where.specs.Resolution.{resolved}
use Rattle.rx_where.proofs.resolving.+resolved.Given as goal

-- the conditions so far
abbrev pub invariant-resolved_all-loop-item : goal.invariant-resolved_all-loop-item
invariant-resolved_all-loop-item l = map tree_of l.conds.items ≡ map (resolved l.columns) (map raw_tree_of (take l.item-index l.items))
