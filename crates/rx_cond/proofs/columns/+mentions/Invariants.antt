use Rattle.std.proofs.Common.{◌≡◌, drop, map, nat_eq}
use Rattle.std.specs.List.{list_any}
use Rattle.rx_cond.specs.Columns.{columns_of_all}
use Rattle.rx_cond.specs.Tree.{tree_of, trees}
use Rattle.rx_cond.proofs.columns.+mentions.Given as goal

-- no item so far names the column
abbrev pub invariant-any_mentions-loop-item : goal.invariant-any_mentions-loop-item
invariant-any_mentions-loop-item l =
    list_any (nat_eq l.column) (columns_of_all (trees (map tree_of (drop l.item-index l.items)))) ≡ list_any (nat_eq l.column) (columns_of_all (trees (map tree_of l.items)))
