use Rattle.std.proofs.Common.{◌≡◌, drop, map}
use Rattle.rx_where.specs.Names.{first_unknown, names_of_all}
use Rattle.rx_where.specs.Raw.{raw_tree_of, raw_trees}
use Rattle.rx_where.proofs.names.+unknown.Given as goal

-- each name so far is a column
abbrev pub invariant-unknown_name_of_all-loop-item : goal.invariant-unknown_name_of_all-loop-item
invariant-unknown_name_of_all-loop-item l =
    first_unknown l.columns (names_of_all (raw_trees (map raw_tree_of (drop l.item-index l.items)))) ≡ first_unknown l.columns (names_of_all (raw_trees (map raw_tree_of l.items)))
