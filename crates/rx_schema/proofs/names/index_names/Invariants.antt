use Rattle.std.proofs.Common.{◌≡◌, ◌++◌, drop, map}
use Rattle.std.specs.Prelude.{if◌then◌else◌}
use Rattle.rx_schema.specs.Given.{keys_in}
use Rattle.rx_schema.specs.Names.{index_name, index_names, further_keys}
use Rattle.rx_schema.proofs.names.index_names.Given as goal

-- the names so far and those of what is left are all
abbrev pub invariant-loop-item : goal.invariant-loop-item
invariant-loop-item l =
    let left = keys_in (drop l.item-index l.items) in
    l.names ++ map index_name (if l.has_primary then left else further_keys left) ≡ index_names l.items
