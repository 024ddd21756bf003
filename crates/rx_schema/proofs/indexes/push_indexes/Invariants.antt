use Rattle.std.proofs.Common.{◌≡◌, ◌++◌, drop, map}
use Rattle.std.specs.Prelude.{filter}
use Rattle.rx_schema.specs.Given.{keys_in}
use Rattle.rx_schema.specs.Indexes.{declared_index, is_of}
use Rattle.rx_schema.proofs.indexes.push_indexes.Given as goal

-- the indexes so far and those of what is left are all
abbrev pub invariant-loop-item : goal.invariant-loop-item
invariant-loop-item l = l.indexes ++ map (declared_index l.columns) (filter (is_of l.primary) (keys_in (drop l.item-index l.items))) ≡ l.initial.indexes ++ map (declared_index l.columns) (filter (is_of l.primary) (keys_in l.items))
