use Rattle.std.proofs.Common.{◌≡◌, ◌+◌, ◌≤◌, length, drop}
use Rattle.rx_schema.specs.Given.{columns_in}
use Rattle.rx_schema.proofs.limits.count_columns.Given as goal

-- the columns so far and those that are left are all
abbrev pub invariant-loop-item : goal.invariant-loop-item
invariant-loop-item l = record {
  value : l.count + length (columns_in (drop l.item-index l.items)) ≡ length (columns_in l.items);
  few : l.count ≤ l.item-index;
}
