use Rattle.std.proofs.Common.{◌≡◌, ◌+◌, ◌≤◌, length, drop}
use Rattle.std.specs.Prelude.{filter}
use Rattle.rx_schema.specs.Given.{keys_in}
use Rattle.rx_schema.specs.Limits.{is_secondary}
use Rattle.rx_schema.proofs.limits.count_secondary.Given as goal

-- the keys so far and those that are left are all
abbrev pub invariant-loop-item : goal.invariant-loop-item
invariant-loop-item l = record {
  value : l.count + length (filter is_secondary (keys_in (drop l.item-index l.items))) ≡ length (filter is_secondary (keys_in l.items));
  few : l.count ≤ l.item-index;
}
