use Rattle.std.proofs.Common.{◌≡◌, drop}
use Rattle.std.specs.List.{list_any}
use Rattle.rx_schema.specs.Given.{keys_in}
use Rattle.rx_schema.specs.Limits.{has_many_parts}
use Rattle.rx_schema.proofs.limits.any_has_many_parts.Given as goal

-- no key so far has too many
abbrev pub invariant-loop-item : goal.invariant-loop-item
invariant-loop-item l = list_any has_many_parts (keys_in (drop l.item-index l.items)) ≡ list_any has_many_parts (keys_in l.items)
