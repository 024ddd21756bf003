use Rattle.std.proofs.Common.{◌≡◌, drop, map}
use Rattle.std.specs.List.{list_any}
use Rattle.rx_statement.specs.Switches.{is_default}
use Rattle.rx_statement.proofs.switches.any_is_default.Given as goal

-- no item so far is `default`
abbrev pub invariant-loop-item : goal.invariant-loop-item
invariant-loop-item l = list_any is_default (map (λ item. item.now) (drop l.item-index l.items)) ≡ list_any is_default (map (λ item. item.now) l.items)
