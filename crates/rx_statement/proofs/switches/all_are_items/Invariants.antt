use Rattle.std.proofs.Common.{◌≡◌, drop, map}
use Rattle.std.specs.List.{list_all}
use Rattle.rx_statement.specs.Switches.{is_switch_item}
use Rattle.rx_statement.proofs.switches.all_are_items.Given as goal

-- each so far is an item of the switch
abbrev pub invariant-loop-item : goal.invariant-loop-item
invariant-loop-item l = list_all is_switch_item (map (λ item. item.now) (drop l.item-index l.items)) ≡ list_all is_switch_item (map (λ item. item.now) l.items)
