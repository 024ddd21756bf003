use Rattle.std.proofs.Common.{◌≡◌, ◌++◌, drop, map}
use Rattle.rx_statement.specs.Switches.{flags_of}
use Rattle.rx_statement.proofs.switches.flags_of.Given as goal

-- the flags so far and those of what is left are all
abbrev pub invariant-loop-item : goal.invariant-loop-item
invariant-loop-item l = l.list ++ flags_of (map (λ item. item.now) (drop l.item-index l.items)) ≡ flags_of (map (λ item. item.now) l.items)
