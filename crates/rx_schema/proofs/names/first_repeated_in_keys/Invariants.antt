use Rattle.std.proofs.Common.{◌≡◌, drop}
use Rattle.rx_schema.specs.Given.{first_given, keys_in}
use Rattle.rx_schema.specs.Names.{part_names, first_repeated}
use Rattle.rx_schema.proofs.names.first_repeated_in_keys.Given as goal

-- no key so far names a column twice
abbrev pub invariant-loop-item : goal.invariant-loop-item
invariant-loop-item l = first_given (λ key. first_repeated (part_names key)) (keys_in (drop l.item-index l.items)) ≡ first_given (λ key. first_repeated (part_names key)) (keys_in l.items)
