use Rattle.std.proofs.Common.{◌≡◌, drop}
use Rattle.std.specs.Prelude.{find}
use Rattle.rx_schema.specs.Given.{first_given, keys_in}
use Rattle.rx_schema.specs.Names.{part_names, is_missing}
use Rattle.rx_schema.proofs.names.first_unknown.Given as goal

-- each column of the keys so far is there
abbrev pub invariant-loop-item : goal.invariant-loop-item
invariant-loop-item l = first_given (λ key. find (is_missing l.columns) (part_names key)) (keys_in (drop l.item-index l.items)) ≡ first_given (λ key. find (is_missing l.columns) (part_names key)) (keys_in l.items)
