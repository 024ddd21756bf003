-- The orders of parts and of keys are total.
use Rattle.std.proofs.Common.{Bool, true, false, List, [], ◌∷◌, refl}
use Rattle.std.specs.declared.cmp.Ordering.{Ordering}
use Rattle.std.specs.declared.cmp.Ordering.TheVariants.{Equal}
use Rattle.std.specs.Cmp.{IsTotalOrder}
use Rattle.std.proofs.lemmas.Cmp.{on_total, then_total, back_total}
use Rattle.rx_value.specs.declared.values.Value.{Value}
use Rattle.rx_value.specs.declared.shapes.Part.{Part}
use Rattle.rx_value.specs.Keys.{part_value, key_of, part_cmp, key_cmp}
use Rattle.rx_value.proofs.Ends.{value_cmp_total}

pub part_cmp_total : (falls : Bool) → IsTotalOrder (part_cmp falls)
part_cmp_total false = value_cmp_total
part_cmp_total true = back_total value_cmp_total

-- the order of rows by their keys
abbrev pub by_key : List Part → List Value → List Value → Ordering
by_key parts r s = key_cmp parts (key_of parts r) (key_of parts s)

none_total : IsTotalOrder (λ (r s : List Value). Equal)
none_total = record { antisymm = λ x y. refl; trans = λ x y z p q. p; congr = λ x y z p. refl }

pub by_key_total : (parts : List Part) → IsTotalOrder (by_key parts)
by_key_total [] = none_total
by_key_total (p ∷ ps) = then_total (on_total (part_value p) (part_cmp_total p.descending)) (by_key_total ps)
