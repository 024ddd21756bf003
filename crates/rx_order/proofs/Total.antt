-- The order of output rows is total.
use Rattle.std.proofs.Common.{Bool, true, false, cond, List, [], ◌∷◌, refl}
use Rattle.std.specs.declared.cmp.Ordering.{Ordering}
use Rattle.std.specs.declared.cmp.Ordering.TheVariants.{Equal}
use Rattle.std.specs.Cmp.{IsTotalOrder, IsStrictWeakOrder}
use Rattle.std.proofs.lemmas.Cmp.{on_total, then_total, back_total}
use Rattle.std.proofs.lemmas.List.Sorted.{ranks_by}
use Rattle.rx_value.specs.Order.{value_cmp}
use Rattle.rx_query.specs.declared.statements.Order.{Order}
use Rattle.rx_group.specs.OrderLaws.{value_cmp_total}
use Rattle.rx_order.specs.Order.{Output, value_by, outputs_cmp, is_before}

all_tie : IsTotalOrder (λ (a b : Output). Equal)
all_tie = record {
  antisymm = λ x y. refl;
  trans = λ x y z p q. p;
  congr = λ x y z p. refl;
}

abbrev turned_if : Order → Bool → Output → Output → Ordering
turned_if part falling a b = cond falling (value_cmp (value_by part.by b) (value_by part.by a)) (value_cmp (value_by part.by a) (value_by part.by b))

by_part : (part : Order) (falling : Bool) → IsTotalOrder (turned_if part falling)
by_part part true = back_total (on_total (value_by part.by) value_cmp_total)
by_part part false = on_total (value_by part.by) value_cmp_total

pub outputs_total : (order : List Order) → IsTotalOrder (outputs_cmp order)
outputs_total [] = all_tie
outputs_total (part ∷ order) = then_total (by_part part part.falling) (outputs_total order)

pub before_ranks : (order : List Order) → IsStrictWeakOrder (is_before order)
before_ranks order = ranks_by (outputs_total order) (λ (o : Output). o)
