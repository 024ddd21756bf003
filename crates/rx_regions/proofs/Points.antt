-- At the point of a value, how it stands to another is their order.
use Rattle.std.proofs.Common.{◌≡◌, Bool, true, false, if◌then◌else◌, refl, ap, sym, ◌∙◌}
use Rattle.std.specs.declared.cmp.Ordering.{Ordering}
use Rattle.std.specs.declared.cmp.Ordering.TheVariants.{Less, Equal, Greater}
use Rattle.std.specs.Ordering.{ordering_then, ordering_reverse, is_eq}
use Rattle.rx_value.specs.declared.values.Value.{Value}
use Rattle.rx_value.specs.declared.values.Value.TheVariants.{Null, Int, Text}
use Rattle.rx_value.specs.Order.{value_cmp, below}
use Rattle.rx_value.proofs.Equal.{value_cmp-same}
use Rattle.rx_value.proofs.Ends.{value_cmp_total}
use Rattle.rx_cond.specs.Test.{is_null_value}
use Rattle.rx_regions.specs.Places.{place, is_at}

-- the first isn't above the second
abbrev pub at_most : Ordering → Bool
at_most o = elim o [ Greater ↦ false | _ ↦ true ]

place_by : (o : Ordering) → (if at_most (ordering_then o Greater) then Greater else if at_most (ordering_then o Equal) then Equal else Less) ≡ ordering_reverse o
place_by Less = refl
place_by Equal = refl
place_by Greater = refl

-- the point of a value stands to another value as the two compare
pub place_below : (w v : Value) → place (below w) v ≡ value_cmp w v
place_below w v = place_by (value_cmp v w) ∙ sym (value_cmp_total.antisymm w v)

pub is_at_below : (w v : Value) → is_at (below w) v ≡ is_eq (value_cmp w v)
is_at_below w v = ap is_eq (place_below w v)

pub is_at_same : (v : Value) → is_at (below v) v ≡ true
is_at_same v = is_at_below v v ∙ ap is_eq (value_cmp-same v)

-- only NULL is at NULL
pub is_at_null : (w : Value) → is_at (below w) Null ≡ is_null_value w
is_at_null Null = refl
is_at_null (Int n) = refl
is_at_null (Text t) = refl
