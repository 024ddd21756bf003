-- The order of values and of the ends of spans.
use Rattle.std.specs.Prelude.{◌≡◌, Bool, true, false}
use Rattle.std.specs.declared.cmp.Ordering.{Ordering}
use Rattle.std.specs.declared.cmp.Ordering.TheVariants.{Less, Equal, Greater}
use Rattle.std.specs.Ordering.{nat_cmp, int_cmp, ordering_then}
use Rattle.std.specs.Cmp.Lexicographic.{slice_cmp}
use Rattle.rx_value.specs.declared.values.Value.{Value}
use Rattle.rx_value.specs.declared.values.Value.TheVariants.{Null, Int, Text}
use Rattle.rx_value.specs.declared.order.Side.{Side}
use Rattle.rx_value.specs.declared.order.Side.TheVariants.{Below, Above}
use Rattle.rx_value.specs.declared.order.End.{End}
use Rattle.rx_value.specs.declared.order.End.TheVariants.{Cut, Last}
use Rattle.rx_value.specs.declared.order.Span.{Span}

-- NULL is lowest, then integers by size, then texts by their bytes.
abbrev pub value_cmp : Value → Value → Ordering
value_cmp Null Null = Equal
value_cmp Null _ = Less
value_cmp (Int m) Null = Greater
value_cmp (Int m) (Int n) = int_cmp m n
value_cmp (Int m) (Text t) = Less
value_cmp (Text s) (Text t) = slice_cmp nat_cmp s t
value_cmp (Text s) _ = Greater

-- the side below before the side above
abbrev pub side_cmp : Side → Side → Ordering
side_cmp Below Above = Less
side_cmp Above Below = Greater
side_cmp _ _ = Equal

-- A cut below a value stands before the cut above it, and `Last` is above all cuts.
abbrev pub end_cmp : End → End → Ordering
end_cmp Last Last = Equal
end_cmp Last _ = Greater
end_cmp (Cut u low) Last = Less
end_cmp (Cut u low) (Cut v high) = ordering_then (value_cmp u v) (side_cmp low high)

-- the first end isn't above the second
abbrev pub is_at_most : End → End → Bool
is_at_most a b = elim (end_cmp a b) [ Greater ↦ false | _ ↦ true ]

-- the cut just below a value
abbrev pub below : Value → End
below v = Cut v Below

-- the cut just above a value
abbrev pub above : Value → End
above v = Cut v Above

-- A span holds the values between its ends.
abbrev pub IsWithin : Span → Value → Type 0
IsWithin s v = (is_at_most s.lo (below v) ≡ true) × (is_at_most (above v) s.hi ≡ true)
