-- The keys that a range holds.
use Rattle.std.specs.Prelude.{◌≡◌, List, [], ◌∷◌, ◌++◌, Option, Some, None}
use Rattle.std.specs.declared.cmp.Ordering.TheVariants.{Equal}
use Rattle.rx_value.specs.declared.values.Value.{Value}
use Rattle.rx_value.specs.declared.order.Span.{Span}
use Rattle.rx_value.specs.declared.ranges.KeyRange.{KeyRange}
use Rattle.rx_value.specs.Order.{value_cmp, IsWithin}

-- the first of these values is there and in the span
abbrev pub NextIsWithin : Span → List Value → Type 0
NextIsWithin span [] = ⊥
NextIsWithin span (v ∷ vs) = IsWithin span v

-- what a range asks of the values behind its points
abbrev pub GoesOn : Option Span → List Value → Type 0
GoesOn None rest = Unit {0}
GoesOn (Some span) rest = NextIsWithin span rest

-- A range holds a key that begins with its points and whose next value is in its span, where there is one.
abbrev pub Holds : KeyRange → List Value → Type 0
Holds r key = (rest : List Value) × (key ≡ r.points ++ rest) × GoesOn r.last rest

-- what follows the points, where the values begin with them
abbrev pub behind : List Value → List Value → Option (List Value)
behind vs [] = Some vs
behind [] (p ∷ ps) = None
behind (v ∷ vs) (p ∷ ps) = elim (value_cmp v p) [ Equal ↦ behind vs ps | _ ↦ None ]
