-- The order of values and of ends is total, and what follows of ends.
use Rattle.std.proofs.Common.{◌≡◌, ◌⊎◌, inl, inr, ℕ, ℤ, pos, Bool, true, false, List, [], refl, ap, subst}
use mathlib.Core.Path.{fun_ext}
use Rattle.std.specs.declared.cmp.Ordering.{Ordering}
use Rattle.std.specs.declared.cmp.Ordering.TheVariants.{Less, Equal, Greater}
use Rattle.std.specs.Ordering.{int_cmp, nat_cmp, ordering_then, ordering_reverse, on, then_cmp, is_gt}
use Rattle.std.specs.Cmp.{IsTotalOrder}
use Rattle.std.specs.Cmp.Lexicographic.{slice_cmp}
use Rattle.std.proofs.lemmas.Cmp.{nat_cmp_total, int_cmp_total, nat_list_cmp_total, on_total, then_total, upto, tied_itself}
use Rattle.rx_value.specs.declared.values.Value.{Value}
use Rattle.rx_value.specs.declared.values.Value.TheVariants.{Null, Int, Text}
use Rattle.rx_value.specs.declared.order.Side.{Side}
use Rattle.rx_value.specs.declared.order.Side.TheVariants.{Below, Above}
use Rattle.rx_value.specs.declared.order.End.{End}
use Rattle.rx_value.specs.declared.order.End.TheVariants.{Cut, Last}
use Rattle.rx_value.specs.Order.{value_cmp, side_cmp, end_cmp, is_at_most, below, above}
use Rattle.rx_value.specs.Spans.{IsAtMost, IsBelow}
use Rattle.rx_value.proofs.Equal.{value_cmp-equal}

-- a total order's answers, given otherwise
same_total : {K : Type 0} (R S : K → K → Ordering) → IsTotalOrder R → ((x y : K) → R x y ≡ S x y) → IsTotalOrder S
same_total {K} R S h e = subst (λ (Q : K → K → Ordering). IsTotalOrder Q) (fun_ext (λ x. fun_ext (λ y. e x y))) h

then_equal : (o : Ordering) → ordering_then o Equal ≡ o
then_equal Less = refl
then_equal Equal = refl
then_equal Greater = refl

abbrev kind_of : Value → ℕ
kind_of Null = 0
kind_of (Int n) = 1
kind_of (Text t) = 2

abbrev int_of : Value → ℤ
int_of Null = pos 0
int_of (Int n) = n
int_of (Text t) = pos 0

abbrev text_of : Value → List ℕ
text_of Null = []
text_of (Int n) = []
text_of (Text t) = t

abbrev by_kind : Value → Value → Ordering
by_kind = then_cmp (on kind_of nat_cmp) (then_cmp (on int_of int_cmp) (on text_of (slice_cmp nat_cmp)))

by_kind_is : (u v : Value) → by_kind u v ≡ value_cmp u v
by_kind_is Null Null = refl
by_kind_is Null (Int n) = refl
by_kind_is Null (Text t) = refl
by_kind_is (Int m) Null = refl
by_kind_is (Int m) (Int n) = then_equal (int_cmp m n)
by_kind_is (Int m) (Text t) = refl
by_kind_is (Text s) Null = refl
by_kind_is (Text s) (Int n) = refl
by_kind_is (Text s) (Text t) = refl

pub value_cmp_total : IsTotalOrder value_cmp
value_cmp_total = same_total by_kind value_cmp
    (then_total (on_total kind_of nat_cmp_total) (then_total (on_total int_of int_cmp_total) (on_total text_of nat_list_cmp_total)))
    by_kind_is

abbrev last_of : End → ℕ
last_of (Cut v side) = 0
last_of Last = 1

abbrev value_of : End → Value
value_of (Cut v side) = v
value_of Last = Null

abbrev side_of : End → ℕ
side_of (Cut v Below) = 0
side_of (Cut v Above) = 1
side_of Last = 0

abbrev by_place : End → End → Ordering
by_place = then_cmp (on last_of nat_cmp) (then_cmp (on value_of value_cmp) (on side_of nat_cmp))

by_place_is : (a b : End) → by_place a b ≡ end_cmp a b
by_place_is Last Last = refl
by_place_is Last (Cut v high) = refl
by_place_is (Cut u low) Last = refl
by_place_is (Cut u Below) (Cut v Below) = refl
by_place_is (Cut u Below) (Cut v Above) = refl
by_place_is (Cut u Above) (Cut v Below) = refl
by_place_is (Cut u Above) (Cut v Above) = refl

-- the order of ends is total
pub end_cmp_total : IsTotalOrder end_cmp
end_cmp_total = same_total by_place end_cmp
    (then_total (on_total last_of nat_cmp_total) (then_total (on_total value_of value_cmp_total) (on_total side_of nat_cmp_total)))
    by_place_is

both_equal : (o p : Ordering) → ordering_then o p ≡ Equal → (o ≡ Equal) × (p ≡ Equal)
both_equal Less p e = absurd (cc e)
both_equal Equal p e = (refl, e)
both_equal Greater p e = absurd (cc e)

same_side : (s t : Side) → side_cmp s t ≡ Equal → s ≡ t
same_side Below Below e = refl
same_side Below Above e = absurd (cc e)
same_side Above Below e = absurd (cc e)
same_side Above Above e = refl

-- ends that compare equal are equal
pub end_cmp-equal : (a b : End) → end_cmp a b ≡ Equal → a ≡ b
end_cmp-equal Last Last e = refl
end_cmp-equal Last (Cut v high) e = absurd (cc e)
end_cmp-equal (Cut u low) Last e = absurd (cc e)
end_cmp-equal (Cut u low) (Cut v high) e =
    let (values, sides) = both_equal (value_cmp u v) (side_cmp low high) e in
    let v_is = value_cmp-equal u v values in
    let side_is = same_side low high sides in
    cc (v_is, side_is)

abbrev at_most : Ordering → Bool
at_most o = elim o [ Greater ↦ false | _ ↦ true ]

not_greater : (o : Ordering) → at_most o ≡ true → is_gt o ≡ false
not_greater Less e = refl
not_greater Equal e = refl
not_greater Greater e = absurd (cc e)

up_to : (o : Ordering) → is_gt o ≡ false → at_most o ≡ true
up_to Less e = refl
up_to Equal e = refl
up_to Greater e = absurd (cc e)

of_equal : (o : Ordering) → o ≡ Equal → at_most o ≡ true
of_equal Less e = refl
of_equal Equal e = refl
of_equal Greater e = absurd (cc e)

turned : (o p : Ordering) → o ≡ ordering_reverse p → at_most o ≡ false → at_most p ≡ true
turned Less p e h = absurd (cc h)
turned Equal p e h = absurd (cc h)
turned Greater Less e h = refl
turned Greater Equal e h = refl
turned Greater Greater e h = absurd (cc e)

tied : (o p : Ordering) → o ≡ ordering_reverse p → at_most o ≡ true → at_most p ≡ true → o ≡ Equal
tied Less Less e h k = absurd (cc e)
tied Less Equal e h k = absurd (cc e)
tied Less Greater e h k = absurd (cc k)
tied Equal p e h k = refl
tied Greater p e h k = absurd (cc h)

back_of_less : (o p : Ordering) → o ≡ ordering_reverse p → o ≡ Less → at_most p ≡ false
back_of_less Less Less e h = absurd (cc e)
back_of_less Less Equal e h = absurd (cc e)
back_of_less Less Greater e h = refl
back_of_less Equal p e h = absurd (cc h)
back_of_less Greater p e h = absurd (cc h)

less_back : (o p : Ordering) → o ≡ ordering_reverse p → at_most p ≡ false → o ≡ Less
less_back o Less e h = absurd (cc h)
less_back o Equal e h = absurd (cc h)
less_back o Greater e h = e

-- an end isn't above itself
pub at_most-same : (a : End) → IsAtMost a a
at_most-same a = of_equal (end_cmp a a) (tied_itself end_cmp_total a)

pub at_most-trans : (a b c : End) → IsAtMost a b → IsAtMost b c → IsAtMost a c
at_most-trans a b c e f = up_to (end_cmp a c) (upto end_cmp_total a b c (not_greater (end_cmp a b) e) (not_greater (end_cmp b c) f))

-- what isn't at most another is above it
pub at_most-total : (a b : End) → is_at_most a b ≡ false → IsAtMost b a
at_most-total a b e = turned (end_cmp a b) (end_cmp b a) (end_cmp_total.antisymm a b) e

pub below-at_most : (a b : End) → IsBelow a b → IsAtMost a b
below-at_most a b e = at_most-total b a e

pub at_most-antisym : (a b : End) → IsAtMost a b → IsAtMost b a → a ≡ b
at_most-antisym a b e f = end_cmp-equal a b (tied (end_cmp a b) (end_cmp b a) (end_cmp_total.antisymm a b) e f)

pub at_most-from_equal : (a b : End) → a ≡ b → IsAtMost a b
at_most-from_equal a b e = subst (IsAtMost a) e (at_most-same a)

pub at_most-from_greater : (a b : End) → end_cmp a b ≡ Greater → IsAtMost b a
at_most-from_greater a b e = at_most-total a b (ap at_most e)

-- an end is below another exactly where it compares as less
pub below-from_less : (a b : End) → end_cmp a b ≡ Less → IsBelow a b
below-from_less a b e = back_of_less (end_cmp a b) (end_cmp b a) (end_cmp_total.antisymm a b) e

pub below-less : (a b : End) → IsBelow a b → end_cmp a b ≡ Less
below-less a b e = less_back (end_cmp a b) (end_cmp b a) (end_cmp_total.antisymm a b) e

at_most_or_below : (a b : End) (t : Bool) → is_at_most b a ≡ t → (IsAtMost b a) ⊎ (IsBelow a b)
at_most_or_below a b true e = inl e
at_most_or_below a b false e = inr e

pub ends_split : (a b : End) → (IsAtMost b a) ⊎ (IsBelow a b)
ends_split a b = at_most_or_below a b (is_at_most b a) refl

no_both : (t : Bool) → t ≡ true → t ≡ false → ⊥
no_both t e f = absurd (cc (e, f))

pub below-irrefl : (a : End) → IsBelow a a → ⊥
below-irrefl a e = no_both (is_at_most a a) (at_most-same a) e

pub at_most-below : (a b c : End) → IsAtMost a b → IsBelow b c → IsBelow a c
at_most-below a b c e f = elim (ends_split a c) [
  | inl h ↦ absurd (no_both (is_at_most c b) (at_most-trans c a b h e) f)
  | inr h ↦ h
]

pub below-at_most-trans : (a b c : End) → IsBelow a b → IsAtMost b c → IsBelow a c
below-at_most-trans a b c e f = elim (ends_split a c) [
  | inl h ↦ absurd (no_both (is_at_most b a) (at_most-trans b c a f h) e)
  | inr h ↦ h
]

pub below-trans : (a b c : End) → IsBelow a b → IsBelow b c → IsBelow a c
below-trans a b c e f = at_most-below a b c (below-at_most a b e) f

-- ends that differ and aren't above are below
pub at_most-equal_or_below : (a b : End) → IsAtMost a b → (a ≡ b) ⊎ (IsBelow a b)
at_most-equal_or_below a b e = elim (ends_split a b) [
  | inl h ↦ inl (at_most-antisym a b e h)
  | inr h ↦ inr h
]

-- the cut below NULL is least
pub least_end : (a : End) → IsAtMost (below Null) a
least_end Last = refl
least_end (Cut Null Below) = refl
least_end (Cut Null Above) = refl
least_end (Cut (Int n) side) = refl
least_end (Cut (Text t) side) = refl

-- the cut above NULL comes next
pub next_to_least : (a : End) → IsBelow (below Null) a → IsAtMost (above Null) a
next_to_least Last e = refl
next_to_least (Cut Null Below) e = absurd (cc e)
next_to_least (Cut Null Above) e = refl
next_to_least (Cut (Int n) side) e = refl
next_to_least (Cut (Text t) side) e = refl

-- `Last` is greatest
pub greatest_end : (a : End) → IsAtMost a Last
greatest_end Last = refl
greatest_end (Cut v side) = refl

-- what is below an end is a cut
pub below-cut : (a b : End) → IsBelow a b → IsBelow a Last
below-cut a b e = below-at_most-trans a b Last e (greatest_end b)
