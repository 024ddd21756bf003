-- What follows the points of a range in a key.
use Rattle.std.proofs.Common.{◌≡◌, ◌↔◌, Bool, true, false, List, [], ◌∷◌, ◌++◌, Option, Some, None, refl, ap, ap₂, subst, sym, ◌∙◌, IsTrue}
use Rattle.std.specs.declared.cmp.Ordering.{Ordering}
use Rattle.std.specs.declared.cmp.Ordering.TheVariants.{Less, Equal, Greater}
use Rattle.rx_value.specs.declared.values.Value.{Value}
use Rattle.rx_value.specs.Order.{value_cmp}
use Rattle.rx_value.specs.declared.order.Span.{Span}
use Rattle.rx_value.specs.declared.ranges.KeyRange.{KeyRange}
use Rattle.rx_value.specs.Range.{Holds, GoesOn, NextIsWithin, behind}
use Rattle.rx_value.proofs.Equal.{value_cmp-equal, value_cmp-same}

abbrev on_equal : Ordering → Option (List Value) → Option (List Value)
on_equal o rest = elim o [ Equal ↦ rest | _ ↦ None ]

both : (o : Ordering) (r : Option (List Value)) (rest : List Value) → on_equal o r ≡ Some rest → (o ≡ Equal) × (r ≡ Some rest)
both Less r rest e = absurd (cc e)
both Equal r rest e = (refl, e)
both Greater r rest e = absurd (cc e)

pub splits : (vs ps rest : List Value) → behind vs ps ≡ Some rest → vs ≡ ps ++ rest
splits vs [] rest e = cc e
splits [] (p ∷ ps) rest e = absurd (cc e)
splits (v ∷ vs) (p ∷ ps) rest e =
    let (here, on) = both (value_cmp v p) (behind vs ps) rest e in
    ap₂ (λ x xs. x ∷ xs) (value_cmp-equal v p here) (splits vs ps rest on)

pub joins : (ps rest : List Value) → behind (ps ++ rest) ps ≡ Some rest
joins [] rest = refl
joins (p ∷ ps) rest = ap (λ o. on_equal o (behind (ps ++ rest) ps)) (value_cmp-same p) ∙ joins ps rest

same_rest : (key ps rest other : List Value) → behind key ps ≡ Some rest → key ≡ ps ++ other → other ≡ rest
same_rest key ps rest other is e =
    let again : behind key ps ≡ Some other = ap (λ k. behind k ps) e ∙ joins ps other in cc (is, again)

-- a test of what follows the points decides whether the range holds the key
pub decided : (r : KeyRange) (key rest : List Value) (b : Bool) → behind key r.points ≡ Some rest → (IsTrue b ↔ GoesOn r.last rest) → (IsTrue b ↔ Holds r key)
decided r key rest b is d = (
  λ t. (rest, splits key r.points rest is, d.0 t),
  λ (other, e, g). d.1 (subst (λ (x : List Value). GoesOn r.last x) (same_rest key r.points rest other is e) g),
)

-- a key that doesn't begin with the points isn't held
pub refused : (r : KeyRange) (key : List Value) → behind key r.points ≡ None → (IsTrue false ↔ Holds r key)
refused r key is = (
  λ t. absurd (cc t),
  λ (rest, e, g). let again : behind key r.points ≡ Some rest = ap (λ k. behind k r.points) e ∙ joins r.points rest in absurd (cc (is, again)),
)

pub without_span : (last : Option Span) (rest : List Value) → last ≡ None → (IsTrue true ↔ GoesOn last rest)
without_span last rest is = (λ t. subst (λ (o : Option Span). GoesOn o rest) (sym is) tt, λ g. refl)

pub with_span : (last : Option Span) (span : Span) (rest : List Value) (b : Bool) → last ≡ Some span → (IsTrue b ↔ NextIsWithin span rest) → (IsTrue b ↔ GoesOn last rest)
with_span last span rest b is d = (
  λ t. subst (λ (o : Option Span). GoesOn o rest) (sym is) (d.0 t),
  λ g. d.1 (subst (λ (o : Option Span). GoesOn o rest) is g),
)
