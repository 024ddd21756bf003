-- What the order of two ends says.
use Rattle.std.proofs.Common.{◌≡◌, ◌↔◌, IsTrue, Bool, true, false, not, refl, ap, sym, subst}
use Rattle.std.specs.declared.cmp.Ordering.{Ordering}
use Rattle.std.specs.declared.cmp.Ordering.TheVariants.{Less, Equal, Greater}
use Rattle.rx_value.specs.declared.order.End.{End}
use Rattle.rx_value.specs.Order.{end_cmp, is_at_most}
use Rattle.rx_value.specs.Spans.{IsAtMost, IsBelow}
use Rattle.rx_value.proofs.Ends.{below-from_less, below-irrefl, at_most-from_equal, at_most-from_greater, end_cmp-equal}

pub record Compared (a b : End) (o : Ordering) : Type 0 where
  pub less : o ≡ Less → IsBelow a b
  pub not_less : (o ≡ Less → ⊥) → IsAtMost b a
  pub greater : o ≡ Greater → IsBelow b a
  pub not_greater : (o ≡ Greater → ⊥) → IsAtMost a b
  pub less_apart : o ≡ Less → a ≡ b → ⊥
  pub greater_apart : o ≡ Greater → b ≡ a → ⊥

greater_above : (a b : End) → end_cmp a b ≡ Greater → IsBelow b a
greater_above a b e = ap (λ o. elim o [ Greater ↦ false | _ ↦ true ]) e

pub compared : (a b : End) (o : Ordering) → o ≡ end_cmp a b → Compared a b o
compared a b Less e = record {
  less = λ is. below-from_less a b (sym e);
  not_less = λ not. absurd (not refl);
  greater = λ is. absurd (cc is);
  not_greater = λ not. ap (λ o. elim o [ Greater ↦ false | _ ↦ true ]) (sym e);
  less_apart = λ is same. below-irrefl a (subst (λ (x : End). IsBelow a x) (sym same) (below-from_less a b (sym e)));
  greater_apart = λ is. absurd (cc is);
}
compared a b Equal e = record {
  less = λ is. absurd (cc is);
  not_less = λ not. at_most-from_equal b a (sym (end_cmp-equal a b (sym e)));
  greater = λ is. absurd (cc is);
  not_greater = λ not. at_most-from_equal a b (end_cmp-equal a b (sym e));
  less_apart = λ is. absurd (cc is);
  greater_apart = λ is. absurd (cc is);
}
compared a b Greater e = record {
  less = λ is. absurd (cc is);
  not_less = λ not. at_most-from_greater a b (sym e);
  greater = λ is. greater_above a b (sym e);
  not_greater = λ not. absurd (not refl);
  less_apart = λ is. absurd (cc is);
  greater_apart = λ is same. below-irrefl b (subst (λ (x : End). IsBelow b x) (sym same) (greater_above a b (sym e)));
}

-- where the test of two ends answers no, the second is below the first
pub above_not_at_most : (a b x y : End) (r : Bool) → a ≡ x → b ≡ y → r ≡ is_at_most b a → (IsTrue (not r) ↔ IsBelow x y)
above_not_at_most a b x y true first second is =
    let high : is_at_most y x ≡ true = subst (λ (e : End). is_at_most y e ≡ true) first (subst (λ (e : End). is_at_most e a ≡ true) second (sym is)) in
    ((λ no. absurd (cc no)), (λ below. absurd (cc (high, below))))
above_not_at_most a b x y false first second is =
    let low : is_at_most y x ≡ false = subst (λ (e : End). is_at_most y e ≡ false) first (subst (λ (e : End). is_at_most e a ≡ false) second (sym is)) in
    ((λ yes. low), (λ below. refl))
