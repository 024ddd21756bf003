-- Rising spans, and the lowest of two lists of them.
use Rattle.std.proofs.Common.{◌≡◌, false, List, [], ◌∷◌, length, arith, refl, sym, subst}
use Rattle.std.proofs.Math.Bool.{or_assoc}
use Rattle.rx_value.specs.declared.order.End.{End}
use Rattle.rx_value.specs.declared.order.Span.{Span}
use Rattle.rx_value.specs.Order.{is_at_most}
use Rattle.rx_value.specs.Spans.{IsAtMost, is_inside}
use Rattle.rx_value.proofs.Ends.{at_most-trans, at_most-total}
use Rattle.rx_tree.specs.Points.{is_inside_any}
use Rattle.rx_tree.proofs.Bools.{or_swap}
use Rattle.rx_spans.specs.Spans.{AreRising}
use Rattle.rx_spans.specs.Uniting.{IsNext}

-- spans that rise from an end rise from a lower one
pub rising_from : (e f : End) (a : List Span) → IsAtMost e f → AreRising f a → AreRising e a
rising_from e f [] low rising = tt
rising_from e f (s ∷ rest) low rising = (at_most-trans e f s.lo low rising.0, rising.1, rising.2)

no_spans : (e : End) (b : List Span) → b ≡ [] → AreRising e b
no_spans e [] is = tt
no_spans e (t ∷ rest) is = absurd (cc is)

-- the only list that has spans has the lowest one first
next_first : (s : Span) (c : List Span) → IsNext (s ∷ c) [] s c []
next_first s c = record {
  lowest = λ e one other. record { from = one.0; span = one.1; first = one.2; second = tt };
  positions = λ p. or_assoc (is_inside s p) (is_inside_any c p) false;
  fewer = omega arith;
}

next_second : (t : Span) (d : List Span) → IsNext [] (t ∷ d) t [] d
next_second t d = record {
  lowest = λ e one other. record { from = other.0; span = other.1; first = tt; second = other.2 };
  positions = λ p. refl;
  fewer = omega arith;
}

pub only_first : (a b : List Span) (s : Span) (c : List Span) → a ≡ s ∷ c → b ≡ [] → IsNext a b s c b
only_first a b s c is none = subst (λ (y : List Span). IsNext a y s c y) (sym none) (subst (λ (x : List Span). IsNext x [] s c []) (sym is) (next_first s c))

pub only_second : (a b : List Span) (t : Span) (d : List Span) → a ≡ [] → b ≡ t ∷ d → IsNext a b t a d
only_second a b t d none is = subst (λ (x : List Span). IsNext x b t x d) (sym none) (subst (λ (y : List Span). IsNext [] y t [] d) (sym is) (next_second t d))

-- of two first spans the one that begins no higher
lower_first : (s t : Span) (c d : List Span) → IsAtMost s.lo t.lo → IsNext (s ∷ c) (t ∷ d) s c (t ∷ d)
lower_first s t c d low = record {
  lowest = λ e one other. record { from = one.0; span = one.1; first = one.2; second = (low, other.1, other.2) };
  positions = λ p. or_assoc (is_inside s p) (is_inside_any c p) (is_inside_any (t ∷ d) p);
  fewer = omega arith;
}

lower_second : (s t : Span) (c d : List Span) → IsAtMost t.lo s.lo → IsNext (s ∷ c) (t ∷ d) t (s ∷ c) d
lower_second s t c d low = record {
  lowest = λ e one other. record { from = other.0; span = other.1; first = (low, one.1, one.2); second = other.2 };
  positions = λ p. or_swap (is_inside_any (s ∷ c) p) (is_inside t p) (is_inside_any d p);
  fewer = omega arith;
}

pub both_first : (a b : List Span) (s t : Span) (c d : List Span) → a ≡ s ∷ c → b ≡ t ∷ d → IsAtMost s.lo t.lo → IsNext a b s c b
both_first a b s t c d one other low = subst (λ (y : List Span). IsNext a y s c y) (sym other) (subst (λ (x : List Span). IsNext x (t ∷ d) s c (t ∷ d)) (sym one) (lower_first s t c d low))

pub both_second : (a b : List Span) (s t : Span) (c d : List Span) → a ≡ s ∷ c → b ≡ t ∷ d → is_at_most s.lo t.lo ≡ false → IsNext a b t a d
both_second a b s t c d one other high =
    subst (λ (x : List Span). IsNext x b t x d) (sym one) (subst (λ (y : List Span). IsNext (s ∷ c) y t (s ∷ c) d) (sym other) (lower_second s t c d (at_most-total s.lo t.lo high)))

pub no_length : (a : List Span) → length a ≡ 0 → a ≡ []
no_length [] e = refl
no_length (s ∷ rest) e = absurd (omega (arith, e))
