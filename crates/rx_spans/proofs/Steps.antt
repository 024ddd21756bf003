-- Spans taken behind one another, one by one.
use Rattle.std.proofs.Common.{◌≡◌, ◌&&◌, ◌||◌, Bool, true, false, not, cond, List, [], ◌∷◌, ◌++◌, append_assoc, refl, ap, sym, ◌∙◌, subst}
use Rattle.std.proofs.Math.Bool.{or_assoc}
use Rattle.rx_value.specs.declared.order.End.{End}
use Rattle.rx_value.specs.declared.order.Span.{Span}
use Rattle.rx_value.specs.Order.{is_at_most}
use Rattle.rx_value.specs.Spans.{IsAtMost, IsBelow, IsSpan, is_inside}
use Rattle.rx_value.proofs.Ends.{at_most-trans, below-at_most, below-at_most-trans}
use Rattle.rx_tree.specs.Points.{AreApart, is_inside_any}
use Rattle.rx_spans.specs.Spans.{AreRising, AreApartFrom, AreUnited, is_inside_either}
use Rattle.rx_spans.specs.Uniting.{IsNext, IsTaken, IsClosed}
use Rattle.rx_spans.proofs.Lists.{rising_from}

-- the later of two upper ends
abbrev pub reach : End → End → End
reach a b = cond (is_at_most b a) a b

not_later : (a b p : End) → is_at_most b a ≡ false → is_at_most a p ≡ false → is_at_most b p ≡ false
not_later a b p e f = below-at_most-trans p a b f (below-at_most a b e)

reach_by : (a b p : End) (x y : Bool) → is_at_most b a ≡ x → is_at_most a p ≡ y → is_at_most (cond x a b) p ≡ (y && is_at_most b p)
reach_by a b p true true e f = f ∙ sym (at_most-trans b a p e f)
reach_by a b p true false e f = f
reach_by a b p false true e f = refl
reach_by a b p false false e f = not_later a b p e f

reach_at_most : (a b p : End) → is_at_most (reach a b) p ≡ (is_at_most a p && is_at_most b p)
reach_at_most a b p = reach_by a b p (is_at_most b a) (is_at_most a p) refl refl

-- two spans that touch, at a position: l and m say that it isn't below the lower ends, x and y that it isn't below the upper ones
as_one : (l m x y : Bool) → (m ≡ true → l ≡ true) → (x ≡ true → m ≡ true) → (l && not (x && y)) ≡ ((l && not x) || (m && not y))
as_one true true true y f g = refl
as_one true true false y f g = refl
as_one true false true y f g = absurd (cc (g refl))
as_one true false false y f g = refl
as_one false true x y f g = absurd (cc (f refl))
as_one false false true y f g = absurd (cc (g refl))
as_one false false false y f g = refl

-- the span that reaches as far as two that touch has their positions
one_inside : (s t : Span) (p : End) → IsAtMost s.lo t.lo → IsAtMost t.lo s.hi → is_inside (record { lo = s.lo; hi = reach s.hi t.hi }) p ≡ (is_inside s p || is_inside t p)
one_inside s t p low touch =
    ap (λ x. is_at_most s.lo p && not x) (reach_at_most s.hi t.hi p)
    ∙ as_one (is_at_most s.lo p) (is_at_most t.lo p) (is_at_most s.hi p) (is_at_most t.hi p) (λ h. at_most-trans s.lo t.lo p low h) (λ h. at_most-trans t.lo s.hi p touch h)

reach_by_first : (s t : Span) (x : Bool) → IsSpan s → is_at_most t.hi s.hi ≡ x → IsBelow s.lo (cond x s.hi t.hi)
reach_by_first s t true span e = span
reach_by_first s t false span e = below-at_most-trans s.lo s.hi t.hi span (below-at_most s.hi t.hi e)

-- the last span and two lists, from which all that is left comes to stand behind others
pub record Closing (s : Span) (a b before : List Span) (t : Span) (c d after : List Span) : Type 0 where
  pub carries : (whole : List Span) → IsClosed t c d after whole → IsClosed s a b before whole
  pub span : IsSpan t
  pub first : AreRising t.lo c
  pub second : AreRising t.lo d

pub closing : (s : Span) (a b before : List Span) → IsSpan s → AreRising s.lo a → AreRising s.lo b → Closing s a b before s a b before
closing s a b before span first second = record { carries = λ whole closed. closed; span = span; first = first; second = second }

-- the last span takes in one that touches it
grown : (s t : Span) (a b c d before whole : List Span) → IsNext a b t c d → IsAtMost s.lo t.lo → IsAtMost t.lo s.hi
    → IsClosed (record { lo = s.lo; hi = reach s.hi t.hi }) c d before whole → IsClosed s a b before whole
grown s t a b c d before whole next low touch closed = record {
  hi = closed.hi;
  more = closed.more;
  is = closed.is;
  span = closed.span;
  apart = closed.apart;
  positions = λ p.
      closed.positions p
      ∙ ap (λ x. x || is_inside_either c d p) (one_inside s t p low touch)
      ∙ or_assoc (is_inside s p) (is_inside t p) (is_inside_either c d p)
      ∙ ap (λ x. is_inside s p || x) (sym (next.positions p));
}

-- or stands behind the others
pushed : (s t : Span) (a b c d before whole : List Span) → IsNext a b t c d → IsSpan s → IsBelow s.hi t.lo → IsClosed t c d (before ++ s ∷ []) whole → IsClosed s a b before whole
pushed s t a b c d before whole next span apart closed =
    let first : Span = record { lo = t.lo; hi = closed.hi } in
    record {
      hi = s.hi;
      more = first ∷ closed.more;
      is = closed.is ∙ append_assoc before (s ∷ []) (first ∷ closed.more);
      span = span;
      apart = (apart, closed.span, closed.apart);
      positions = λ p.
          ap (λ x. is_inside s p || x) (closed.positions p ∙ sym (next.positions p));
    }

step_by : (x : Bool) (s t u : Span) (a b c d before after : List Span) → is_at_most t.lo s.hi ≡ x → IsNext a b t c d → IsSpan s → AreRising s.lo a → AreRising s.lo b → IsTaken x s t u before after → Closing s a b before u c d after
step_by true s t u a b c d before after e next span first second taken =
    let low = next.lowest s.lo first second in
    let start : Closing s a b before (record { lo = s.lo; hi = reach s.hi t.hi }) c d before = record {
      carries = λ whole closed. grown s t a b c d before whole next low.from e closed;
      span = reach_by_first s t (is_at_most t.hi s.hi) span refl;
      first = rising_from s.lo t.lo c low.from low.first;
      second = rising_from s.lo t.lo d low.from low.second;
    } in
    subst (λ (v : Span). Closing s a b before v c d after) (sym taken.0) (subst (Closing s a b before (record { lo = s.lo; hi = reach s.hi t.hi }) c d) (sym taken.1) start)
step_by false s t u a b c d before after e next span first second taken =
    let low = next.lowest s.lo first second in
    let start : Closing s a b before t c d (before ++ s ∷ []) = record {
      carries = λ whole closed. pushed s t a b c d before whole next span e closed;
      span = low.span;
      first = low.first;
      second = low.second;
    } in
    subst (λ (v : Span). Closing s a b before v c d after) (sym taken.0) (subst (Closing s a b before t c d) (sym taken.1) start)

-- one span more is taken
pub closing_step : (s : Span) (a b before : List Span) (t : Span) (c d mid : List Span) (next u : Span) (x y after : List Span)
    → Closing s a b before t c d mid → IsNext c d next x y → IsTaken (is_at_most next.lo t.hi) t next u mid after → Closing s a b before u x y after
closing_step s a b before t c d mid next u x y after so_far is taken =
    let step = step_by (is_at_most next.lo t.hi) t next u c d x y mid after refl is so_far.span so_far.first so_far.second taken in
    record {
      carries = λ whole closed. so_far.carries whole (step.carries whole closed);
      span = step.span;
      first = step.first;
      second = step.second;
    }

-- no span is left
last_one : (t : Span) (c d mid whole : List Span) → c ≡ [] → d ≡ [] → IsSpan t → whole ≡ mid ++ t ∷ [] → IsClosed t c d mid whole
last_one t [] [] mid whole e f span is = record { hi = t.hi; more = []; is = is; span = span; apart = tt; positions = λ p. refl }
last_one t [] (u ∷ d) mid whole e f span is = absurd (cc f)
last_one t (u ∷ c) d mid whole e f span is = absurd (cc e)

pub closed : (s : Span) (a b before : List Span) (t : Span) (c d mid whole : List Span) → Closing s a b before t c d mid → c ≡ [] → d ≡ [] → whole ≡ mid ++ t ∷ [] → IsClosed s a b before whole
closed s a b before t c d mid whole so_far e f is = so_far.carries whole (last_one t c d mid whole e f so_far.span is)

-- the lowest span and all others
united_list : (a b : List Span) (s : Span) (c d u : List Span) (hi : End) (more : List Span) → IsNext a b s c d → u ≡ record { lo = s.lo; hi = hi } ∷ more → IsBelow s.lo hi → AreApart hi more
    → ((p : End) → is_inside_any (record { lo = s.lo; hi = hi } ∷ more) p ≡ (is_inside s p || is_inside_either c d p)) → AreUnited a b u
united_list a b s c d u hi more next is span apart positions = record {
  apart = λ e one other. subst (AreApartFrom e) (sym is) ((next.lowest e one other).from, span, apart);
  positions = λ p. ap (λ x. is_inside_any x p) is ∙ positions p ∙ sym (next.positions p);
}

pub united : (a b : List Span) (s : Span) (c d before u : List Span) → IsNext a b s c d → before ≡ [] → IsClosed s c d before u → AreUnited a b u
united a b s c d before u next none all =
    united_list a b s c d u all.hi all.more next (all.is ∙ ap (λ x. x ++ record { lo = s.lo; hi = all.hi } ∷ all.more) none) all.span all.apart all.positions

pub united_none : (a b u : List Span) → a ≡ [] → b ≡ [] → u ≡ [] → AreUnited a b u
united_none [] [] [] e f g = record { apart = λ e one other. tt; positions = λ p. refl }
united_none [] [] (s ∷ u) e f g = absurd (cc g)
united_none [] (s ∷ b) u e f g = absurd (cc f)
united_none (s ∷ a) b u e f g = absurd (cc e)
