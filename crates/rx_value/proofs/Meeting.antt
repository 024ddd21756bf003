-- The common part of two spans, and spans as sets of positions.
use Rattle.std.proofs.Common.{◌≡◌, ◌↔◌, ◌⊎◌, inl, inr, ◌&&◌, ◌||◌, Bool, true, false, not, Some, None, IsTrue, refl, ap, ap₂, sym, ◌∙◌, subst}
use Rattle.std.specs.declared.cmp.Ordering.{Ordering}
use Rattle.std.specs.declared.cmp.Ordering.TheVariants.{Less, Equal, Greater}
use Rattle.std.proofs.lemmas.Cmp.{tied_itself}
use Rattle.std.proofs.Math.Bool.{and-false}
use Rattle.rx_value.specs.declared.order.End.{End}
use Rattle.rx_value.specs.declared.order.Span.{Span}
use Rattle.rx_value.specs.Order.{end_cmp, is_at_most}
use Rattle.rx_value.specs.Spans.{IsAtMost, IsBelow, IsSpan, IsSpanPart, IsCommon, is_inside, is_inside_part, later, earlier, meet_span}
use Rattle.rx_value.proofs.Ends.{end_cmp_total, end_cmp-equal, at_most-same, at_most-trans, at_most-antisym, at_most-from_equal, at_most-from_greater, below-at_most, below-from_less, below-irrefl, ends_split}

-- a position from the lower end on, and below the upper one, is inside
pub inside : (s : Span) (p : End) → IsAtMost s.lo p → IsBelow p s.hi → is_inside s p ≡ true
inside s p e f = rw (e, f) refl

and_not_parts : (a b : Bool) → (a && not b) ≡ true → (a ≡ true) × (b ≡ false)
and_not_parts true false e = (refl, refl)
and_not_parts true true e = absurd (cc e)
and_not_parts false b e = absurd (cc e)

-- a position below the lower end is outside
pub outside_below : (s : Span) (p : End) → IsBelow p s.lo → is_inside s p ≡ false
outside_below s p e = rw e refl

-- a position from the upper end on is outside
pub outside_above : (s : Span) (p : End) → IsAtMost s.hi p → is_inside s p ≡ false
outside_above s p e = rw e (and-false (is_at_most s.lo p))

-- a position inside stands between the ends
pub inside_bounds : (s : Span) (p : End) → is_inside s p ≡ true → (IsAtMost s.lo p) × (IsBelow p s.hi)
inside_bounds s p e = and_not_parts (is_at_most s.lo p) (is_at_most s.hi p) e

pub lower_inside : (s : Span) → IsSpan s → is_inside s s.lo ≡ true
lower_inside s h = inside s s.lo (at_most-same s.lo) h

lower_at_most : (s t : Span) → IsSpan s → ((p : End) → is_inside s p ≡ is_inside t p) → IsAtMost t.lo s.lo
lower_at_most s t h same = (inside_bounds t s.lo (sym (same s.lo) ∙ lower_inside s h)).0

upper_at_most : (s t : Span) → IsSpan s → IsSpan t → s.lo ≡ t.lo → ((p : End) → is_inside s p ≡ is_inside t p) → IsAtMost t.hi s.hi
upper_at_most s t h k lo same = elim (ends_split s.hi t.hi) [
  | inl e ↦ e
  | inr e ↦
      let from : IsAtMost t.lo s.hi = at_most-trans t.lo s.lo s.hi (at_most-from_equal t.lo s.lo (sym lo)) (below-at_most s.lo s.hi h) in
      let held = same s.hi ∙ inside t s.hi from e in
      absurd (below-irrefl s.hi (inside_bounds s s.hi held).1)
]

-- spans with the same positions are the same
pub span_known : (s t : Span) → IsSpan s → IsSpan t → ((p : End) → is_inside s p ≡ is_inside t p) → s ≡ t
span_known s t h k same =
    let lo : s.lo ≡ t.lo = at_most-antisym s.lo t.lo (lower_at_most t s k (λ p. sym (same p))) (lower_at_most s t h same) in
    let hi : s.hi ≡ t.hi = at_most-antisym s.hi t.hi (upper_at_most t s k h (sym lo) (λ p. sym (same p))) (upper_at_most s t h k lo same) in
    λ i. record { lo = lo i; hi = hi i }

both_ways : (a b : Bool) → (a ≡ true → b ≡ true) → (b ≡ true → a ≡ true) → a ≡ b
both_ways true b f g = sym (f refl)
both_ways false true f g = g refl
both_ways false false f g = refl

and_parts : (a b : Bool) → (a && b) ≡ true → (a ≡ true) × (b ≡ true)
and_parts true b e = (refl, e)
and_parts false b e = absurd (cc e)

later_by : (a b p : End) (o : Ordering) → end_cmp a b ≡ o → is_at_most (elim o [ Less ↦ b | _ ↦ a ]) p ≡ (is_at_most a p && is_at_most b p)
later_by a b p Less e = both_ways (is_at_most b p) (is_at_most a p && is_at_most b p)
    (λ h. rw (at_most-trans a b p (below-at_most a b (below-from_less a b e)) h, h) refl)
    (λ h. (and_parts (is_at_most a p) (is_at_most b p) h).1)
later_by a b p Equal e = both_ways (is_at_most a p) (is_at_most a p && is_at_most b p)
    (λ h. rw (h, at_most-trans b a p (at_most-from_equal b a (sym (end_cmp-equal a b e))) h) refl)
    (λ h. (and_parts (is_at_most a p) (is_at_most b p) h).0)
later_by a b p Greater e = both_ways (is_at_most a p) (is_at_most a p && is_at_most b p)
    (λ h. rw (h, at_most-trans b a p (at_most-from_greater a b e) h) refl)
    (λ h. (and_parts (is_at_most a p) (is_at_most b p) h).0)

or_parts : (a b : Bool) → (a || b) ≡ true → (a ≡ true) ⊎ (b ≡ true)
or_parts true b e = inl refl
or_parts false b e = inr e

or_left : (a b : Bool) → a ≡ true → (a || b) ≡ true
or_left true b e = refl
or_left false b e = absurd (cc e)

or_right : (a b : Bool) → b ≡ true → (a || b) ≡ true
or_right true b e = refl
or_right false b e = e

earlier_by : (a b p : End) (o : Ordering) → end_cmp a b ≡ o → is_at_most (elim o [ Greater ↦ b | _ ↦ a ]) p ≡ (is_at_most a p || is_at_most b p)
earlier_by a b p Less e = both_ways (is_at_most a p) (is_at_most a p || is_at_most b p)
    (or_left (is_at_most a p) (is_at_most b p))
    (λ h. elim (or_parts (is_at_most a p) (is_at_most b p) h) [ inl k ↦ k | inr k ↦ at_most-trans a b p (below-at_most a b (below-from_less a b e)) k ])
earlier_by a b p Equal e = both_ways (is_at_most a p) (is_at_most a p || is_at_most b p)
    (or_left (is_at_most a p) (is_at_most b p))
    (λ h. elim (or_parts (is_at_most a p) (is_at_most b p) h) [ inl k ↦ k | inr k ↦ at_most-trans a b p (at_most-from_equal a b (end_cmp-equal a b e)) k ])
earlier_by a b p Greater e = both_ways (is_at_most b p) (is_at_most a p || is_at_most b p)
    (or_right (is_at_most a p) (is_at_most b p))
    (λ h. elim (or_parts (is_at_most a p) (is_at_most b p) h) [ inl k ↦ at_most-trans b a p (at_most-from_greater a b e) k | inr k ↦ k ])

-- the later of two ends is at most a third exactly where both are
pub later_at_most : (a b p : End) → is_at_most (later a b) p ≡ (is_at_most a p && is_at_most b p)
later_at_most a b p = later_by a b p (end_cmp a b) refl

-- the earlier of two ends is at most a third exactly where one of them is
pub earlier_at_most : (a b p : End) → is_at_most (earlier a b) p ≡ (is_at_most a p || is_at_most b p)
earlier_at_most a b p = earlier_by a b p (end_cmp a b) refl

not_across : (a b : Bool) → (a ≡ true → b ≡ true) → (a && not b) ≡ false
not_across true b f = ap not (f refl)
not_across false b f = refl

span_of_by : (lo hi p : End) (o : Ordering) → end_cmp lo hi ≡ o → is_inside_part (elim o [ Less ↦ Some (record { lo = lo; hi = hi }) | _ ↦ None ]) p ≡ (is_at_most lo p && not (is_at_most hi p))
span_of_by lo hi p Less e = refl
span_of_by lo hi p Equal e = sym (not_across (is_at_most lo p) (is_at_most hi p) (at_most-trans hi lo p (at_most-from_equal hi lo (sym (end_cmp-equal lo hi e)))))
span_of_by lo hi p Greater e = sym (not_across (is_at_most lo p) (is_at_most hi p) (at_most-trans hi lo p (at_most-from_greater lo hi e)))

span_of_span : (lo hi : End) (o : Ordering) → end_cmp lo hi ≡ o → IsSpanPart (elim o [ Less ↦ Some (record { lo = lo; hi = hi }) | _ ↦ None ])
span_of_span lo hi Less e = below-from_less lo hi e
span_of_span lo hi Equal e = tt
span_of_span lo hi Greater e = tt

crossed : (a b c d : Bool) → ((a && b) && not (c || d)) ≡ ((a && not c) && (b && not d))
crossed true true true d = refl
crossed true true false d = refl
crossed true false true d = refl
crossed true false false d = refl
crossed false b c d = refl

-- the part from the later of the lower ends to the earlier of the upper ones holds what both hold
pub meet_span_common : (s t : Span) → IsCommon s t (meet_span s t)
meet_span_common s t = record {
  positions = λ p.
      span_of_by (later s.lo t.lo) (earlier s.hi t.hi) p (end_cmp (later s.lo t.lo) (earlier s.hi t.hi)) refl
      ∙ ap₂ (λ x y. x && not y) (later_at_most s.lo t.lo p) (earlier_at_most s.hi t.hi p)
      ∙ crossed (is_at_most s.lo p) (is_at_most t.lo p) (is_at_most s.hi p) (is_at_most t.hi p);
  span = span_of_span (later s.lo t.lo) (earlier s.hi t.hi) (end_cmp (later s.lo t.lo) (earlier s.hi t.hi)) refl;
}

-- a span within another
pub record Within (m s : Span) : Type 0 where
  pub lo : IsAtMost s.lo m.lo
  pub hi : IsAtMost m.hi s.hi

-- a span whose positions are all in another is within it
pub within : (m s : Span) → IsSpan m → ((p : End) → is_inside m p ≡ true → is_inside s p ≡ true) → Within m s
within m s span each =
    let at_lo = inside_bounds s m.lo (each m.lo (lower_inside m span)) in
    record {
      lo = at_lo.0;
      hi = elim (ends_split s.hi m.hi) [
        | inl e ↦ e
        | inr low ↦ absurd (below-irrefl s.hi (inside_bounds s s.hi (each s.hi (inside m s.hi (below-at_most m.lo s.hi at_lo.1) low))).1)
      ];
    }

-- the common part of two spans is a span within both
pub record IsMet (s t m : Span) : Type 0 where
  pub span : IsSpan m
  pub first : Within m s
  pub second : Within m t

pub met : (s t m : Span) → meet_span s t ≡ Some m → IsMet s t m
met s t m is =
    let common : IsCommon s t (Some m) = subst (IsCommon s t) is (meet_span_common s t) in
    record {
      span = common.span;
      first = within m s common.span (λ p e. (and_parts (is_inside s p) (is_inside t p) (sym (common.positions p) ∙ e)).0);
      second = within m t common.span (λ p e. (and_parts (is_inside s p) (is_inside t p) (sym (common.positions p) ∙ e)).1);
    }

-- ends are equal exactly where they compare equal
pub ends_touch : (a b : End) (o : Ordering) → o ≡ end_cmp a b → o ≡ Equal → (IsTrue true ↔ (a ≡ b))
ends_touch a b o e f = (λ t. end_cmp-equal a b (sym e ∙ f), λ h. refl)

pub ends_apart : (a b : End) (o : Ordering) → o ≡ end_cmp a b → (o ≡ Equal → ⊥) → (IsTrue false ↔ (a ≡ b))
ends_apart a b o e f = (λ t. absurd (cc t), λ h. absurd (f (e ∙ ap (end_cmp a) (sym h) ∙ tied_itself end_cmp_total a)))
