-- What a level has within a span is what an item without a child has in common with it.
use Rattle.std.proofs.Common.{◌≡◌, inl, inr, Bool, true, false, cond, Option, Some, None, refl, ap, ap₂, sym, ◌∙◌, subst}
use Rattle.std.specs.declared.cmp.Ordering.{Ordering}
use Rattle.std.specs.declared.cmp.Ordering.TheVariants.{Less, Equal, Greater}
use Rattle.rx_value.specs.declared.order.End.{End}
use Rattle.rx_value.specs.declared.order.Span.{Span}
use Rattle.rx_value.specs.Order.{end_cmp, is_at_most}
use Rattle.rx_value.specs.Spans.{IsAtMost, IsBelow, IsSpan, later, earlier, span_of, meet_span}
use Rattle.rx_value.proofs.Ends.{end_cmp-equal, at_most-trans, at_most-antisym, at_most-total, below-at_most, below-less, at_most-below, below-irrefl, ends_split}
use Rattle.rx_value.proofs.Meeting.{met}
use Rattle.rx_tree.specs.Tree.{Level}
use Rattle.rx_tree.specs.Tree.Level.{end, item}
use Rattle.rx_tree.specs.Join.{join_level}
use Rattle.rx_tree.specs.Weld.{weld}
use Rattle.rx_tree.specs.Meet.{piece_of, put_piece, across}
use Rattle.rx_tree.proofs.Welding.{begins_later, weld_apart}
use Rattle.rx_tree.specs.Cuts.{before, after, AreInOrder}
use Rattle.rx_tree.proofs.Order.{right_order, before_keep, before_drop, nothing_before, after_drop}
use Rattle.rx_tree.proofs.Sides.{before_begins, before_order, after_order, after_all}
use Rattle.rx_cut.specs.Clip.{clipped, IsAlone}
use Rattle.rx_cut.proofs.Cuts.{from_end, till_end, no_after, after_by, before_by}

pub none_below : (s u : Span) (m : Option Span) → meet_span s u ≡ m → IsAtMost u.hi s.lo → m ≡ None
none_below s u None is low = refl
none_below s u (Some m) is low =
    let x = met s u m is in
    absurd (below-irrefl m.hi (at_most-below m.hi m.lo m.hi (at_most-trans m.hi u.hi m.lo x.second.hi (at_most-trans u.hi s.lo m.lo low x.first.lo)) x.span))

pub none_above : (s u : Span) (m : Option Span) → meet_span s u ≡ m → IsAtMost s.hi u.lo → m ≡ None
none_above s u None is low = refl
none_above s u (Some m) is low =
    let x = met s u m is in
    absurd (below-irrefl m.hi (at_most-below m.hi m.lo m.hi (at_most-trans m.hi s.hi m.lo x.first.hi (at_most-trans s.hi u.lo m.lo low x.second.lo)) x.span))

later_by : (a b : End) (o : Ordering) → end_cmp a b ≡ o → elim o [ Less ↦ b | _ ↦ a ] ≡ cond (elim o [ Greater ↦ false | _ ↦ true ]) b a
later_by a b Less is = refl
later_by a b Equal is = end_cmp-equal a b is
later_by a b Greater is = refl

later_is : (a b : End) → later a b ≡ cond (is_at_most a b) b a
later_is a b = later_by a b (end_cmp a b) refl

earlier_by : (a b : End) (o : Ordering) → elim o [ Greater ↦ b | _ ↦ a ] ≡ cond (elim o [ Greater ↦ false | _ ↦ true ]) a b
earlier_by a b Less = refl
earlier_by a b Equal = refl
earlier_by a b Greater = refl

either_end : (a b : End) (x y : Bool) → is_at_most a b ≡ x → is_at_most b a ≡ y → cond x a b ≡ cond y b a
either_end a b true true is other = at_most-antisym a b is other
either_end a b true false is other = refl
either_end a b false true is other = refl
either_end a b false false is other = absurd (below-irrefl a (at_most-below a b a (at_most-total b a other) is))

earlier_is : (a b : End) → earlier a b ≡ cond (is_at_most b a) b a
earlier_is a b = earlier_by a b (end_cmp a b) ∙ either_end a b (is_at_most a b) (is_at_most b a) refl refl

span_there : (lo hi : End) → IsBelow lo hi → span_of lo hi ≡ Some (record { lo = lo; hi = hi })
span_there lo hi low = rw (span_of, below-less lo hi low) refl

common : (s t : Span) (lo hi : End) → later s.lo t.lo ≡ lo → earlier s.hi t.hi ≡ hi → IsBelow lo hi → meet_span s t ≡ Some (record { lo = lo; hi = hi })
common s t lo hi is_lo is_hi low = ap₂ span_of is_lo is_hi ∙ span_there lo hi low

-- the common part of two spans that overlap
meet_by : (s t : Span) (a b : Bool) → is_at_most t.hi s.hi ≡ a → is_at_most s.lo t.lo ≡ b → IsSpan s → IsSpan t → IsBelow s.lo t.hi → IsBelow t.lo s.hi
    → meet_span s t ≡ Some (from_end s.lo (till_end s.hi t))
meet_by s t true true ia ib span other low high =
    common s t t.lo t.hi (later_is s.lo t.lo ∙ ap (λ x. cond x t.lo s.lo) ib) (earlier_is s.hi t.hi ∙ ap (λ x. cond x t.hi s.hi) ia) other ∙ (rw (ia, ib) refl)
meet_by s t true false ia ib span other low high =
    common s t s.lo t.hi (later_is s.lo t.lo ∙ ap (λ x. cond x t.lo s.lo) ib) (earlier_is s.hi t.hi ∙ ap (λ x. cond x t.hi s.hi) ia) low ∙ (rw (ia, ib) refl)
meet_by s t false true ia ib span other low high =
    common s t t.lo s.hi (later_is s.lo t.lo ∙ ap (λ x. cond x t.lo s.lo) ib) (earlier_is s.hi t.hi ∙ ap (λ x. cond x t.hi s.hi) ia) high ∙ (rw (ia, ib) refl)
meet_by s t false false ia ib span other low high =
    common s t s.lo s.hi (later_is s.lo t.lo ∙ ap (λ x. cond x t.lo s.lo) ib) (earlier_is s.hi t.hi ∙ ap (λ x. cond x t.hi s.hi) ia) span ∙ (rw (ia, ib) refl)

till_high : (s t : Span) (a : Bool) → is_at_most t.hi s.hi ≡ a → IsSpan s → IsBelow s.lo t.hi → IsBelow s.lo (cond a t (record { lo = t.lo; hi = s.hi })).hi
till_high s t true is span low = low
till_high s t false is span low = span

-- what a span has of a level whose first item it reaches
clipped_on : (s t : Span) (d rest : Level) → IsSpan s → AreInOrder (item t d rest) → IsBelow s.lo t.hi → IsBelow t.lo s.hi
    → clipped s (item t d rest) ≡ item (from_end s.lo (till_end s.hi t)) d (before s.hi rest)
clipped_on s t d rest span order low high =
    let u = till_end s.hi t in
    let cut : before s.hi (item t d rest) ≡ item u d (before s.hi rest) = before_by s.hi end t d rest (is_at_most t.hi s.hi) refl order high in
    let ordered : AreInOrder (item u d (before s.hi rest)) = subst AreInOrder cut (before_order s.hi (item t d rest) order) in
    ap (after s.lo) cut ∙ after_by s.lo end u d (before s.hi rest) (is_at_most s.lo u.lo) refl ordered (till_high s t (is_at_most t.hi s.hi) refl span low)

first_kept : (s t : Span) (d rest : Level) → is_at_most t.hi s.hi ≡ true → before s.hi (item t d rest) ≡ item t d (before s.hi rest)
first_kept s t d rest up = rw up refl

skipped : (s t : Span) (d rest : Level) → is_at_most t.hi s.hi ≡ true → is_at_most t.hi s.lo ≡ true → clipped s (item t d rest) ≡ clipped s rest
skipped s t d rest up past = ap (after s.lo) (first_kept s t d rest up) ∙ (rw past refl)

pub across_clipped : (f : Level → Level) (s : Span) (h : Level) → IsSpan s → AreInOrder h → across f end s h ≡ clipped s h
across_clipped f s end span order = refl
across_clipped f s (item t d rest) span order =
    let following = across_clipped f s rest span order.3 in
    elim (ends_split s.lo t.hi) [
      | inl past ↦
          let up : is_at_most t.hi s.hi ≡ true = at_most-trans t.hi s.lo s.hi past (below-at_most s.lo s.hi span) in
          ap (λ m. put_piece (piece_of m (Some d)) (across f end s rest)) (none_below s t (meet_span s t) refl past)
          ∙ following ∙ sym (skipped s t d rest up past)
      | inr low ↦ elim (ends_split t.lo s.hi) [
        | inl above ↦
            let begins = begins_later s.hi t.hi rest (at_most-trans s.hi t.lo t.hi above (below-at_most t.lo t.hi order.0)) order.1 in
            ap (λ m. put_piece (piece_of m (Some d)) (across f end s rest)) (none_above s t (meet_span s t) refl above)
            ∙ following ∙ ap (after s.lo) (nothing_before s.hi rest order.3 begins)
            ∙ sym (ap (after s.lo) (nothing_before s.hi (item t d rest) order above))
        | inr high ↦
            let kept = after_all s.lo (before s.hi rest) (before_order s.hi rest order.3) (before_begins s.lo s.hi rest (begins_later s.lo t.hi rest (below-at_most s.lo t.hi low) order.1)) in
            let is = clipped_on s t d rest span order low high in
            let ordered = subst AreInOrder is (after_order s.lo (before s.hi (item t d rest)) (before_order s.hi (item t d rest) order)) in
            ap (λ m. put_piece (piece_of m (Some d)) (across f end s rest)) (meet_by s t (is_at_most t.hi s.hi) (is_at_most s.lo t.lo) refl refl span order.0 low high)
            ∙ ap (weld (from_end s.lo (till_end s.hi t)) d) (following ∙ kept)
            ∙ weld_apart (from_end s.lo (till_end s.hi t)) d (before s.hi rest) ordered.2
            ∙ sym is
      ]
    ]

-- what a span has of a level that is taken apart at an item, where it reaches no other
pub alone_clipped : (s t : Span) (d l r : Level) → IsSpan s → AreInOrder (join_level l (item t d r)) → IsBelow s.lo t.hi → IsBelow t.lo s.hi → IsAlone l r t s
    → item (from_end s.lo (till_end s.hi t)) d end ≡ clipped s (join_level l (item t d r))
alone_clipped s t d l r span order low high alone =
    let u = till_end s.hi t in
    let on = right_order l t d r order in
    let none : before s.hi r ≡ end = elim alone.behind [
      | inl is ↦ ap (before s.hi) is
      | inr by ↦ nothing_before s.hi r on.3 (begins_later s.hi t.hi r by on.1)
    ] in
    let no : after s.lo l ≡ end = elim alone.before [
      | inl is ↦ ap (after s.lo) is
      | inr by ↦ no_after s.lo l t d r order by
    ] in
    let cut : before s.hi (join_level l (item t d r)) ≡ join_level l (item u d end) = before_by s.hi l t d r (is_at_most t.hi s.hi) refl order high ∙ ap (λ x. join_level l (item u d x)) none in
    let ordered = subst AreInOrder cut (before_order s.hi (join_level l (item t d r)) order) in
    sym (ap (after s.lo) cut
    ∙ after_by s.lo l u d end (is_at_most s.lo u.lo) refl ordered (till_high s t (is_at_most t.hi s.hi) refl span low)
    ∙ ap (λ x. join_level x (item (from_end s.lo u) d end)) no)

-- what it has of one that ends where the span begins or before stands on the right of that
pub right_clipped : (s t : Span) (d l r : Level) → IsSpan s → AreInOrder (join_level l (item t d r)) → IsAtMost t.hi s.lo → clipped s r ≡ clipped s (join_level l (item t d r))
right_clipped s t d l r span order low =
    let up : IsAtMost t.hi s.hi = at_most-trans t.hi s.lo s.hi low (below-at_most s.lo s.hi span) in
    let kept = before_keep s.hi l t d r order up in
    let ordered = subst AreInOrder kept (before_order s.hi (join_level l (item t d r)) order) in
    sym (ap (after s.lo) kept ∙ after_drop s.lo l t d (before s.hi r) ordered low)

pub left_clipped : (s t : Span) (d l r : Level) → AreInOrder (join_level l (item t d r)) → IsAtMost s.hi t.lo → clipped s l ≡ clipped s (join_level l (item t d r))
left_clipped s t d l r order low = sym (ap (after s.lo) (before_drop s.hi l t d r order low))
