-- Ranges that rise have no key in common.
use Rattle.std.proofs.Common.{◌≡◌, Bool, true, false, ◌&&◌, ◌||◌, List, [], ◌∷◌, ◌++◌, map, Option, Some, None, All, refl, sym, ap, ◌∙◌, subst}
use Rattle.std.specs.declared.cmp.Ordering.{Ordering}
use Rattle.std.specs.declared.cmp.Ordering.TheVariants.{Less, Equal, Greater}
use Rattle.std.specs.Ordering.{ordering_then}
use Rattle.std.specs.List.{list_any}
use Rattle.std.proofs.lemmas.List.Elements.{All-head, All-tail, All-cons}
use Rattle.rx_value.specs.declared.values.Value.{Value}
use Rattle.rx_value.specs.declared.order.Span.{Span}
use Rattle.rx_value.specs.declared.ranges.KeyRange.{KeyRange}
use Rattle.rx_value.specs.Order.{value_cmp, end_cmp, is_at_most, below, above}
use Rattle.rx_value.specs.Spans.{IsSpan, IsSpanPart}
use Rattle.rx_value.specs.Range.{behind}
use Rattle.rx_value.specs.Keys.{holds, goes_on, goes_within, point_span, listed_span, spans_in, same_span, comes_first, apart_so, differ_so, is_range_before}
use Rattle.rx_value.proofs.Equal.{value_cmp-equal, value_cmp-same}
use Rattle.rx_value.proofs.Ends.{at_most-same, at_most-trans, below-at_most, end_cmp-equal}
use Rattle.rx_cover.specs.Cover.{are_rising}

-- the cut above a value isn't at most the cut below it
above_point : (v : Value) → is_at_most (above v) (below v) ≡ false
above_point v = ap (λ o. elim (ordering_then o Greater) [ Greater ↦ false | _ ↦ true ]) (value_cmp-same v)

-- ---- the values of a key in spans

-- each span has the value at its place
abbrev InSpans : List Span → List Value → Type 0
InSpans [] values = Unit {0}
InSpans (s ∷ ss) [] = ⊥
InSpans (s ∷ ss) (v ∷ vs) = (is_at_most s.lo (below v) ≡ true) × (is_at_most (above v) s.hi ≡ true) × InSpans ss vs

both : (b c : Bool) → elim b [ true ↦ c | false ↦ false ] ≡ true → (b ≡ true) × (c ≡ true)
both true c e = (refl, e)
both false c e = absurd (cc e)

in_last : (last : Option Span) (key : List Value) → goes_within last key ≡ true → InSpans (listed_span last) key
in_last None key e = tt
in_last (Some s) [] e = absurd (cc e)
in_last (Some s) (v ∷ vs) e = let p = both (is_at_most s.lo (below v)) (is_at_most (above v) s.hi) e in (p.0, p.1, tt)

in_point : (o : Ordering) (v point : Value) (ss : List Span) (vs : List Value) (last : Option Span) (rest : Option (List Value)) → value_cmp v point ≡ o
    → goes_on last (elim o [ Equal ↦ rest | _ ↦ None ]) ≡ true → (goes_on last rest ≡ true → InSpans ss vs) → InSpans (point_span point ∷ ss) (v ∷ vs)
in_point Less v point ss vs last rest e h f = absurd (cc h)
in_point Equal v point ss vs last rest e h f =
    let same : v ≡ point = value_cmp-equal v point e in
    subst (λ (p : Value). InSpans (point_span p ∷ ss) (v ∷ vs)) same (at_most-same (below v), at_most-same (above v), f h)
in_point Greater v point ss vs last rest e h f = absurd (cc h)

in_spans : (points : List Value) (last : Option Span) (key : List Value) → goes_on last (behind key points) ≡ true → InSpans (map point_span points ++ listed_span last) key
in_spans [] last key e = in_last last key e
in_spans (point ∷ points) last [] e = absurd (cc e)
in_spans (point ∷ points) last (v ∷ vs) e =
    in_point (value_cmp v point) v point (map point_span points ++ listed_span last) vs last (behind vs points) refl e (in_spans points last vs)

-- ---- spans before others

not_both_rising : (s t : Span) (v : Value) → is_at_most (above v) s.hi ≡ true → is_at_most t.lo (below v) ≡ true → is_at_most s.hi t.lo ≡ true → ⊥
not_both_rising s t v a b e = cc (above_point v, at_most-trans (above v) s.hi (below v) a (at_most-trans s.hi t.lo (below v) e b))

-- a value isn't in a span and in one behind it
not_both : (falls : Bool) (s t : Span) (v : Value) → InSpans (s ∷ []) (v ∷ []) → InSpans (t ∷ []) (v ∷ []) → comes_first falls s t ≡ true → ⊥
not_both false s t v p q e = not_both_rising s t v p.1 q.0 e
not_both true s t v p q e = not_both_rising t s v q.1 p.0 e

apart_by : (b falls : Bool) (s t : Span) (v : Value) (rest : Bool) → same_span s t ≡ b → elim b [ true ↦ rest | false ↦ comes_first falls s t ] ≡ true
    → InSpans (s ∷ []) (v ∷ []) → InSpans (t ∷ []) (v ∷ []) → rest ≡ true
apart_by true falls s t v rest e h p q = h
apart_by false falls s t v rest e h p q = absurd (not_both falls s t v p q h)

spans_apart : (fs : List Bool) (ss ts : List Span) (key : List Value) → differ_so fs ss ts ≡ true → InSpans ss key → InSpans ts key → ⊥
spans_apart [] ss ts key e p q = cc e
spans_apart (f ∷ fs) [] ts key e p q = cc e
spans_apart (f ∷ fs) (s ∷ ss) [] key e p q = cc e
spans_apart (f ∷ fs) (s ∷ ss) (t ∷ ts) [] e p q = p
spans_apart (f ∷ fs) (s ∷ ss) (t ∷ ts) (v ∷ vs) e p q =
    spans_apart fs ss ts vs (apart_by (same_span s t) f s t v (differ_so fs ss ts) refl e (p.0, p.1, tt) (q.0, q.1, tt)) p.2 q.2

-- no key is in a range and in one behind it
ranges_apart : (fs : List Bool) (a b : KeyRange) (key : List Value) → is_range_before fs a b ≡ true → holds a key ≡ true → holds b key ≡ true → ⊥
ranges_apart fs a b key e p q = spans_apart fs (spans_in a) (spans_in b) key e (in_spans a.points a.last key p) (in_spans b.points b.last key q)

-- ---- each range is before all behind it

abbrev AreSpans : List Span → Type 0
AreSpans [] = Unit {0}
AreSpans (s ∷ ss) = IsSpan s × AreSpans ss

last_spans : (last : Option Span) → IsSpanPart last → AreSpans (listed_span last)
last_spans None h = tt
last_spans (Some s) h = (h, tt)

are_spans : (points : List Value) (last : Option Span) → IsSpanPart last → AreSpans (map point_span points ++ listed_span last)
are_spans [] last h = last_spans last h
are_spans (v ∷ points) last h = (above_point v, are_spans points last h)

ends_by : (o p : Ordering) (s t : Span) → end_cmp s.lo t.lo ≡ o → end_cmp s.hi t.hi ≡ p
    → elim o [ Equal ↦ (elim p [ Equal ↦ true | _ ↦ false ]) | _ ↦ false ] ≡ true → s ≡ t
ends_by Equal Equal s t e f h =
    let lo = end_cmp-equal s.lo t.lo e in
    let hi = end_cmp-equal s.hi t.hi f in
    λ i. record { lo = lo i; hi = hi i }
ends_by Equal Less s t e f h = absurd (cc h)
ends_by Equal Greater s t e f h = absurd (cc h)
ends_by Less p s t e f h = absurd (cc h)
ends_by Greater p s t e f h = absurd (cc h)

-- spans with the same ends are one
same_is : (s t : Span) → same_span s t ≡ true → s ≡ t
same_is s t h = ends_by (end_cmp s.lo t.lo) (end_cmp s.hi t.hi) s t refl refl h

comes_trans : (falls : Bool) (s t u : Span) → IsSpan t → comes_first falls s t ≡ true → comes_first falls t u ≡ true → comes_first falls s u ≡ true
comes_trans false s t u h p q = at_most-trans s.hi t.lo u.lo p (at_most-trans t.lo t.hi u.lo (below-at_most t.lo t.hi h) q)
comes_trans true s t u h p q = at_most-trans u.hi t.lo s.lo q (at_most-trans t.lo t.hi s.lo (below-at_most t.lo t.hi h) p)

not_before_itself : (falls : Bool) (s : Span) → IsSpan s → comes_first falls s s ≡ true → ⊥
not_before_itself false s h e = cc (h, e)
not_before_itself true s h e = cc (h, e)

so_apart : (b falls : Bool) (s u : Span) (rest : Bool) → IsSpan s → same_span s u ≡ b → comes_first falls s u ≡ true → apart_so falls s u rest ≡ true
so_apart true falls s u rest h e p = absurd (not_before_itself falls s h (subst (λ (x : Span). comes_first falls s x ≡ true) (sym (same_is s u e)) p))
so_apart false falls s u rest h e p = ap (λ b. elim b [ true ↦ rest | false ↦ comes_first falls s u ]) e ∙ p

heads_by : (a b falls : Bool) (s t u : Span) (x y z : Bool) → IsSpan s → IsSpan t → same_span s t ≡ a → same_span t u ≡ b
    → elim a [ true ↦ x | false ↦ comes_first falls s t ] ≡ true → elim b [ true ↦ y | false ↦ comes_first falls t u ] ≡ true → (x ≡ true → y ≡ true → z ≡ true)
    → apart_so falls s u z ≡ true
heads_by true true falls s t u x y z hs ht e f p q k =
    let same = same_is s t e in
    subst (λ (w : Span). apart_so falls w u z ≡ true) (sym same) (ap (λ b. elim b [ true ↦ z | false ↦ comes_first falls t u ]) f ∙ k p q)
heads_by true false falls s t u x y z hs ht e f p q k =
    let same = same_is s t e in
    subst (λ (w : Span). apart_so falls w u z ≡ true) (sym same) (ap (λ b. elim b [ true ↦ z | false ↦ comes_first falls t u ]) f ∙ q)
heads_by false true falls s t u x y z hs ht e f p q k =
    let same = same_is t u f in
    subst (λ (w : Span). apart_so falls s w z ≡ true) same (ap (λ b. elim b [ true ↦ z | false ↦ comes_first falls s t ]) e ∙ p)
heads_by false false falls s t u x y z hs ht e f p q k = so_apart (same_span s u) falls s u z hs refl (comes_trans falls s t u ht p q)

differ_trans : (fs : List Bool) (ss ts us : List Span) → AreSpans ss → AreSpans ts → differ_so fs ss ts ≡ true → differ_so fs ts us ≡ true → differ_so fs ss us ≡ true
differ_trans [] ss ts us hs ht p q = p
differ_trans (f ∷ fs) [] ts us hs ht p q = absurd (cc p)
differ_trans (f ∷ fs) (s ∷ ss) [] us hs ht p q = absurd (cc p)
differ_trans (f ∷ fs) (s ∷ ss) (t ∷ ts) [] hs ht p q = absurd (cc q)
differ_trans (f ∷ fs) (s ∷ ss) (t ∷ ts) (u ∷ us) hs ht p q =
    heads_by (same_span s t) (same_span t u) f s t u (differ_so fs ss ts) (differ_so fs ts us) (differ_so fs ss us) hs.0 ht.0 refl refl p q (differ_trans fs ss ts us hs.1 ht.1)

and_parts : (a b : Bool) → (a && b) ≡ true → (a ≡ true) × (b ≡ true)
and_parts true b e = (refl, e)
and_parts false b e = absurd (cc e)

-- the span of a range is one
abbrev pub HasSpan : KeyRange → Type 0
HasSpan r = IsSpanPart r.last

-- ranges still rise where the second is left out
skipped : (fs : List Bool) (a b : KeyRange) (rest : List KeyRange) → HasSpan a → HasSpan b → are_rising fs (a ∷ b ∷ rest) ≡ true → are_rising fs (a ∷ rest) ≡ true
skipped fs a b [] ha hb e = refl
skipped fs a b (c ∷ rest) ha hb e =
    let p = and_parts (is_range_before fs a b) (are_rising fs (b ∷ c ∷ rest)) e in
    let q = and_parts (is_range_before fs b c) (are_rising fs (c ∷ rest)) p.1 in
    rw (differ_trans fs (spans_in a) (spans_in b) (spans_in c) (are_spans a.points a.last ha) (are_spans b.points b.last hb) p.0 q.0) q.1

other_by : (b : Bool) (fs : List Bool) (a c : KeyRange) (rest : Bool) (key : List Value) → is_range_before fs a c ≡ true → holds a key ≡ true → holds c key ≡ b → rest ≡ false → (b || rest) ≡ false
other_by true fs a c rest key e p q r = absurd (ranges_apart fs a c key e p q)
other_by false fs a c rest key e p q r = r

-- a key of the first of ranges that rise is in none behind it
pub in_no_other : (fs : List Bool) (a : KeyRange) (rest : List KeyRange) (key : List Value) → All HasSpan (a ∷ rest) → are_rising fs (a ∷ rest) ≡ true
    → holds a key ≡ true → list_any (λ r. holds r key) rest ≡ false
in_no_other fs a [] key h e p = refl
in_no_other fs a (c ∷ rest) key h e p =
    let ha = All-head HasSpan a (c ∷ rest) h in
    let tail = All-tail HasSpan a (c ∷ rest) h in
    let hc = All-head HasSpan c rest tail in
    let before = (and_parts (is_range_before fs a c) (are_rising fs (c ∷ rest)) e).0 in
    other_by (holds c key) fs a c (list_any (λ r. holds r key) rest) key before p refl
    (in_no_other fs a rest key (All-cons HasSpan a rest ha (All-tail HasSpan c rest tail)) (skipped fs a c rest ha hc e) p)

-- ranges behind the first rise
pub rising_rest : (fs : List Bool) (a : KeyRange) (rest : List KeyRange) → are_rising fs (a ∷ rest) ≡ true → are_rising fs rest ≡ true
rising_rest fs a [] e = refl
rising_rest fs a (c ∷ rest) e = (and_parts (is_range_before fs a c) (are_rising fs (c ∷ rest)) e).1
