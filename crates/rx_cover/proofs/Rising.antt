-- The ranges of a cover rise.
use Rattle.std.proofs.Common.{◌≡◌, Bool, true, false, List, [], ◌∷◌, Option, Some, None, if◌then◌else◌, refl, ap, ap₂, sym, ◌∙◌}
use Rattle.std.specs.declared.cmp.Ordering.TheVariants.{Less, Greater}
use Rattle.std.specs.Ordering.{ordering_reverse}
use Rattle.std.proofs.lemmas.Cmp.{tied_itself}
use Rattle.std.proofs.lemmas.Bool.{and_from, and_left, and_right}
use Rattle.rx_value.specs.declared.values.Value.{Value}
use Rattle.rx_value.specs.declared.order.End.TheVariants.{Last}
use Rattle.rx_value.specs.declared.order.Span.{Span}
use Rattle.rx_value.specs.declared.ranges.KeyRange.{KeyRange}
use Rattle.rx_value.specs.Order.{end_cmp, is_at_most}
use Rattle.rx_value.specs.Spans.{IsAtMost, IsSpan, first_end, is_whole_span}
use Rattle.rx_value.specs.Keys.{point_span, spans_in, same_span, comes_first, apart_so, differ_so, is_range_before}
use Rattle.rx_value.proofs.Ends.{end_cmp_total, at_most-below, below-at_most-trans, below-less, below-cut}
use Rattle.rx_tree.specs.Tree.{Level, Tree}
use Rattle.rx_tree.specs.Tree.Level.{end, item}
use Rattle.rx_tree.specs.Tree.Tree.{everything, nothing, items}
use Rattle.rx_tree.specs.Canonical.{ArePlaced, IsCanonical}
use Rattle.rx_cover.specs.Cover.{Stretch, point_of, stretches, in_order, behind_point, full_range, stretch_ranges, level_cover, cover, are_rising}
use Rattle.rx_cover.specs.Cover.Stretch.{deep, full}
use Rattle.rx_cover.proofs.Pairs.{Each, Pairwise, each_all, each_weaker, each_map, pairwise_map, pairwise_flat_map}
use Rattle.rx_cover.proofs.Stretches.{span_of, IsOver, Apart, Follow, point_is, part_follow, part_over}

-- one range is before another
abbrev pub Before : List Bool → KeyRange → KeyRange → Type 0
Before fs a b = is_range_before fs a b ≡ true

-- what a range has begins with a span
pub record Begins (s : Span) (r : KeyRange) : Type 0 where
  pub more : List Span
  pub is : spans_in r ≡ s ∷ more

apart_by : (falls : Bool) (s t : Span) (same : Bool) → same_span s t ≡ false → comes_first falls s t ≡ true → apart_so falls s t same ≡ true
apart_by falls s t same differs first = ap (λ b. elim b [ true ↦ same | false ↦ comes_first falls s t ]) differs ∙ first

lower_first : (s t : Span) → IsSpan s → IsAtMost s.hi t.lo → end_cmp s.lo t.lo ≡ Less
lower_first s t span low = below-less s.lo t.lo (below-at_most-trans s.lo s.hi t.lo span low)

upper_last : (s t : Span) → IsSpan s → IsAtMost s.hi t.lo → end_cmp t.lo s.lo ≡ Greater
upper_last s t span low = end_cmp_total.antisymm t.lo s.lo ∙ ap ordering_reverse (lower_first s t span low)

differs_up : (s t : Span) → IsSpan s → IsAtMost s.hi t.lo → same_span s t ≡ false
differs_up s t span low = rw (lower_first s t span low, same_span) refl

differs_down : (s t : Span) → IsSpan s → IsAtMost s.hi t.lo → same_span t s ≡ false
differs_down s t span low = rw (upper_last s t span low, same_span) refl

heads_up : (fs : List Bool) (s t : Span) (a b : KeyRange) → IsSpan s → IsAtMost s.hi t.lo → Begins s a → Begins t b → Before (false ∷ fs) a b
heads_up fs s t a b span low p q =
    ap₂ (differ_so (false ∷ fs)) p.is q.is
    ∙ apart_by false s t (differ_so fs p.more q.more) (differs_up s t span low) low

heads_down : (fs : List Bool) (s t : Span) (a b : KeyRange) → IsSpan s → IsAtMost s.hi t.lo → Begins s a → Begins t b → Before (true ∷ fs) b a
heads_down fs s t a b span low p q =
    ap₂ (differ_so (true ∷ fs)) q.is p.is
    ∙ apart_by true t s (differ_so fs q.more p.more) (differs_down s t span low) low

-- ranges that begin with the spans of stretches that follow one another
before_by : (n f : Bool) (fs : List Bool) (x y : Stretch) (a b : KeyRange) → Follow n f x y → Begins (span_of x) a → Begins (span_of y) b → Before (f ∷ fs) a b
before_by n false fs x y a b follow p q = heads_up fs (span_of x) (span_of y) a b follow.first follow.apart p q
before_by n true fs x y a b follow p q = heads_down fs (span_of y) (span_of x) b a follow.first follow.apart q p

-- neither of two stretches of a part is whole
not_whole_low : (n : Bool) (x y : Stretch) → Apart n x y → is_whole_span n (span_of x) ≡ false
not_whole_low n x y apart =
    let up = at_most-below (span_of x).hi (span_of y).lo (span_of y).hi apart.apart apart.second in
    and_right (is_at_most (span_of x).lo (first_end n)) (is_at_most Last (span_of x).hi) (below-cut (span_of x).hi (span_of y).hi up)

not_whole_high : (n : Bool) (x y : Stretch) → Apart n x y → is_whole_span n (span_of y) ≡ false
not_whole_high n x y apart =
    let low = at_most-below (first_end n) (span_of x).lo (span_of x).hi apart.from apart.first in
    and_left (is_at_most (span_of y).lo (first_end n)) (is_at_most Last (span_of y).hi) (below-at_most-trans (first_end n) (span_of x).hi (span_of y).lo low apart.apart)

not_whole : (n f : Bool) (x y : Stretch) → Follow n f x y → (is_whole_span n (span_of x) ≡ false) × (is_whole_span n (span_of y) ≡ false)
not_whole n false x y follow = (not_whole_low n x y follow, not_whole_high n x y follow)
not_whole n true x y follow = (not_whole_high n y x follow, not_whole_low n y x follow)

full_begins_by : (first n : Bool) (s : Span) (o : Option Value) → point_of s ≡ o → is_whole_span n s ≡ false
    → Begins s (elim o [
      | Some v ↦ record { points = v ∷ []; last = None }
      | None ↦ elim first [
        | true ↦ record { points = []; last = Some s }
        | false ↦ record { points = []; last = if is_whole_span n s then None else Some s }
      ]
    ])
full_begins_by first n s (Some v) e part = record { more = []; is = ap (λ x. x ∷ []) (sym (point_is s v e)) }
full_begins_by true n s None e part = record { more = []; is = refl }
full_begins_by false n s None e part = record { more = []; is = rw part refl }

-- the range of a span that isn't whole begins with it
full_begins : (first n : Bool) (s : Span) → is_whole_span n s ≡ false → Begins s (full_range first n s)
full_begins first n s part = full_begins_by first n s (point_of s) refl part

-- so do all ranges of a stretch that isn't whole
stretch_begins : (below : Level → List KeyRange) (first n : Bool) (x : Stretch) → is_whole_span n (span_of x) ≡ false → Each (Begins (span_of x)) (stretch_ranges below first n x)
stretch_begins below first n (deep v c) part =
    each_map (λ r. Unit {0}) (Begins (point_span v)) (behind_point v) (λ r u. record { more = spans_in r; is = refl }) (below c) (each_all (λ r. Unit {0}) (λ r. tt) (below c))
stretch_begins below first n (full s) part = (full_begins first n s part, tt)

-- the ranges of a stretch come before those of one that follows
across : (below : Level → List KeyRange) (first n f : Bool) (fs : List Bool) (x y : Stretch) → Follow n f x y → Each (λ a. Each (Before (f ∷ fs) a) (stretch_ranges below first n y)) (stretch_ranges below first n x)
across below first n f fs x y follow =
    let parts = not_whole n f x y follow in
    let ys = stretch_begins below first n y parts.1 in
    each_weaker (Begins (span_of x)) (λ a. Each (Before (f ∷ fs) a) (stretch_ranges below first n y))
    (λ a p. each_weaker (Begins (span_of y)) (Before (f ∷ fs) a) (λ b q. before_by n f fs x y a b follow p q) (stretch_ranges below first n y) ys)
    (stretch_ranges below first n x) (stretch_begins below first n x parts.0)

same_as_itself : (s : Span) → same_span s s ≡ true
same_as_itself s = rw (tied_itself end_cmp_total s.lo, tied_itself end_cmp_total s.hi, same_span) refl

apart_same : (f : Bool) (s : Span) (same : Bool) → apart_so f s s same ≡ same
apart_same f s same = ap (λ b. elim b [ true ↦ same | false ↦ comes_first f s s ]) (same_as_itself s)

-- the ranges behind a point rise as those of its child
own : (below : Level → List KeyRange) (first n f : Bool) (ns fs : List Bool) → ((c : Level) → ArePlaced ns c → Pairwise (Before fs) (below c)) → (x : Stretch) → IsOver ns x → Pairwise (Before (f ∷ fs)) (stretch_ranges below first n x)
own below first n f ns fs rises (deep v c) over =
    pairwise_map (Before fs) (Before (f ∷ fs)) (behind_point v)
    (λ a b e. apart_same f (point_span v) (is_range_before fs a b) ∙ e)
    (below c) (rises c over)
own below first n f ns fs rises (full s) over = (tt, tt)

-- the ranges of a level rise, each before all later ones
level_rises : (first : Bool) (ns fs : List Bool) (l : Level) → ArePlaced ns l → Pairwise (Before fs) (level_cover first ns fs l)
level_rises first [] [] l placed = tt
level_rises first [] (f ∷ fs) l placed = tt
level_rises first (n ∷ ns) [] l placed = tt
level_rises first (n ∷ ns) (f ∷ fs) l placed =
    pairwise_flat_map (Before (f ∷ fs)) (Follow n f) (IsOver ns) (stretch_ranges (level_cover false ns fs) first n)
    (own (level_cover false ns fs) first n f ns fs (level_rises false ns fs))
    (across (level_cover false ns fs) first n f fs)
    (in_order f (stretches l)) (part_over n f ns l placed) (part_follow n f ns l placed)

rising_from : (fs : List Bool) (rs : List KeyRange) → Pairwise (Before fs) rs → are_rising fs rs ≡ true
rising_from fs [] p = refl
rising_from fs (a ∷ []) p = refl
rising_from fs (a ∷ b ∷ rest) p = and_from (is_range_before fs a b) (are_rising fs (b ∷ rest)) p.0.0 (rising_from fs (b ∷ rest) p.1)

-- the ranges of the cover of a canonical tree rise
pub cover_rises : (parts falling : List Bool) (t : Tree) → IsCanonical parts t → are_rising falling (cover parts falling t) ≡ true
cover_rises [] falling t canonical = refl
cover_rises (n ∷ ns) falling everything canonical = refl
cover_rises (n ∷ ns) falling nothing canonical = refl
cover_rises (n ∷ ns) falling (items end) canonical = absurd canonical
cover_rises (n ∷ ns) falling (items (item s c rest)) canonical =
    rising_from falling (level_cover true (n ∷ ns) falling (item s c rest)) (level_rises true (n ∷ ns) falling (item s c rest) canonical.placed)
