-- The stretches of a level in its place stand in a row.
use Rattle.std.proofs.Common.{◌≡◌, Bool, true, false, List, [], ◌∷◌, Option, Some, None, if◌then◌else◌, refl, ap, sym, ◌∙◌, subst}
use Rattle.std.specs.declared.cmp.Ordering.{Ordering}
use Rattle.std.specs.declared.cmp.Ordering.TheVariants.{Less, Equal, Greater}
use Rattle.std.specs.Ordering.{is_eq}
use Rattle.rx_value.specs.declared.values.Value.{Value}
use Rattle.rx_value.specs.declared.order.Side.TheVariants.{Below, Above}
use Rattle.rx_value.specs.declared.order.End.{End}
use Rattle.rx_value.specs.declared.order.End.TheVariants.{Cut, Last}
use Rattle.rx_value.specs.declared.order.Span.{Span}
use Rattle.rx_value.specs.Order.{value_cmp, end_cmp}
use Rattle.rx_value.specs.Spans.{IsAtMost, IsSpan, first_end}
use Rattle.rx_value.specs.Keys.{point_span}
use Rattle.rx_value.proofs.Equal.{value_cmp-equal}
use Rattle.rx_value.proofs.Ends.{at_most-same, at_most-trans, below-at_most, below-at_most-trans, below-trans}
use Rattle.rx_tree.specs.Tree.{Level}
use Rattle.rx_tree.specs.Tree.Level.{end, item}
use Rattle.rx_tree.specs.Canonical.{BeginsFrom, ArePlaced}
use Rattle.rx_cover.specs.Cover.{Stretch, value_between, point_of, stretch_of, put_stretch, stretches, in_order}
use Rattle.rx_cover.specs.Cover.Stretch.{deep, full}
use Rattle.rx_cover.proofs.Pairs.{Each, Pairwise, each_reverse, pairwise_reverse}

-- what compares as equal is Equal
pub equal_is : (o : Ordering) → is_eq o ≡ true → o ≡ Equal
equal_is Less e = absurd (cc e)
equal_is Equal e = refl
equal_is Greater e = absurd (cc e)

same_ends : (s t : Span) → s.lo ≡ t.lo → s.hi ≡ t.hi → s ≡ t
same_ends s t lo hi = λ i. record { lo = lo i; hi = hi i }

chosen : (u v w : Value) (b : Bool) → is_eq (value_cmp u v) ≡ b → (if b then Some u else None) ≡ Some w → (u ≡ w) × (v ≡ w)
chosen u v w true same e =
    let first : u ≡ w = cc e in
    (first, sym (value_cmp-equal u v (equal_is (value_cmp u v) same)) ∙ first)
chosen u v w false same e = absurd (cc e)

between_is : (a b : End) (v : Value) → value_between a b ≡ Some v → (a ≡ (point_span v).lo) × (b ≡ (point_span v).hi)
between_is (Cut u Below) (Cut w Above) v e =
    let is = chosen u w v (is_eq (value_cmp u w)) refl e in
    (ap (λ x. Cut x Below) is.0, ap (λ x. Cut x Above) is.1)
between_is (Cut u Below) (Cut w Below) v e = absurd (cc e)
between_is (Cut u Below) Last v e = absurd (cc e)
between_is (Cut u Above) b v e = absurd (cc e)
between_is Last b v e = absurd (cc e)

-- a span with a point is the span of that point
pub point_is : (s : Span) (v : Value) → point_of s ≡ Some v → s ≡ point_span v
point_is s v e =
    let ends = between_is s.lo s.hi v e in
    same_ends s (point_span v) ends.0 ends.1

-- the span of a stretch
abbrev pub span_of : Stretch → Span
span_of (deep v c) = point_span v
span_of (full s) = s

-- the level below a deep stretch is in its place
abbrev pub IsOver : List Bool → Stretch → Type 0
IsOver ns (deep v c) = ArePlaced ns c
IsOver ns (full s) = Unit {0}

-- a stretch may stand above an end
pub record Stands (ns : List Bool) (e : End) (x : Stretch) : Type 0 where
  pub from : IsAtMost e (span_of x).lo
  pub span : IsSpan (span_of x)
  pub over : IsOver ns x

-- stretches rise and are disjoint, all above an end
abbrev pub InRow : List Bool → End → List Stretch → Type 0
InRow ns e [] = Unit {0}
InRow ns e (x ∷ rest) = Stands ns e x × InRow ns (span_of x).hi rest

put_full_by : (ns : List Bool) (e : End) (s t : Span) (rest : List Stretch) (b : Bool) → is_eq (end_cmp s.hi t.lo) ≡ b → Stands ns e (full s) → InRow ns s.hi (full t ∷ rest) → InRow ns e (if b then full (record { lo = s.lo; hi = t.hi }) ∷ rest else full s ∷ full t ∷ rest)
put_full_by ns e s t rest true touch stands row =
    let on = below-at_most-trans s.lo s.hi t.lo stands.span row.0.from in
    (record { from = stands.from; span = below-trans s.lo t.lo t.hi on row.0.span; over = tt }, row.1)
put_full_by ns e s t rest false touch stands row = (stands, row)

put_row : (ns : List Bool) (e : End) (x : Stretch) (rest : List Stretch) → Stands ns e x → InRow ns (span_of x).hi rest → InRow ns e (put_stretch x rest)
put_row ns e (deep v c) rest stands row = (stands, row)
put_row ns e (full s) [] stands row = (stands, row)
put_row ns e (full s) (deep v c ∷ rest) stands row = (stands, row)
put_row ns e (full s) (full t ∷ rest) stands row = put_full_by ns e s t rest (is_eq (end_cmp s.hi t.lo)) refl stands row

stretch_span_by : (s : Span) (c : Level) (o : Option Value) → point_of s ≡ o → span_of (elim o [ Some v ↦ deep v c | None ↦ full s ]) ≡ s
stretch_span_by s c (Some v) e = sym (point_is s v e)
stretch_span_by s c None e = refl

-- the stretch of an item has its span
pub stretch_span : (s : Span) (c : Level) → span_of (stretch_of s c) ≡ s
stretch_span s end = refl
stretch_span s (item t d rest) = stretch_span_by s (item t d rest) (point_of s) refl

stretch_over_by : (ns : List Bool) (s : Span) (c : Level) (o : Option Value) → ArePlaced ns c → IsOver ns (elim o [ Some v ↦ deep v c | None ↦ full s ])
stretch_over_by ns s c (Some v) placed = placed
stretch_over_by ns s c None placed = tt

stretch_over : (ns : List Bool) (s : Span) (c : Level) → ArePlaced ns c → IsOver ns (stretch_of s c)
stretch_over ns s end placed = tt
stretch_over ns s (item t d rest) placed = stretch_over_by ns s (item t d rest) (point_of s) placed

stretch_stands : (ns : List Bool) (e : End) (s : Span) (c : Level) → IsAtMost e s.lo → IsSpan s → ArePlaced ns c → Stands ns e (stretch_of s c)
stretch_stands ns e s c from span placed = record {
  from = subst (λ (x : Span). IsAtMost e x.lo) (sym (stretch_span s c)) from;
  span = subst IsSpan (sym (stretch_span s c)) span;
  over = stretch_over ns s c placed;
}

-- the stretches of a level in its place are in a row, from where its items begin
pub stretches_row : (n : Bool) (ns : List Bool) (e : End) (l : Level) → BeginsFrom e l → ArePlaced (n ∷ ns) l → InRow ns e (stretches l)
stretches_row n ns e end from placed = tt
stretches_row n ns e (item s c rest) from placed =
    let after = stretches_row n ns s.hi rest placed.0.rises placed.3 in
    put_row ns e (stretch_of s c) (stretches rest)
    (stretch_stands ns e s c from placed.0.span placed.2)
    (subst (λ (x : Span). InRow ns x.hi (stretches rest)) (sym (stretch_span s c)) after)

begins_first : (n : Bool) (ns : List Bool) (l : Level) → ArePlaced (n ∷ ns) l → BeginsFrom (first_end n) l
begins_first n ns end placed = tt
begins_first n ns (item s c rest) placed = placed.0.from

-- the stretches of a part are in a row from its first position
pub part_row : (n : Bool) (ns : List Bool) (l : Level) → ArePlaced (n ∷ ns) l → InRow ns (first_end n) (stretches l)
part_row n ns l placed = stretches_row n ns (first_end n) l (begins_first n ns l placed) placed

-- a stretch before another on a part
pub record Apart (n : Bool) (x y : Stretch) : Type 0 where
  pub from : IsAtMost (first_end n) (span_of x).lo
  pub first : IsSpan (span_of x)
  pub second : IsSpan (span_of y)
  pub apart : IsAtMost (span_of x).hi (span_of y).lo

apart_from : (n : Bool) (ns : List Bool) (x : Stretch) (e : End) (ys : List Stretch) → IsAtMost (first_end n) (span_of x).lo → IsSpan (span_of x) → IsAtMost (span_of x).hi e → InRow ns e ys → Each (Apart n x) ys
apart_from n ns x e [] from span low row = tt
apart_from n ns x e (y ∷ ys) from span low row =
    let apart = at_most-trans (span_of x).hi e (span_of y).lo low row.0.from in
    let on = at_most-trans (span_of x).hi (span_of y).lo (span_of y).hi apart (below-at_most (span_of y).lo (span_of y).hi row.0.span) in
    (record { from = from; first = span; second = row.0.span; apart = apart }, apart_from n ns x (span_of y).hi ys from span on row.1)

row_apart : (n : Bool) (ns : List Bool) (e : End) (xs : List Stretch) → IsAtMost (first_end n) e → InRow ns e xs → Pairwise (Apart n) xs
row_apart n ns e [] low row = tt
row_apart n ns e (x ∷ xs) low row =
    let from = at_most-trans (first_end n) e (span_of x).lo low row.0.from in
    let on = at_most-trans (first_end n) (span_of x).lo (span_of x).hi from (below-at_most (span_of x).lo (span_of x).hi row.0.span) in
    (apart_from n ns x (span_of x).hi xs from row.0.span (at_most-same (span_of x).hi) row.1, row_apart n ns (span_of x).hi xs on row.1)

row_over : (ns : List Bool) (e : End) (xs : List Stretch) → InRow ns e xs → Each (IsOver ns) xs
row_over ns e [] row = tt
row_over ns e (x ∷ xs) row = (row.0.over, row_over ns (span_of x).hi xs row.1)

-- of two stretches in the order of a part the one comes before the other, or on a falling part the other before the one
abbrev pub Follow : Bool → Bool → Stretch → Stretch → Type 0
Follow n false x y = Apart n x y
Follow n true x y = Apart n y x

follow_by : (n f : Bool) (xs : List Stretch) → Pairwise (Apart n) xs → Pairwise (Follow n f) (in_order f xs)
follow_by n false xs p = p
follow_by n true xs p = pairwise_reverse (Apart n) (Follow n true) (λ x y a. a) xs p

over_by : (ns : List Bool) (f : Bool) (xs : List Stretch) → Each (IsOver ns) xs → Each (IsOver ns) (in_order f xs)
over_by ns false xs p = p
over_by ns true xs p = each_reverse (IsOver ns) xs p

-- the stretches of a part, in its order, follow one another
pub part_follow : (n f : Bool) (ns : List Bool) (l : Level) → ArePlaced (n ∷ ns) l → Pairwise (Follow n f) (in_order f (stretches l))
part_follow n f ns l placed = follow_by n f (stretches l) (row_apart n ns (first_end n) (stretches l) (at_most-same (first_end n)) (part_row n ns l placed))

-- and the levels below them are in their places
pub part_over : (n f : Bool) (ns : List Bool) (l : Level) → ArePlaced (n ∷ ns) l → Each (IsOver ns) (in_order f (stretches l))
part_over n f ns l placed = over_by ns f (stretches l) (row_over ns (first_end n) (stretches l) (part_row n ns l placed))
