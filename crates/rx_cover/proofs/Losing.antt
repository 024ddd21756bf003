-- The ranges of a cover hold what the tree holds.
use Rattle.std.proofs.Common.{◌≡◌, ◌&&◌, ◌||◌, Bool, true, false, not, List, [], ◌∷◌, map, length, ◌<◌, arith, Option, Some, None, if◌then◌else◌, inl, inr, refl, ap, ap₂, sym, ◌∙◌, subst}
use Rattle.std.specs.List.{list_any}
use Rattle.std.specs.declared.cmp.Ordering.{Ordering}
use Rattle.std.specs.declared.cmp.Ordering.TheVariants.{Less, Equal, Greater}
use Rattle.std.specs.Ordering.{is_eq, ordering_then, ordering_reverse}
use Rattle.std.proofs.Math.Bool.{or_assoc}
use Rattle.std.proofs.lemmas.Bool.{or_cases, or_left, or_right, and_parts, and_from}
use Rattle.rx_value.specs.declared.values.Value.{Value}
use Rattle.rx_value.specs.declared.order.Side.TheVariants.{Below, Above}
use Rattle.rx_value.specs.declared.order.End.{End}
use Rattle.rx_value.specs.declared.order.End.TheVariants.{Cut, Last}
use Rattle.rx_value.specs.declared.order.Span.{Span}
use Rattle.rx_value.specs.declared.ranges.KeyRange.{KeyRange}
use Rattle.rx_value.specs.Order.{value_cmp, end_cmp, is_at_most, below, above}
use Rattle.rx_value.specs.Spans.{IsAtMost, IsBelow, IsSpan, is_inside, first_end, whole_span, is_whole_span}
use Rattle.rx_value.specs.Range.{behind}
use Rattle.rx_value.specs.Keys.{point_span, goes_on, goes_within, holds as range_holds}
use Rattle.rx_value.proofs.Equal.{value_cmp-equal, value_cmp-same}
use Rattle.rx_value.proofs.Ends.{value_cmp_total, at_most-trans, at_most-from_equal, below-at_most, end_cmp-equal, greatest_end}
use Rattle.rx_value.proofs.Meeting.{inside_bounds}
use Rattle.rx_tree.specs.Tree.{Level, Tree, is_end}
use Rattle.rx_tree.specs.Tree.Level.{end, item}
use Rattle.rx_tree.specs.Tree.Tree.{everything, nothing, items}
use Rattle.rx_tree.specs.Member.{IsTuple, level_holds, holds}
use Rattle.rx_tree.specs.Canonical.{ArePlaced, IsCanonical}
use Rattle.rx_tree.proofs.Bools.{split_by}
use Rattle.rx_cover.specs.Cover.{Stretch, point_of, stretch_of, put_stretch, stretches, in_order, behind_point, full_range, stretch_ranges, level_cover, cover}
use Rattle.rx_cover.specs.Cover.Stretch.{deep, full}
use Rattle.rx_cover.proofs.Pairs.{any_reverse, any_flat_map}
use Rattle.rx_cover.proofs.Stretches.{span_of, IsOver, InRow, equal_is, point_is, part_over, stretch_span, stretches_row}

-- the tuple of a value's position and more goes on in a stretch
abbrev pub stretch_has : Value → List End → Stretch → Bool
stretch_has v ps (deep w c) = is_eq (value_cmp v w) && level_holds c ps
stretch_has v ps (full s) = is_inside s (below v)

-- an answer of an order other than Greater
abbrev at_most : Ordering → Bool
at_most o = elim o [ Greater ↦ false | _ ↦ true ]

at_both : (o : Ordering) → at_most (ordering_then o Equal) ≡ true → at_most (ordering_then o Greater) ≡ false → o ≡ Equal
at_both Less e f = absurd (cc f)
at_both Equal e f = refl
at_both Greater e f = absurd (cc e)

-- a value whose position is in the span of a point is that point
at_point : (v w : Value) → is_inside (point_span w) (below v) ≡ true → value_cmp v w ≡ Equal
at_point v w inside =
    let bounds = inside_bounds (point_span w) (below v) inside in
    let same : w ≡ v = value_cmp-equal w v (at_both (value_cmp w v) bounds.0 bounds.1) in
    ap (value_cmp v) same ∙ value_cmp-same v

past_below : (o p : Ordering) → p ≡ ordering_reverse o → at_most (ordering_then o Equal) ≡ false → at_most (ordering_then p Greater) ≡ true
past_below Less p turned e = absurd (cc e)
past_below Equal p turned e = absurd (cc e)
past_below Greater p turned e = ap (λ x. at_most (ordering_then x Greater)) turned

past_above : (o p : Ordering) → p ≡ ordering_reverse o → at_most (ordering_then o Greater) ≡ false → at_most (ordering_then p Equal) ≡ true
past_above Less p turned e = absurd (cc e)
past_above Equal p turned e = ap (λ x. at_most (ordering_then x Equal)) turned
past_above Greater p turned e = ap (λ x. at_most (ordering_then x Equal)) turned

-- what is above the cut below a value isn't below the cut above it
next_end : (v : Value) (e : End) → IsBelow (below v) e → IsAtMost (above v) e
next_end v Last low = refl
next_end v (Cut u Below) low = past_below (value_cmp u v) (value_cmp v u) (value_cmp_total.antisymm v u) low
next_end v (Cut u Above) low = past_above (value_cmp u v) (value_cmp v u) (value_cmp_total.antisymm v u) low

within_by : (a b : Bool) → a ≡ true → b ≡ true → (elim a [ true ↦ b | false ↦ false ]) ≡ true
within_by true b e f = f
within_by false b e f = e

-- a value whose position is in a span goes within it
value_within : (s : Span) (v : Value) (vs : List Value) → is_inside s (below v) ≡ true → goes_within (Some s) (v ∷ vs) ≡ true
value_within s v vs inside =
    let bounds = inside_bounds s (below v) inside in
    within_by (is_at_most s.lo (below v)) (is_at_most (above v) s.hi) bounds.0 (next_end v s.hi bounds.1)

within_unless : (s : Span) (v : Value) (vs : List Value) (whole : Bool) → is_inside s (below v) ≡ true → goes_within (if whole then None else Some s) (v ∷ vs) ≡ true
within_unless s v vs true inside = refl
within_unless s v vs false inside = value_within s v vs inside

-- what follows a first value that is equal to a point
goes_by : (last : Option Span) (v w : Value) (more : Option (List Value)) → value_cmp v w ≡ Equal → goes_on last (elim (value_cmp v w) [ Equal ↦ more | _ ↦ None ]) ≡ goes_on last more
goes_by last v w more same = ap (λ o. goes_on last (elim o [ Equal ↦ more | _ ↦ None ])) same

full_holds_by : (first n : Bool) (s : Span) (v : Value) (vs : List Value) (o : Option Value) → point_of s ≡ o → is_inside s (below v) ≡ true
    → range_holds (elim o [
      | Some w ↦ record { points = w ∷ []; last = None }
      | None ↦ elim first [
        | true ↦ record { points = []; last = Some s }
        | false ↦ record { points = []; last = if is_whole_span n s then None else Some s }
      ]
    ]) (v ∷ vs) ≡ true
full_holds_by first n s v vs (Some w) e inside =
    goes_by None v w (Some vs) (at_point v w (subst (λ (x : Span). is_inside x (below v) ≡ true) (point_is s w e) inside))
full_holds_by true n s v vs None e inside = value_within s v vs inside
full_holds_by false n s v vs None e inside = within_unless s v vs (is_whole_span n s) inside

-- the range of a full span holds a key whose first value is in the span
full_holds : (first n : Bool) (s : Span) (v : Value) (vs : List Value) → is_inside s (below v) ≡ true → range_holds (full_range first n s) (v ∷ vs) ≡ true
full_holds first n s v vs inside = full_holds_by first n s v vs (point_of s) refl inside

-- ranges behind a point hold the keys that begin with it and go on in the ranges
behind_holds : (v w : Value) (vs : List Value) (rs : List KeyRange) → value_cmp v w ≡ Equal → list_any (λ r. range_holds r (v ∷ vs)) (map (behind_point w) rs) ≡ list_any (λ r. range_holds r vs) rs
behind_holds v w vs [] same = refl
behind_holds v w vs (r ∷ rs) same = ap₂ ◌||◌ (goes_by r.last v w (behind vs r.points) same) (behind_holds v w vs rs same)

-- a range of a stretch holds a key that goes on in it, where this is so of the level below
stretch_holds : (cover_below : Level → List KeyRange) (first n : Bool) (ns : List Bool) (v : Value) (vs : List Value)
    → ((c : Level) → ArePlaced ns c → level_holds c (map below vs) ≡ true → list_any (λ r. range_holds r vs) (cover_below c) ≡ true)
    → (x : Stretch) → IsOver ns x → stretch_has v (map below vs) x ≡ true → list_any (λ r. range_holds r (v ∷ vs)) (stretch_ranges cover_below first n x) ≡ true
stretch_holds cover_below first n ns v vs keeps (deep w c) over has =
    let parts = and_parts (is_eq (value_cmp v w)) (level_holds c (map below vs)) has in
    behind_holds v w vs (cover_below c) (equal_is (value_cmp v w) parts.0) ∙ keeps c over parts.1
stretch_holds cover_below first n ns v vs keeps (full s) over has =
    or_left (range_holds (full_range first n s) (v ∷ vs)) false (full_holds first n s v vs has)

-- two touching spans as one
joined_inside : (s t : Span) (p : End) → IsSpan s → IsSpan t → s.hi ≡ t.lo → is_inside (record { lo = s.lo; hi = t.hi }) p ≡ (is_inside s p || is_inside t p)
joined_inside s t p span other touch =
    let on = at_most-trans s.hi t.lo t.hi (at_most-from_equal s.hi t.lo touch) (below-at_most t.lo t.hi other) in
    split_by (is_at_most s.lo p) (is_at_most s.hi p) (is_at_most t.hi p) (at_most-trans s.lo s.hi p (below-at_most s.lo s.hi span)) (at_most-trans s.hi t.hi p on)
    ∙ ap (λ x. (is_at_most s.lo p && not (is_at_most s.hi p)) || (is_at_most x p && not (is_at_most t.hi p))) touch

put_full_has : (v : Value) (ps : List End) (s t : Span) (rest : List Stretch) (b : Bool) → is_eq (end_cmp s.hi t.lo) ≡ b → IsSpan s → IsSpan t
    → (is_inside s (below v) || (is_inside t (below v) || list_any (stretch_has v ps) rest)) ≡ true
    → list_any (stretch_has v ps) (if b then full (record { lo = s.lo; hi = t.hi }) ∷ rest else full s ∷ full t ∷ rest) ≡ true
put_full_has v ps s t rest true touch span other has =
    ap (λ x. x || list_any (stretch_has v ps) rest) (joined_inside s t (below v) span other (end_cmp-equal s.hi t.lo (equal_is (end_cmp s.hi t.lo) touch)))
    ∙ or_assoc (is_inside s (below v)) (is_inside t (below v)) (list_any (stretch_has v ps) rest)
    ∙ has
put_full_has v ps s t rest false touch span other has = has

-- nothing is lost where a stretch is put before others
put_has : (ns : List Bool) (e : End) (v : Value) (ps : List End) (x : Stretch) (rest : List Stretch) → IsSpan (span_of x) → InRow ns e rest
    → (stretch_has v ps x || list_any (stretch_has v ps) rest) ≡ true → list_any (stretch_has v ps) (put_stretch x rest) ≡ true
put_has ns e v ps (deep w c) rest span row has = has
put_has ns e v ps (full s) [] span row has = has
put_has ns e v ps (full s) (deep w c ∷ rest) span row has = has
put_has ns e v ps (full s) (full t ∷ rest) span row has = put_full_has v ps s t rest (is_eq (end_cmp s.hi t.lo)) refl span row.0.span has

stretch_of_by : (s t : Span) (d rest : Level) (v : Value) (ps : List End) (o : Option Value) → point_of s ≡ o → is_inside s (below v) ≡ true → level_holds (item t d rest) ps ≡ true
    → stretch_has v ps (elim o [ Some w ↦ deep w (item t d rest) | None ↦ full s ]) ≡ true
stretch_of_by s t d rest v ps (Some w) e inside has =
    let same = at_point v w (subst (λ (x : Span). is_inside x (below v) ≡ true) (point_is s w e) inside) in
    and_from (is_eq (value_cmp v w)) (level_holds (item t d rest) ps) (ap is_eq same) has
stretch_of_by s t d rest v ps None e inside has = inside

-- what an item holds goes on in its stretch
stretch_of_has : (s : Span) (c : Level) (v : Value) (ps : List End) → is_inside s (below v) ≡ true → (is_end c || level_holds c ps) ≡ true → stretch_has v ps (stretch_of s c) ≡ true
stretch_of_has s end v ps inside has = inside
stretch_of_has s (item t d rest) v ps inside has = stretch_of_by s t d rest v ps (point_of s) refl inside has

item_has : (s : Span) (c : Level) (v : Value) (ps : List End) (more : Bool) (later : Bool) → ((is_inside s (below v) && (is_end c || level_holds c ps)) || more) ≡ true → (more ≡ true → later ≡ true) → (stretch_has v ps (stretch_of s c) || later) ≡ true
item_has s c v ps more later holds next = elim (or_cases (is_inside s (below v) && (is_end c || level_holds c ps)) more holds) [
  | inl here ↦
      let parts = and_parts (is_inside s (below v)) (is_end c || level_holds c ps) here in
      or_left (stretch_has v ps (stretch_of s c)) later (stretch_of_has s c v ps parts.0 parts.1)
  | inr after ↦ or_right (stretch_has v ps (stretch_of s c)) later (next after)
]

-- what a level in its place holds goes on in one of its stretches
level_has : (n : Bool) (ns : List Bool) (v : Value) (ps : List End) (l : Level) → ArePlaced (n ∷ ns) l → level_holds l (below v ∷ ps) ≡ true → list_any (stretch_has v ps) (stretches l) ≡ true
level_has n ns v ps end placed holds = holds
level_has n ns v ps (item s c rest) placed holds =
    put_has ns s.hi v ps (stretch_of s c) (stretches rest)
    (subst IsSpan (sym (stretch_span s c)) placed.0.span)
    (stretches_row n ns s.hi rest placed.0.rises placed.3)
    (item_has s c v ps (level_holds rest (below v ∷ ps)) (list_any (stretch_has v ps) (stretches rest)) holds (level_has n ns v ps rest placed.3))

any_in_order : (f : Bool) (test : Stretch → Bool) (xs : List Stretch) → list_any test xs ≡ true → list_any test (in_order f xs) ≡ true
any_in_order false test xs e = e
any_in_order true test xs e = any_reverse test xs e

-- a range of a level in its place holds each key that the level holds
level_keeps : (first : Bool) (ns fs : List Bool) (l : Level) (key : List Value) → length fs ≡ length ns → ArePlaced ns l → level_holds l (map below key) ≡ true → list_any (λ r. range_holds r key) (level_cover first ns fs l) ≡ true
level_keeps first ns fs end key same placed held = absurd (cc held)
level_keeps first ns fs (item s c rest) [] same placed held = absurd (cc held)
level_keeps first [] fs (item s c rest) (v ∷ vs) same placed held = absurd placed
level_keeps first (n ∷ ns) [] (item s c rest) (v ∷ vs) same placed held = absurd (omega (arith, same))
level_keeps first (n ∷ ns) (f ∷ fs) (item s c rest) (v ∷ vs) same placed held =
    any_flat_map (stretch_has v (map below vs)) (λ r. range_holds r (v ∷ vs)) (IsOver ns) (stretch_ranges (level_cover false ns fs) first n)
    (stretch_holds (level_cover false ns fs) first n ns v vs (λ d there on. level_keeps false ns fs d vs (omega (arith, same)) there on))
    (in_order f (stretches (item s c rest))) (part_over n f ns (item s c rest) placed)
    (any_in_order f (stretch_has v (map below vs)) (stretches (item s c rest)) (level_has n ns v (map below vs) (item s c rest) placed held))

-- a range of the cover of a canonical tree holds each key that the tree holds
pub cover_keeps : (parts falling : List Bool) (t : Tree) (key : List Value) → 0 < length parts → length falling ≡ length parts → IsCanonical parts t → IsTuple parts (map below key) → holds t (map below key) ≡ true → list_any (λ r. range_holds r key) (cover parts falling t) ≡ true
cover_keeps [] falling t key some same canonical fits held = absurd (omega (arith, some))
cover_keeps (n ∷ ns) falling everything [] some same canonical fits held = absurd fits
cover_keeps (n ∷ ns) falling everything (v ∷ vs) some same canonical fits held =
    or_left (range_holds (record { points = []; last = Some (whole_span n) }) (v ∷ vs)) false
    (within_by (is_at_most (first_end n) (below v)) (is_at_most (above v) Last) fits.0.from (greatest_end (above v)))
cover_keeps (n ∷ ns) falling nothing key some same canonical fits held = absurd (cc held)
cover_keeps (n ∷ ns) falling (items end) key some same canonical fits held = absurd canonical
cover_keeps (n ∷ ns) falling (items (item s c rest)) key some same canonical fits held =
    level_keeps true (n ∷ ns) falling (item s c rest) key same canonical.placed held
