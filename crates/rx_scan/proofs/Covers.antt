-- The ranges of a cover name no more parts than there are, and their spans are spans.
use Rattle.std.proofs.Common.{◌≡◌, ℕ, suc, ◌≤◌, Bool, true, false, if◌then◌else◌, List, [], ◌∷◌, length, reverse, flat_map, Option, Some, None, All, refl, sym, subst, arith}
use mathlib.Core.List.{reverse-cons}
use Rattle.std.specs.declared.cmp.Ordering.{Ordering}
use Rattle.std.specs.declared.cmp.Ordering.TheVariants.{Less, Equal, Greater}
use Rattle.std.specs.Ordering.{is_eq}
use Rattle.std.proofs.lemmas.List.Elements.{All-nil, All-cons, All-append, All-map, All-weaker, All-head, All-tail}
use Rattle.rx_value.specs.declared.values.Value.{Value}
use Rattle.rx_value.specs.declared.order.Span.{Span}
use Rattle.rx_value.specs.declared.ranges.KeyRange.{KeyRange}
use Rattle.rx_value.specs.declared.shapes.Part.{Part}
use Rattle.rx_value.specs.Order.{end_cmp}
use Rattle.rx_value.specs.Spans.{IsSpan, IsSpanPart, whole_span, is_whole_span}
use Rattle.rx_value.specs.Keys.{spans_in}
use Rattle.rx_value.proofs.Ends.{end_cmp-equal, at_most-from_equal, below-at_most-trans, below-trans}
use Rattle.rx_tree.specs.Tree.{Level, Tree}
use Rattle.rx_tree.specs.Tree.Level.{end, item}
use Rattle.rx_tree.specs.Tree.Tree.{everything, nothing, items}
use Rattle.rx_tree.specs.Canonical.{ArePlaced, IsCanonical}
use Rattle.rx_cover.specs.Cover.{Stretch, point_of, stretch_of, put_stretch, stretches, in_order, behind_point, full_range, stretch_ranges, level_cover, cover}
use Rattle.rx_cover.specs.Cover.Stretch.{deep, full}
use Rattle.rx_scan.specs.Handing.{IsRangeOf}

-- ---- what is met on a level

-- a full span is one, and the level below a point is in its place
abbrev IsSound : List Bool → Stretch → Type 0
IsSound ns (deep v c) = ArePlaced ns c
IsSound ns (full s) = IsSpan s

equal_is : (o : Ordering) → is_eq o ≡ true → o ≡ Equal
equal_is Less e = absurd (cc e)
equal_is Equal e = refl
equal_is Greater e = absurd (cc e)

joined : (ns : List Bool) (s t : Span) (rest : List Stretch) (b : Bool) → is_eq (end_cmp s.hi t.lo) ≡ b → IsSpan s → All (IsSound ns) (full t ∷ rest)
    → All (IsSound ns) (if b then full (record { lo = s.lo; hi = t.hi }) ∷ rest else full s ∷ full t ∷ rest)
joined ns s t rest true touch span h =
    let same = end_cmp-equal s.hi t.lo (equal_is (end_cmp s.hi t.lo) touch) in
    let on = below-at_most-trans s.lo s.hi t.lo span (at_most-from_equal s.hi t.lo same) in
    All-cons (IsSound ns) (full (record { lo = s.lo; hi = t.hi })) rest (below-trans s.lo t.lo t.hi on (All-head (IsSound ns) (full t) rest h)) (All-tail (IsSound ns) (full t) rest h)
joined ns s t rest false touch span h = All-cons (IsSound ns) (full s) (full t ∷ rest) span h

put_sound : (ns : List Bool) (x : Stretch) (rest : List Stretch) → IsSound ns x → All (IsSound ns) rest → All (IsSound ns) (put_stretch x rest)
put_sound ns (deep v c) rest here h = All-cons (IsSound ns) (deep v c) rest here h
put_sound ns (full s) [] here h = All-cons (IsSound ns) (full s) [] here h
put_sound ns (full s) (deep v c ∷ rest) here h = All-cons (IsSound ns) (full s) (deep v c ∷ rest) here h
put_sound ns (full s) (full t ∷ rest) here h = joined ns s t rest (is_eq (end_cmp s.hi t.lo)) refl here h

point_sound : (ns : List Bool) (s : Span) (c : Level) (o : Option Value) → IsSpan s → ArePlaced ns c → IsSound ns (elim o [ Some v ↦ deep v c | None ↦ full s ])
point_sound ns s c (Some v) span placed = placed
point_sound ns s c None span placed = span

item_sound : (ns : List Bool) (s : Span) (c : Level) → IsSpan s → ArePlaced ns c → IsSound ns (stretch_of s c)
item_sound ns s end span placed = span
item_sound ns s (item t d rest) span placed = point_sound ns s (item t d rest) (point_of s) span placed

all_sound : (n : Bool) (ns : List Bool) (l : Level) → ArePlaced (n ∷ ns) l → All (IsSound ns) (stretches l)
all_sound n ns end placed = All-nil (IsSound ns)
all_sound n ns (item s c rest) placed = put_sound ns (stretch_of s c) (stretches rest) (item_sound ns s c placed.0.span placed.2) (all_sound n ns rest placed.3)

turned : {X : Type 0} (P : X → Type 0) (xs : List X) → All P xs → All P (reverse xs)
turned P [] h = h
turned P (x ∷ xs) h =
    subst (All P) (sym (reverse-cons x xs))
    (All-append P (reverse xs) (x ∷ []) (turned P xs (All-tail P x xs h)) (All-cons P x [] (All-head P x xs h) (All-nil P)))

ordered_sound : (ns : List Bool) (falls : Bool) (xs : List Stretch) → All (IsSound ns) xs → All (IsSound ns) (in_order falls xs)
ordered_sound ns false xs h = h
ordered_sound ns true xs h = turned (IsSound ns) xs h

-- ---- its ranges

-- a range names at most so many parts, and its span is one
record NamesAtMost (count : ℕ) (range : KeyRange) : Type 0 where
  within : length (spans_in range) ≤ count
  span : IsSpanPart range.last

behind_names : (v : Value) (count : ℕ) (range : KeyRange) → NamesAtMost count range → NamesAtMost (suc count) (behind_point v range)
behind_names v count range h = record { within = omega (arith, h.within); span = h.span }

rest_names : (b : Bool) (count : ℕ) (s : Span) → IsSpan s → NamesAtMost (suc count) (record { points = []; last = if b then None else Some s })
rest_names true count s span = record { within = omega arith; span = tt }
rest_names false count s span = record { within = omega arith; span = span }

full_names_by : (first n : Bool) (count : ℕ) (s : Span) (o : Option Value) → IsSpan s
    → NamesAtMost (suc count) (elim o [
      | Some v ↦ record { points = v ∷ []; last = None }
      | None ↦ elim first [
        | true ↦ record { points = []; last = Some s }
        | false ↦ record { points = []; last = if is_whole_span n s then None else Some s }
      ]
    ])
full_names_by first n count s (Some v) span = record { within = omega arith; span = tt }
full_names_by true n count s None span = record { within = omega arith; span = span }
full_names_by false n count s None span = rest_names (is_whole_span n s) count s span

stretch_names : (below : Level → List KeyRange) (first n : Bool) (ns : List Bool) → ((c : Level) → ArePlaced ns c → All (NamesAtMost (length ns)) (below c)) → (x : Stretch) → IsSound ns x
    → All (NamesAtMost (suc (length ns))) (stretch_ranges below first n x)
stretch_names below first n ns names (deep v c) sound =
    All-map (NamesAtMost (suc (length ns))) (behind_point v) (below c)
    (All-weaker (NamesAtMost (length ns)) (λ r. NamesAtMost (suc (length ns)) (behind_point v r)) (behind_names v (length ns)) (below c) (names c sound))
stretch_names below first n ns names (full s) sound =
    All-cons (NamesAtMost (suc (length ns))) (full_range first n s) [] (full_names_by first n (length ns) s (point_of s) sound) (All-nil (NamesAtMost (suc (length ns))))

all_given : {X Y : Type 0} (P : X → Type 0) (Q : Y → Type 0) (f : X → List Y) → ((x : X) → P x → All Q (f x)) → (xs : List X) → All P xs → All Q (flat_map f xs)
all_given P Q f h [] p = All-nil Q
all_given P Q f h (x ∷ xs) p = All-append Q (f x) (flat_map f xs) (h x (All-head P x xs p)) (all_given P Q f h xs (All-tail P x xs p))

level_names : (first : Bool) (ns fs : List Bool) (l : Level) → ArePlaced ns l → All (NamesAtMost (length ns)) (level_cover first ns fs l)
level_names first [] [] l placed = All-nil (NamesAtMost 0)
level_names first [] (f ∷ fs) l placed = All-nil (NamesAtMost 0)
level_names first (n ∷ ns) [] l placed = All-nil (NamesAtMost (suc (length ns)))
level_names first (n ∷ ns) (f ∷ fs) l placed =
    all_given (IsSound ns) (NamesAtMost (suc (length ns))) (stretch_ranges (level_cover false ns fs) first n)
    (stretch_names (level_cover false ns fs) first n ns (level_names false ns fs))
    (in_order f (stretches l)) (ordered_sound ns f (stretches l) (all_sound n ns l placed))

-- the whole of a part is a span
whole_is_span : (n : Bool) → IsSpan (whole_span n)
whole_is_span true = refl
whole_is_span false = refl

cover_names : (ns fs : List Bool) (t : Tree) → IsCanonical ns t → All (NamesAtMost (length ns)) (cover ns fs t)
cover_names [] fs t h = All-nil (NamesAtMost 0)
cover_names (n ∷ ns) fs everything h =
    All-cons (NamesAtMost (suc (length ns))) (record { points = []; last = Some (whole_span n) }) []
    (record { within = omega arith; span = whole_is_span n }) (All-nil (NamesAtMost (suc (length ns))))
cover_names (n ∷ ns) fs nothing h = All-nil (NamesAtMost (suc (length ns)))
cover_names (n ∷ ns) fs (items end) h = absurd h
cover_names (n ∷ ns) fs (items (item s c rest)) h = level_names true (n ∷ ns) fs (item s c rest) h.placed

-- the ranges of a cover are ranges of an index that has these parts first
pub cover_ranges : (parts : List Part) (ns fs : List Bool) (t : Tree) → length ns ≤ length parts → IsCanonical ns t → All (IsRangeOf parts) (cover ns fs t)
cover_ranges parts ns fs t few h =
    All-weaker (NamesAtMost (length ns)) (IsRangeOf parts) (λ r p. record { within = omega (arith, few, p.within); span = p.span }) (cover ns fs t) (cover_names ns fs t h)
