-- The ranges of a condition on an index name no more parts than it has, and their spans are spans.
use Rattle.std.proofs.Common.{◌≡◌, ◌≤◌, ℕ, suc, Bool, true, false, List, [], ◌∷◌, ◌++◌, length, map, reverse, take, Option, Some, None, All, if◌then◌else◌, refl, sym, subst, arith}
use Rattle.std.specs.declared.cmp.Ordering.{Ordering}
use Rattle.std.specs.declared.cmp.Ordering.TheVariants.{Less, Equal, Greater}
use Rattle.std.specs.Ordering.{is_eq}
use Rattle.std.specs.List.{flat_map, AllByRecursion}
use Rattle.std.proofs.lemmas.List.{length-map, length-take, reverse-append}
use Rattle.std.proofs.lemmas.List.Elements.{All-from_recursion}
use Rattle.rx_value.specs.declared.values.Value.{Value}
use Rattle.rx_value.specs.declared.order.Span.{Span}
use Rattle.rx_value.specs.declared.ranges.KeyRange.{KeyRange}
use Rattle.rx_value.specs.declared.shapes.Column.{Column}
use Rattle.rx_value.specs.declared.shapes.Part.{Part}
use Rattle.rx_value.specs.Order.{end_cmp}
use Rattle.rx_value.specs.Spans.{IsSpan, IsSpanPart, is_whole_span, whole_span}
use Rattle.rx_value.specs.Keys.{spans_in}
use Rattle.rx_value.proofs.Ends.{below-at_most-trans, below-trans}
use Rattle.rx_tree.specs.Tree as trees
use Rattle.rx_tree.specs.Tree.{Level}
use Rattle.rx_tree.specs.Tree.Level.{end, item}
use Rattle.rx_tree.specs.Tree.Tree.{everything, nothing, items}
use Rattle.rx_tree.specs.Canonical.{ArePlaced, IsCanonical}
use Rattle.rx_cond.specs.Tree.{Tree}
use Rattle.rx_cover.specs.Cover.{Stretch, stretch_of, put_stretch, stretches, in_order, point_of, behind_point, stretch_ranges, level_cover, cover}
use Rattle.rx_cover.specs.Cover.Stretch.{deep, full}
use Rattle.rx_ranges.specs.Answers.{may_be_null, nullables, fallings, IsUsed}
use Rattle.rx_plan.specs.Plan.{IsRangeOf}

-- a range of so many parts
record Suits (count : ℕ) (r : KeyRange) : Type 0 where
  within : length (spans_in r) ≤ count
  span : IsSpanPart r.last

each_append : {A : Type 0} (P : A → Type 0) (xs ys : List A) → AllByRecursion P xs → AllByRecursion P ys → AllByRecursion P (xs ++ ys)
each_append P [] ys h k = k
each_append P (x ∷ xs) ys h k = (h.0, each_append P xs ys h.1 k)

each_reverse : {A : Type 0} (P : A → Type 0) (xs : List A) → AllByRecursion P xs → AllByRecursion P (reverse xs)
each_reverse P [] h = tt
each_reverse P (x ∷ xs) h =
    subst (AllByRecursion P) (sym (reverse-append (x ∷ []) xs)) (each_append P (reverse xs) (x ∷ []) (each_reverse P xs h.1) (h.0, tt))

each_map : {A B : Type 0} (P : A → Type 0) (Q : B → Type 0) (f : A → B) (xs : List A) → ((x : A) → P x → Q (f x)) → AllByRecursion P xs → AllByRecursion Q (map f xs)
each_map P Q f [] so h = tt
each_map P Q f (x ∷ xs) so h = (so x h.0, each_map P Q f xs so h.1)

each_flat_map : {A B : Type 0} (P : A → Type 0) (Q : B → Type 0) (f : A → List B) (xs : List A) → ((x : A) → P x → AllByRecursion Q (f x)) → AllByRecursion P xs → AllByRecursion Q (flat_map f xs)
each_flat_map P Q f [] so h = tt
each_flat_map P Q f (x ∷ xs) so h = each_append Q (f x) (flat_map f xs) (so x h.0) (each_flat_map P Q f xs so h.1)

-- a full stretch is a span, and the level below a deep one is in its place
abbrev IsSound : List Bool → Stretch → Type 0
IsSound ns (deep v c) = ArePlaced ns c
IsSound ns (full s) = IsSpan s

at_most_by : (o : Ordering) → is_eq o ≡ true → (elim o [ Greater ↦ false | _ ↦ true ]) ≡ true
at_most_by Less e = refl
at_most_by Equal e = refl
at_most_by Greater e = absurd (cc e)

fused : (ns : List Bool) (s t : Span) (rest : List Stretch) (b : Bool) → is_eq (end_cmp s.hi t.lo) ≡ b → IsSpan s → IsSpan t → AllByRecursion (IsSound ns) rest
    → AllByRecursion (IsSound ns) (if b then full (record { lo = s.lo; hi = t.hi }) ∷ rest else full s ∷ full t ∷ rest)
fused ns s t rest true e h k all = (below-trans s.lo t.lo t.hi (below-at_most-trans s.lo s.hi t.lo h (at_most_by (end_cmp s.hi t.lo) e)) k, all)
fused ns s t rest false e h k all = (h, (k, all))

put_sound : (ns : List Bool) (x : Stretch) (rest : List Stretch) → IsSound ns x → AllByRecursion (IsSound ns) rest → AllByRecursion (IsSound ns) (put_stretch x rest)
put_sound ns (deep v c) rest h k = (h, k)
put_sound ns (full s) [] h k = (h, k)
put_sound ns (full s) (deep v c ∷ rest) h k = (h, k)
put_sound ns (full s) (full t ∷ rest) h k = fused ns s t rest (is_eq (end_cmp s.hi t.lo)) refl h k.0 k.1

stretch_sound_by : (ns : List Bool) (s : Span) (c : Level) (o : Option Value) → IsSpan s → ArePlaced ns c → IsSound ns (elim o [ Some v ↦ deep v c | None ↦ full s ])
stretch_sound_by ns s c (Some v) h k = k
stretch_sound_by ns s c None h k = h

stretch_sound : (ns : List Bool) (s : Span) (c : Level) → IsSpan s → ArePlaced ns c → IsSound ns (stretch_of s c)
stretch_sound ns s end h k = h
stretch_sound ns s (item t d rest) h k = stretch_sound_by ns s (item t d rest) (point_of s) h k

stretches_sound : (n : Bool) (ns : List Bool) (l : Level) → ArePlaced (n ∷ ns) l → AllByRecursion (IsSound ns) (stretches l)
stretches_sound n ns end placed = tt
stretches_sound n ns (item s c rest) placed =
    put_sound ns (stretch_of s c) (stretches rest) (stretch_sound ns s c placed.0.span placed.2) (stretches_sound n ns rest placed.3)

turned : (ns : List Bool) (f : Bool) (xs : List Stretch) → AllByRecursion (IsSound ns) xs → AllByRecursion (IsSound ns) (in_order f xs)
turned ns true xs h = each_reverse (IsSound ns) xs h
turned ns false xs h = h

full_suits_by : (count : ℕ) (n first w : Bool) (s : Span) (o : Option Value) → IsSpan s → Suits (suc count) (elim o [
  | Some v ↦ record { points = v ∷ []; last = None }
  | None ↦ elim first [
    | true ↦ record { points = []; last = Some s }
    | false ↦ record { points = []; last = if w then None else Some s }
  ]
])
full_suits_by count n first w s (Some v) h = record { within = omega arith; span = tt }
full_suits_by count n true w s None h = record { within = omega arith; span = h }
full_suits_by count n false true s None h = record { within = omega arith; span = tt }
full_suits_by count n false false s None h = record { within = omega arith; span = h }

stretch_suits : (ns : List Bool) (below : Level → List KeyRange) (first n : Bool) → ((c : Level) → ArePlaced ns c → AllByRecursion (Suits (length ns)) (below c)) → (x : Stretch) → IsSound ns x
    → AllByRecursion (Suits (suc (length ns))) (stretch_ranges below first n x)
stretch_suits ns below first n suits (deep v c) h =
    each_map (Suits (length ns)) (Suits (suc (length ns))) (behind_point v) (below c) (λ r k. record { within = omega (arith, k.within); span = k.span }) (suits c h)
stretch_suits ns below first n suits (full s) h = (full_suits_by (length ns) n first (is_whole_span n s) s (point_of s) h, tt)

-- the ranges of a level in its place are ranges of its parts
level_suits : (first : Bool) (ns fs : List Bool) (l : Level) → ArePlaced ns l → AllByRecursion (Suits (length ns)) (level_cover first ns fs l)
level_suits first [] fs l placed = tt
level_suits first (n ∷ ns) [] l placed = tt
level_suits first (n ∷ ns) (f ∷ fs) l placed =
    each_flat_map (IsSound ns) (Suits (suc (length ns))) (stretch_ranges (level_cover false ns fs) first n) (in_order f (stretches l))
    (stretch_suits ns (level_cover false ns fs) first n (level_suits false ns fs)) (turned ns f (stretches l) (stretches_sound n ns l placed))

whole_suits : (n : Bool) → IsSpan (whole_span n)
whole_suits true = refl
whole_suits false = refl

-- and so are those of a canonical tree
cover_suits : (ns fs : List Bool) (t : trees.Tree) → IsCanonical ns t → AllByRecursion (Suits (length ns)) (cover ns fs t)
cover_suits [] fs t canonical = tt
cover_suits (n ∷ ns) fs everything canonical = (record { within = omega arith; span = whole_suits n }, tt)
cover_suits (n ∷ ns) fs nothing canonical = tt
cover_suits (n ∷ ns) fs (items end) canonical = absurd canonical
cover_suits (n ∷ ns) fs (items (item s c rest)) canonical = level_suits true (n ∷ ns) fs (item s c rest) canonical.placed

-- the ranges of a condition on an index are ranges of it
pub ranges_suit : (columns : List Column) (parts : List Part) (limit : ℕ) (t : Tree) (p : ℕ) (list : List KeyRange) → IsUsed columns parts limit t p list → All (IsRangeOf parts) list
ranges_suit columns parts limit t p list is =
    let front = take p parts in
    let ns = nullables columns front in
    let few : length ns ≤ length parts = omega (arith, length-map front (λ (part : Part). may_be_null columns part.column), length-take p parts) in
    All-from_recursion (IsRangeOf parts) list
    (subst (AllByRecursion (IsRangeOf parts)) (sym is.cover.is)
    (wider (cover ns (fallings front) is.cover.tree) few (cover_suits ns (fallings front) is.cover.tree is.cover.of.canonical)))
  where
    wider : (xs : List KeyRange) → length (nullables columns (take p parts)) ≤ length parts → AllByRecursion (Suits (length (nullables columns (take p parts)))) xs → AllByRecursion (IsRangeOf parts) xs
    wider [] few h = tt
    wider (x ∷ xs) few h = (record { within = omega (arith, few, h.0.within); span = h.0.span }, wider xs few h.1)
