-- Keys before a bound come before those that aren't, so that their number is found by search.
use Rattle.std.proofs.Common.{◌≡◌, ℕ, zero, suc, ◌<◌, ◌≤◌, Bool, true, false, cond, List, [], ◌∷◌, length, map, filter, get_or, refl, sym, ap, ◌∙◌, arith}
use Rattle.std.specs.declared.cmp.Ordering.{Ordering}
use Rattle.std.specs.declared.cmp.Ordering.TheVariants.{Less, Equal, Greater}
use Rattle.std.specs.Ordering.{ordering_then, ordering_reverse, is_lt, is_gt, nat_cmp}
use Rattle.std.specs.Cmp.{IsTotalOrder}
use Rattle.std.specs.List.Sorted.{IsSorted, IsPartitionedBy, IsPartitionPoint}
use Rattle.std.proofs.lemmas.Cmp.{alike_right}
use Rattle.std.proofs.lemmas.List.Sorted.{ranks_by, sorted_far}
use Rattle.rx_value.specs.declared.values.Value.{Value}
use Rattle.rx_value.specs.declared.shapes.Part.{Part}
use Rattle.rx_value.specs.declared.order.End.{End}
use Rattle.rx_value.specs.declared.ranges.Rest.{Rest}
use Rattle.rx_value.specs.declared.ranges.Rest.TheVariants.{Start, Part as AtCut, Finish}
use Rattle.rx_value.specs.Order.{value_cmp, below, above}
use Rattle.rx_value.specs.Keys.{part_value, key_of, part_cmp, key_cmp, is_before_cut, goes_before, is_before}
use Rattle.rx_value.proofs.Ends.{at_most-trans}
use Rattle.rx_value.proofs.KeyOrder.{part_cmp_total, by_key_total}
use Rattle.rx_index.specs.Entries.{row_at, entry_key, entry_cmp}
use Rattle.rx_index.proofs.Sorting.{entry_total}

abbrev decide : Ordering → Bool → Bool
decide o same = elim o [ Less ↦ true | Equal ↦ same | Greater ↦ false ]

module _ {K : Type 0} {R : K → K → Ordering} (o : IsTotalOrder R) (v w point : K) (tail : Ordering) (X Y : Bool) (on : is_gt tail ≡ false → Y ≡ true → X ≡ true) where
  step_by : (a b : Ordering) → R v w ≡ a → R w point ≡ b → is_gt (ordering_then a tail) ≡ false → decide b Y ≡ true → decide (R v point) X ≡ true
  step_by Less Less p q h k = ap (λ c. decide c X) (o.trans v w point p q)
  step_by Less Equal p q h k = ap (λ c. decide c X) (sym (alike_right o w point v q) ∙ p)
  step_by Less Greater p q h k = absurd (cc k)
  step_by Equal Less p q h k = ap (λ c. decide c X) (o.congr v w point p ∙ q)
  step_by Equal Equal p q h k = ap (λ c. decide c X) (o.congr v w point p ∙ q) ∙ on h k
  step_by Equal Greater p q h k = absurd (cc k)
  step_by Greater b p q h k = absurd (cc h)

  step : is_gt (ordering_then (R v w) tail) ≡ false → decide (R w point) Y ≡ true → decide (R v point) X ≡ true
  step = step_by (R v w) (R w point) refl refl

not_above : (o tail : Ordering) → is_gt (ordering_then o tail) ≡ false → elim (ordering_then o Equal) [ Greater ↦ false | _ ↦ true ] ≡ true
not_above Less tail h = refl
not_above Equal tail h = refl
not_above Greater tail h = absurd (cc h)

cut_earlier : (falls : Bool) (v w : Value) (tail : Ordering) (end : End) → is_gt (ordering_then (part_cmp falls v w) tail) ≡ false → is_before_cut falls w end ≡ true → is_before_cut falls v end ≡ true
cut_earlier false v w tail end h k = at_most-trans (above v) (above w) end (not_above (value_cmp v w) tail h) k
cut_earlier true v w tail end h k = at_most-trans end (below w) (below v) k (not_above (value_cmp w v) tail h)

rest_earlier : (parts : List Part) (rest : Rest) (r s : List Value) → is_gt (key_cmp parts (key_of parts r) (key_of parts s)) ≡ false
    → goes_before rest parts (key_of parts s) ≡ true → goes_before rest parts (key_of parts r) ≡ true
rest_earlier parts Start r s h k = k
rest_earlier parts Finish r s h k = k
rest_earlier [] (AtCut end) r s h k = k
rest_earlier (p ∷ ps) (AtCut end) r s h k = cut_earlier p.descending (part_value p r) (part_value p s) (key_cmp ps (key_of ps r) (key_of ps s)) end.now h k

-- a key that isn't behind another stands before each bound that the other stands before
pub earlier : (points : List Value) (rest : Rest) (parts : List Part) (r s : List Value) → is_gt (key_cmp parts (key_of parts r) (key_of parts s)) ≡ false
    → is_before points rest parts (key_of parts s) ≡ true → is_before points rest parts (key_of parts r) ≡ true
earlier [] rest parts r s h k = rest_earlier parts rest r s h k
earlier (point ∷ points) rest [] r s h k = k
earlier (point ∷ points) rest (p ∷ ps) r s h k =
    step (part_cmp_total p.descending) (part_value p r) (part_value p s) point (key_cmp ps (key_of ps r) (key_of ps s))
    (is_before points rest ps (key_of ps r)) (is_before points rest ps (key_of ps s)) (earlier points rest ps r s) h k

turned : (a b tail : Ordering) → a ≡ ordering_reverse b → is_lt (ordering_then b tail) ≡ false → is_gt a ≡ false
turned Less b tail e h = refl
turned Equal b tail e h = refl
turned Greater Less tail e h = absurd (cc h)
turned Greater Equal tail e h = absurd (cc e)
turned Greater Greater tail e h = absurd (cc e)

module _ (parts : List Part) (rows : List (List Value)) (ids : List ℕ) (up : IsSorted (entry_cmp parts rows) ids) where
  -- the key of an entry isn't behind that of a later one
  pub rises : (i j d : ℕ) → i ≤ j → j < length ids → is_gt (key_cmp parts (entry_key parts rows (get_or ids i d)) (entry_key parts rows (get_or ids j d))) ≡ false
  rises i j d ij jn =
      let a = get_or ids i d in
      let b = get_or ids j d in
      turned _ (key_cmp parts (entry_key parts rows b) (entry_key parts rows a)) (nat_cmp b a)
      ((by_key_total parts).antisymm (row_at rows a) (row_at rows b))
      (sorted_far (λ x y. is_lt (entry_cmp parts rows x y)) (ranks_by (entry_total parts rows) (λ x. x)) ids up i j d ij jn)

  pub parted : (points : List Value) (rest : Rest) → IsPartitionedBy (λ id. is_before points rest parts (entry_key parts rows id)) ids
  parted points rest i j d ij jn h = earlier points rest parts (row_at rows (get_or ids i d)) (row_at rows (get_or ids j d)) (rises i j d ij jn) h

module _ {X : Type 0} (p : X → Bool) where
  none_left : (xs : List X) → ((k : ℕ) (d : X) → k < length xs → p (get_or xs k d) ≡ false) → length (filter p xs) ≡ 0
  none_left [] h = refl
  none_left (x ∷ xs) h =
      ap (λ (b : Bool). length {A = X} (cond b (x ∷ filter p xs) (filter p xs))) (h 0 x (omega arith)) ∙ none_left xs (λ k d lt. h (suc k) d (omega (arith, lt)))

  -- as many pass as stand before the place from which on none passes
  pub count_to : (xs : List X) (i : ℕ) → i ≤ length xs → IsPartitionPoint (λ x. p x ≡ true) (λ x. p x ≡ false) xs i → length (filter p xs) ≡ i
  count_to xs zero le h = none_left xs (λ k d lt. h.1 k d (omega arith) lt)
  count_to [] (suc i) le h = absurd (omega (arith, le))
  count_to (x ∷ xs) (suc i) le h =
      ap (λ (b : Bool). length {A = X} (cond b (x ∷ filter p xs) (filter p xs))) (h.0 0 x (omega arith) (omega arith))
      ∙ ap suc (count_to xs i (omega (arith, le)) (λ k d lo lt. h.0 (suc k) d (omega arith) (omega (arith, lt)), λ k d lo lt. h.1 (suc k) d (omega (arith, lo)) (omega (arith, lt))))

kept : {X Y : Type 0} (b : Bool) (y : Y) (ys : List Y) (x : X) (xs : List X) → length ys ≡ length xs → length (cond b (y ∷ ys) ys) ≡ length (cond b (x ∷ xs) xs)
kept true y ys x xs e = ap suc e
kept false y ys x xs e = e

-- tests of what a function gives pass as often as the tests of these
pub count_mapped : {X Y : Type 0} (f : X → Y) (q : Y → Bool) (xs : List X) → length (filter q (map f xs)) ≡ length (filter (λ x. q (f x)) xs)
count_mapped f q [] = refl
count_mapped f q (x ∷ xs) = kept (q (f x)) (f x) (filter q (map f xs)) x (filter (λ y. q (f y)) xs) (count_mapped f q xs)
