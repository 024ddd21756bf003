-- Rows with the key of an earlier one stand directly behind one with this key in the order of entries.
use Rattle.std.proofs.Common.{◌≡◌, ◌⊎◌, inl, inr, ℕ, zero, suc, ◌+◌, ◌-◌, ◌<◌, ◌≤◌, min, Bool, true, false, not, ◌&&◌, List, [], ◌∷◌, length, get_or, Option, Some, None, nat_eq, refl, sym, ap, ap₂, ◌∙◌, subst, arith}
use Rattle.std.specs.declared.cmp.Ordering.{Ordering}
use Rattle.std.specs.declared.cmp.Ordering.TheVariants.{Less, Equal, Greater}
use Rattle.std.specs.Ordering.{ordering_then, ordering_reverse, is_lt, is_gt, is_eq, nat_cmp}
use Rattle.std.specs.List.{range_with_len, list_any, IsDistinct, AllByRecursion, Contains}
use Rattle.std.proofs.lemmas.List.Sorted.{ranks_by, sorted_far, Contains-permutation}
use Rattle.std.proofs.lemmas.List.FromFn.{length-range_with_len, get_or-range_with_len}
use Rattle.std.proofs.lemmas.List.{get_or_default}
use Rattle.std.proofs.lemmas.Map.Keys.{IsDistinct-IsPermutation, apart_from_distinct}
use Rattle.rx_value.specs.declared.values.Value.{Value}
use Rattle.rx_value.specs.declared.shapes.Part.{Part}
use Rattle.rx_value.specs.Keys.{part_value, key_of, part_cmp, key_cmp}
use Rattle.rx_value.proofs.Equal.{value_cmp-equal, value_cmp-same}
use Rattle.rx_value.proofs.KeyOrder.{by_key, by_key_total}
use Rattle.rx_index.specs.Entries.{row_at, entry_key, entry_cmp, IsOrder}
use Rattle.rx_index.specs.Duplicates.{is_null, Repeats, IsFirst}
use Rattle.rx_index.specs.Steps.{pairs_up, least_of, IsFound}
use Rattle.rx_index.proofs.Sorting.{entry_total}
use Rattle.rx_index.proofs.Counting.{rises}
use Rattle.rx_index.proofs.Numbers.{id_below}

-- ---- equal keys

part_equal : (falls : Bool) (u v : Value) → part_cmp falls u v ≡ Equal → u ≡ v
part_equal false u v e = value_cmp-equal u v e
part_equal true u v e = sym (value_cmp-equal v u e)

both_equal : (o p : Ordering) → ordering_then o p ≡ Equal → (o ≡ Equal) × (p ≡ Equal)
both_equal Less p e = absurd (cc e)
both_equal Equal p e = (refl, e)
both_equal Greater p e = absurd (cc e)

pub key_equal : (parts : List Part) (r s : List Value) → by_key parts r s ≡ Equal → key_of parts r ≡ key_of parts s
key_equal [] r s e = refl
key_equal (p ∷ ps) r s e =
    let h = both_equal (part_cmp p.descending (part_value p r) (part_value p s)) (by_key ps r s) e in
    ap₂ (λ v vs. v ∷ vs) (part_equal p.descending (part_value p r) (part_value p s) h.0) (key_equal ps r s h.1)

part_same : (falls : Bool) (v : Value) → part_cmp falls v v ≡ Equal
part_same false v = value_cmp-same v
part_same true v = value_cmp-same v

same_key : (parts : List Part) (r s : List Value) → key_of parts r ≡ key_of parts s → by_key parts r s ≡ Equal
same_key parts r s e = ap (λ k. key_cmp parts (key_of parts r) k) (sym e) ∙ same parts where
  same : (ps : List Part) → key_cmp ps (key_of ps r) (key_of ps r) ≡ Equal
  same [] = refl
  same (p ∷ ps) = ap (λ o. ordering_then o (key_cmp ps (key_of ps r) (key_of ps r))) (part_same p.descending (part_value p r)) ∙ same ps

eq_equal : (o : Ordering) → is_eq o ≡ true → o ≡ Equal
eq_equal Less e = absurd (cc e)
eq_equal Equal e = refl
eq_equal Greater e = absurd (cc e)

-- ---- the ids of an order differ

above : (a b n : ℕ) → a < b → AllByRecursion (λ y. nat_eq a y ≡ false) (range_with_len b n)
above a b zero lt = tt
above a b (suc n) lt = (grind arith, above a (b + 1) n (omega (arith, lt)))

distinct_range : (a n : ℕ) → IsDistinct nat_eq (range_with_len a n)
unfolding IsDistinct
distinct_range a zero = tt
distinct_range a (suc n) = (above a (a + 1) n (omega arith), distinct_range (a + 1) n)

turned : (x y : ℕ) → nat_eq x y ≡ nat_eq y x
turned x y = grind arith

module _ (parts : List Part) (rows : List (List Value)) (ids : List ℕ) (o : IsOrder parts rows ids) where
  differ : (i j : ℕ) → i < j → j < length ids → nat_eq (get_or ids i 0) (get_or ids j 0) ≡ false
  differ i j ij jn = apart_from_distinct nat_eq ids i j 0 (IsDistinct-IsPermutation nat_eq turned (range_with_len 0 (length rows)) ids o.each (distinct_range 0 (length rows))) ij jn

  -- ---- a row that pairs up repeats a key

  tie : (k : Ordering) (a b : ℕ) → k ≡ Equal → is_lt (ordering_then k (nat_cmp b a)) ≡ false → is_lt (nat_cmp b a) ≡ false
  tie Less a b e h = absurd (cc e)
  tie Equal a b e h = h
  tie Greater a b e h = absurd (cc e)

  not_below : (a b : ℕ) → is_lt (nat_cmp b a) ≡ false → nat_eq a b ≡ false → a < b
  not_below a b h d = grind arith

  later : (i j : ℕ) → i < j → j < length ids → is_lt (entry_cmp parts rows (get_or ids j 0) (get_or ids i 0)) ≡ false
  later i j ij jn = sorted_far (λ x y. is_lt (entry_cmp parts rows x y)) (ranks_by (entry_total parts rows) (λ x. x)) ids o.rising i j 0 (omega (arith, ij)) jn

  -- of two entries with one key the first has the lesser id
  pub ids_rise : (i j : ℕ) → i < j → j < length ids → entry_key parts rows (get_or ids i 0) ≡ entry_key parts rows (get_or ids j 0) → get_or ids i 0 < get_or ids j 0
  ids_rise i j ij jn e =
      let a = get_or ids i 0 in
      let b = get_or ids j 0 in
      not_below a b (tie (by_key parts (row_at rows b) (row_at rows a)) a b (same_key parts (row_at rows b) (row_at rows a) (sym e)) (later i j ij jn)) (differ i j ij jn)

  both_true : (b c : Bool) → b && c ≡ true → (b ≡ true) × (c ≡ true)
  both_true true true e = (refl, refl)
  both_true true false e = absurd (cc e)
  both_true false c e = absurd (cc e)

  negated : (b : Bool) → not b ≡ true → b ≡ false
  negated true e = absurd (cc e)
  negated false e = refl

  -- what is found repeats a key
  pub sound : (place row : ℕ) → IsFound parts rows ids place row → Repeats parts rows row
  sound place row f =
      let behind : get_or ids (f.at - 1) 0 < length rows = id_below parts rows ids o (f.at - 1) 0 (omega (arith, f.within)) in
      let here : get_or ids f.at 0 < length rows = id_below parts rows ids o f.at 0 (omega (arith, f.within)) in
      let two = both_true (is_eq (key_cmp parts (entry_key parts rows (get_or ids (f.at - 1) 0)) (entry_key parts rows row))) (not (list_any is_null (entry_key parts rows row))) f.pairs in
      let equal : entry_key parts rows (get_or ids (f.at - 1) 0) ≡ entry_key parts rows row = key_equal parts (row_at rows (get_or ids (f.at - 1) 0)) (row_at rows row) (eq_equal _ two.0) in
      record {
        there = omega (arith, here, f.row_is);
        full = negated _ two.1;
        earlier = (
          get_or ids (f.at - 1) 0,
          subst (λ n. get_or ids (f.at - 1) 0 < n) (sym f.row_is) (ids_rise (f.at - 1) f.at (omega (arith, f.behind)) (omega (arith, f.within)) (equal ∙ ap (entry_key parts rows) f.row_is)),
          equal,
        );
      }

  -- ---- a row that repeats a key pairs up

  contains_range : (x : ℕ) → x < length rows → Contains (range_with_len 0 (length rows)) x
  contains_range x lt = (x, omega (arith, lt, length-range_with_len 0 (length rows)), omega (arith, get_or-range_with_len 0 (length rows) x x lt))

  place_of : (x : ℕ) → x < length rows → Contains ids x
  place_of x lt = Contains-permutation (range_with_len 0 (length rows)) ids x o.each (contains_range x lt)

  at_zero : (x : ℕ) (c : Contains ids x) → get_or ids c.0 0 ≡ x
  at_zero x c = get_or_default ids c.0 0 x c.1 ∙ c.2

  less_first : (k : Ordering) (a b : ℕ) → k ≡ Equal → a < b → is_lt (ordering_then k (nat_cmp a b)) ≡ true
  less_first Less a b e lt = refl
  less_first Equal a b e lt = grind arith
  less_first Greater a b e lt = absurd (cc e)

  in_order : (a p : ℕ) → a < length ids → p < length ids → get_or ids a 0 < get_or ids p 0 → entry_key parts rows (get_or ids a 0) ≡ entry_key parts rows (get_or ids p 0) → (p ≤ a) ⊎ (a < p) → a < p
  in_order a p an pn lt e (inr h) = h
  in_order a p an pn lt e (inl h) = absurd (cc (
    sorted_far (λ x y. is_lt (entry_cmp parts rows x y)) (ranks_by (entry_total parts rows) (λ x. x)) ids o.rising p a 0 h an,
    less_first (by_key parts (row_at rows (get_or ids a 0)) (row_at rows (get_or ids p 0))) (get_or ids a 0) (get_or ids p 0) (same_key parts (row_at rows (get_or ids a 0)) (row_at rows (get_or ids p 0)) e) lt,
  ))

  either : (p a : ℕ) → (p ≤ a) ⊎ (a < p)
  either zero a = inl (omega arith)
  either (suc p) zero = inr (omega arith)
  either (suc p) (suc a) = elim (either p a) [ inl h ↦ inl (omega (arith, h)) | inr h ↦ inr (omega (arith, h)) ]

  squeezed : (k l : Ordering) → l ≡ ordering_reverse k → is_gt k ≡ false → is_gt l ≡ false → is_eq l ≡ true
  squeezed Less l e h g = absurd (cc (e, g))
  squeezed Equal l e h g = ap is_eq e
  squeezed Greater l e h g = absurd (cc h)

  neighbour : (a p : ℕ) → a < p → p < length ids → entry_key parts rows (get_or ids a 0) ≡ entry_key parts rows (get_or ids p 0)
      → is_eq (key_cmp parts (entry_key parts rows (get_or ids (p - 1) 0)) (entry_key parts rows (get_or ids p 0))) ≡ true
  neighbour a p ap pn e =
      let first = row_at rows (get_or ids a 0) in
      let mid = row_at rows (get_or ids (p - 1) 0) in
      let on : is_gt (by_key parts mid first) ≡ false = subst (λ k. is_gt (key_cmp parts (key_of parts mid) k) ≡ false) (sym e) (rises parts rows ids o.rising (p - 1) p 0 (omega (arith, ap)) pn) in
      subst (λ k. is_eq (key_cmp parts (key_of parts mid) k) ≡ true) e
      (squeezed (by_key parts first mid) (by_key parts mid first) ((by_key_total parts).antisymm mid first) (rises parts rows ids o.rising a (p - 1) 0 (omega (arith, ap)) (omega (arith, ap, pn))) on)

  -- what repeats a key is found
  pub complete : (row : ℕ) → Repeats parts rows row → IsFound parts rows ids (length ids) row
  complete row r =
      let first = r.earlier.0 in
      let a = place_of first (omega (arith, r.earlier.1, r.there)) in
      let p = place_of row r.there in
      let first_is : get_or ids a.0 0 ≡ first = at_zero first a in
      let row_is : get_or ids p.0 0 ≡ row = at_zero row p in
      let same : entry_key parts rows (get_or ids a.0 0) ≡ entry_key parts rows (get_or ids p.0 0) = ap (entry_key parts rows) first_is ∙ r.earlier.2 ∙ sym (ap (entry_key parts rows) row_is) in
      let lt : a.0 < p.0 = in_order a.0 p.0 a.1 p.1 (omega (arith, first_is, row_is, r.earlier.1)) same (either p.0 a.0) in
      record {
        at = p.0;
        behind = omega (arith, lt);
        before = p.1;
        within = p.1;
        row_is = sym row_is;
        pairs = joined (subst (λ n. is_eq (key_cmp parts (entry_key parts rows (get_or ids (p.0 - 1) 0)) (entry_key parts rows n)) ≡ true) row_is (neighbour a.0 p.0 lt p.1 same)) (ap not r.full);
      }
    where
      joined : {b c : Bool} → b ≡ true → c ≡ true → b && c ≡ true
      joined e f = ap₂ (λ b c. b && c) e f

  -- ---- one place more

  wider : (place row : ℕ) → IsFound parts rows ids place row → IsFound parts rows ids (place + 1) row
  wider place row f = record { at = f.at; behind = f.behind; before = omega (arith, f.before); within = f.within; row_is = f.row_is; pairs = f.pairs }

  last_or : (place row : ℕ) (f : IsFound parts rows ids (place + 1) row) → (f.at < place) ⊎ (f.at ≡ place)
  last_or place row f = elim (either place f.at) [ inl h ↦ inr (omega (arith, h, f.before)) | inr h ↦ inl h ]

  abbrev PairsAt : ℕ → Bool → Type 0
  PairsAt place b = pairs_up parts rows (get_or ids (place - 1) 0) (get_or ids place 0) ≡ b

  narrow : (place row : ℕ) (f : IsFound parts rows ids (place + 1) row) → (IsFound parts rows ids place row) ⊎ ((row ≡ get_or ids place 0) × PairsAt place true)
  narrow place row f = elim (last_or place row f) [
    | inl h ↦ inl (record { at = f.at; behind = f.behind; before = h; within = f.within; row_is = f.row_is; pairs = f.pairs })
    | inr h ↦ inr (
      f.row_is ∙ ap (λ n. get_or ids n 0) h,
      subst (λ n. pairs_up parts rows (get_or ids (place - 1) 0) n ≡ true) (f.row_is ∙ ap (λ n. get_or ids n 0) h) (subst (λ n. pairs_up parts rows (get_or ids (n - 1) 0) row ≡ true) h f.pairs),
    )
  ]

  not_here : (place row : ℕ) → PairsAt place false → IsFound parts rows ids (place + 1) row → IsFound parts rows ids place row
  not_here place row apart f = elim (narrow place row f) [ inl g ↦ g | inr h ↦ absurd (cc (apart, h.1)) ]

  pub passed : (place : ℕ) (first : Option ℕ) → PairsAt place false → IsFirst (IsFound parts rows ids place) first → IsFirst (IsFound parts rows ids (place + 1)) first
  passed place None apart h = λ n f. h n (not_here place n apart f)
  passed place (Some first) apart h = (wider place first h.0, λ n f. h.1 n (not_here place n apart f))

  here : (place : ℕ) → 1 ≤ place → place < length ids → PairsAt place true → IsFound parts rows ids (place + 1) (get_or ids place 0)
  here place le lt same = record { at = place; behind = le; before = omega arith; within = lt; row_is = refl; pairs = same }

  lesser_by : (place first : ℕ) → IsFound parts rows ids (place + 1) first → IsFound parts rows ids (place + 1) (get_or ids place 0)
      → (first ≤ get_or ids place 0) ⊎ (get_or ids place 0 < first) → IsFound parts rows ids (place + 1) (min first (get_or ids place 0))
  lesser_by place first f g (inl h) = subst (IsFound parts rows ids (place + 1)) (omega (arith, h)) f
  lesser_by place first f g (inr h) = subst (IsFound parts rows ids (place + 1)) (omega (arith, h)) g

  pub taken : (place : ℕ) (first : Option ℕ) → 1 ≤ place → place < length ids → PairsAt place true → IsFirst (IsFound parts rows ids place) first
      → IsFirst (IsFound parts rows ids (place + 1)) (Some (least_of first (get_or ids place 0)))
  taken place None le lt same h = (here place le lt same, λ n f. elim (narrow place n f) [ inl g ↦ absurd (h n g) | inr e ↦ omega (arith, e.0) ])
  taken place (Some first) le lt same h = (
    lesser_by place first (wider place first h.0) (here place le lt same) (either first (get_or ids place 0)),
    λ n f. elim (narrow place n f) [ inl g ↦ omega (arith, h.1 n g) | inr e ↦ omega (arith, e.0) ],
  )

  full : (place row : ℕ) → length ids ≤ place → IsFound parts rows ids (length ids) row → IsFound parts rows ids place row
  full place row le f = record { at = f.at; behind = f.behind; before = omega (arith, f.before, le); within = f.within; row_is = f.row_is; pairs = f.pairs }

  -- where all places were passed, the least row that was found is the first that repeats a key
  pub ended : (place : ℕ) (first : Option ℕ) → length ids ≤ place → IsFirst (IsFound parts rows ids place) first → IsFirst (Repeats parts rows) first
  ended place None le h = λ n r. h n (full place n le (complete n r))
  ended place (Some first) le h = (sound place first h.0, λ n r. h.1 n (full place n le (complete n r)))
