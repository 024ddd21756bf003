-- One entry more among those of which the different keys were counted.
use Rattle.std.proofs.Common.{◌≡◌, ◌⊎◌, inl, inr, ℕ, zero, suc, ◌+◌, ◌-◌, ◌<◌, ◌≤◌, Bool, true, false, not, ◌||◌, nat_eq, List, [], ◌∷◌, length, take, get_or, All, refl, sym, ap, ◌∙◌, subst, arith}
use Rattle.std.specs.declared.cmp.Ordering.{Ordering}
use Rattle.std.specs.declared.cmp.Ordering.TheVariants.{Less, Equal, Greater}
use Rattle.std.specs.Ordering.{ordering_then, ordering_reverse, is_gt, is_eq}
use Rattle.std.specs.List.{Contains, range_with_len}
use Rattle.std.proofs.lemmas.List.{get_or_default, length-map, get_or-map}
use Rattle.std.proofs.lemmas.List.Kept.{AllPairs-cons}
use Rattle.std.proofs.lemmas.List.Sorted.{Contains-permutation, length_permutation}
use Rattle.std.proofs.lemmas.List.FromFn.{length-range_with_len, get_or-range_with_len}
use Rattle.std.proofs.lemmas.Option.{unwrap_or-slice_get}
use Rattle.rx_value.specs.declared.values.Value.{Value}
use Rattle.rx_value.specs.declared.shapes.Part.{Part}
use Rattle.rx_value.specs.Keys.{part_value, key_of, part_cmp, key_cmp}
use Rattle.rx_value.proofs.KeyOrder.{by_key, by_key_total}
use Rattle.rx_index.specs.Entries.{row_at, entry_key, IsOrder}
use Rattle.rx_index.proofs.Counting.{rises}
use Rattle.rx_index.proofs.Numbers.{id_below}
use Rattle.rx_index.proofs.Repeating.{key_equal}
use Rattle.rx_index.specs.Different.{HasDifferent, fronts}
use Rattle.rx_index.specs.Marks.{front_at, is_new, AreSeen}

-- ---- keys on the first parts

then_front : (o t u : Ordering) → (is_gt t ≡ false → is_gt u ≡ false) → is_gt (ordering_then o t) ≡ false → is_gt (ordering_then o u) ≡ false
then_front Less t u f h = refl
then_front Equal t u f h = f h
then_front Greater t u f h = h

front_order : (n : ℕ) (parts : List Part) (r s : List Value) → is_gt (by_key parts r s) ≡ false → is_gt (by_key (take n parts) r s) ≡ false
front_order zero parts r s h = refl
front_order (suc n) [] r s h = refl
front_order (suc n) (p ∷ ps) r s h = then_front (part_cmp p.descending (part_value p r) (part_value p s)) (by_key ps r s) (by_key (take n ps) r s) (front_order n ps r s) h

eq_equal : (o : Ordering) → is_eq o ≡ true → o ≡ Equal
eq_equal Less e = absurd (cc e)
eq_equal Equal e = refl
eq_equal Greater e = absurd (cc e)

squeezed : (k l : Ordering) → l ≡ ordering_reverse k → is_gt k ≡ false → is_gt l ≡ false → is_eq l ≡ true
squeezed Less l e h g = absurd (cc (e, g))
squeezed Equal l e h g = ap is_eq e
squeezed Greater l e h g = absurd (cc h)

module _ (parts : List Part) (n : ℕ) (rows : List (List Value)) (ids : List ℕ) (o : IsOrder parts rows ids) where
  abbrev row_of : ℕ → List Value
  row_of place = row_at rows (get_or ids place 0)

  abbrev key : ℕ → List Value
  key place = front_at parts n rows ids place

  abbrev is_like_last : ℕ → Bool
  is_like_last place = is_eq (by_key (take n parts) (row_of (place - 1)) (row_of place))

  front_rises : (i j : ℕ) → i ≤ j → j < length ids → is_gt (by_key (take n parts) (row_of i) (row_of j)) ≡ false
  front_rises i j ij jn = front_order n parts (row_of i) (row_of j) (rises parts rows ids o.rising i j 0 ij jn)

  -- a key that comes again stands directly before
  again : (i place : ℕ) → i < place → place < length ids → key i ≡ key place → is_like_last place ≡ true
  again i place lt within e =
      let mid = row_of (place - 1) in
      let on : is_gt (by_key (take n parts) mid (row_of i)) ≡ false =
      subst (λ k. is_gt (key_cmp (take n parts) (key_of (take n parts) mid) k) ≡ false) (sym e) (front_rises (place - 1) place (omega (arith, lt)) within) in
      subst (λ k. is_eq (key_cmp (take n parts) (key_of (take n parts) mid) k) ≡ true) e
      (squeezed (by_key (take n parts) (row_of i) mid) (by_key (take n parts) mid (row_of i)) ((by_key_total (take n parts)).antisymm mid (row_of i))
      (front_rises i (place - 1) (omega (arith, lt)) (omega (arith, lt, within))) on)

  abbrev Seen : ℕ → ℕ → Type 0
  Seen place count = AreSeen parts n rows ids place count

  pub none_yet : Seen 0 0
  none_yet = record {
    each = [];
    apart = λ i j d ij jn. absurd (omega (arith, jn));
    of_entries = λ i d lt. absurd (omega (arith, lt));
    all = λ at lt. absurd (omega (arith, lt));
    count_is = refl;
  }

  last_or : (at place : ℕ) → at < place + 1 → (at < place) ⊎ (at ≡ place)
  last_or zero zero h = inr refl
  last_or zero (suc p) h = inl (omega arith)
  last_or (suc a) zero h = absurd (omega (arith, h))
  last_or (suc a) (suc p) h = elim (last_or a p (omega (arith, h))) [ inl k ↦ inl (omega (arith, k)) | inr k ↦ inr (omega (arith, k)) ]

  further : (place : ℕ) (each : List (List Value)) → All (λ k. (at : ℕ) × (at < place) × (key at ≡ k)) each → All (λ k. (at : ℕ) × (at < place + 1) × (key at ≡ k)) each
  further place each h i d lt = (let (at, before, is) = h i d lt in (at, omega (arith, before), is))

  -- an entry with the key of the one before it
  pub passed : (place count : ℕ) → 0 < place → is_like_last place ≡ true → Seen place count → Seen (place + 1) count
  passed place count some like s = record {
    each = s.each;
    apart = s.apart;
    of_entries = further place s.each s.of_entries;
    all = λ at lt. elim (last_or at place lt) [
      | inl k ↦ s.all at k
      | inr k ↦ subst (Contains s.each) (key_equal (take n parts) (row_of (place - 1)) (row_of place) (eq_equal _ like) ∙ ap key (sym k)) (s.all (place - 1) (omega (arith, some)))
    ];
    count_is = s.count_is;
  }

  -- a key that wasn't seen
  pub taken : (place count : ℕ) → place < length ids → (place ≡ 0) ⊎ (is_like_last place ≡ false) → Seen place count → Seen (place + 1) (count + 1)
  taken place count within new s = record {
    each = key place ∷ s.each;
    apart = AllPairs-cons (λ a b. a ≡ b → ⊥) (key place) s.each (λ i d lt e. fresh (s.of_entries i d lt) e) s.apart;
    of_entries = λ i d lt. entry i d lt;
    all = λ at lt. elim (last_or at place lt) [
      | inl k ↦ later (key at) (s.all at k)
      | inr k ↦ (0, omega arith, ap key (sym k))
    ];
    count_is = omega (arith, s.count_is);
  } where
    fresh : {k : List Value} → (at : ℕ) × (at < place) × (key at ≡ k) → key place ≡ k → ⊥
    fresh (at, before, is) e = elim new [
      | inl z ↦ omega (arith, before, z)
      | inr h ↦ absurd (cc (h, again at place before within (is ∙ sym e)))
    ]

    entry : (i : ℕ) (d : List Value) → i < length (key place ∷ s.each) → (at : ℕ) × (at < place + 1) × (key at ≡ get_or (key place ∷ s.each) i d)
    entry zero d lt = (place, omega arith, refl)
    entry (suc i) d lt = further place s.each s.of_entries i d (omega (arith, lt))

    later : (k : List Value) → Contains s.each k → Contains (key place ∷ s.each) k
    later k (i, lt, is) = (suc i, omega (arith, lt), is)

  either : (z l : Bool) → z || not l ≡ true → (z ≡ true) ⊎ (l ≡ false)
  either true l e = inl refl
  either false true e = absurd (cc e)
  either false false e = inr refl

  neither : (z l : Bool) → z || not l ≡ false → (z ≡ false) × (l ≡ true)
  neither true l e = absurd (cc e)
  neither false true e = (refl, refl)
  neither false false e = absurd (cc e)

  no_place : (place : ℕ) → nat_eq place 0 ≡ true → place ≡ 0
  no_place place e = grind arith

  some_place : (place : ℕ) → nat_eq place 0 ≡ false → 0 < place
  some_place place e = grind arith

  pub new_taken : (place count : ℕ) → place < length ids → is_new (take n parts) rows ids place ≡ true → (count ≤ place) × Seen place count → (count + 1 ≤ place + 1) × Seen (place + 1) (count + 1)
  new_taken place count within h s = (omega (arith, s.0), taken place count within (elim (either (nat_eq place 0) (is_like_last place) h) [ inl z ↦ inl (no_place place z) | inr l ↦ inr l ]) s.1)

  pub old_passed : (place count : ℕ) → is_new (take n parts) rows ids place ≡ false → (count ≤ place) × Seen place count → (count ≤ place + 1) × Seen (place + 1) count
  old_passed place count h s = (let t = neither (nat_eq place 0) (is_like_last place) h in (omega (arith, s.0), passed place count (some_place place t.0) t.1 s.1))

  -- ---- all entries

  row_there : (id : ℕ) → id < length rows → (d : List Value) → get_or rows id d ≡ row_at rows id
  row_there id lt d = get_or_default rows id d [] lt ∙ sym (unwrap_or-slice_get rows id [])

  front_there : (id : ℕ) (d : List Value) → id < length rows → get_or (fronts parts n rows) id d ≡ key_of (take n parts) (row_at rows id)
  front_there id d lt = get_or-map (λ row. key_of (take n parts) row) rows id [] d lt ∙ ap (key_of (take n parts)) (row_there id lt [])

  in_fronts : (id : ℕ) → id < length rows → Contains (fronts parts n rows) (entry_key (take n parts) rows id)
  in_fronts id lt = (id, omega (arith, lt, length-map rows (λ row. key_of (take n parts) row)), front_there id (entry_key (take n parts) rows id) lt)

  place_of : (id : ℕ) → id < length rows → Contains ids id
  place_of id lt = Contains-permutation (range_with_len 0 (length rows)) ids id o.each (id, omega (arith, lt, length-range_with_len 0 (length rows)), omega (arith, get_or-range_with_len 0 (length rows) id id lt))

  pub as_many : length ids ≡ length rows
  as_many = omega (arith, length_permutation (range_with_len 0 (length rows)) ids o.each, length-range_with_len 0 (length rows))

  pub ended : (place count : ℕ) → place ≡ length ids → Seen place count → HasDifferent (fronts parts n rows) count
  ended place count e s = record {
    each = s.each;
    apart = s.apart;
    of_keys = λ i d lt. found (s.of_entries i d lt);
    all = λ id d lt. seen id d (omega (arith, lt, length-map rows (λ row. key_of (take n parts) row)));
    count_is = s.count_is;
  } where
    found : {k : List Value} → (at : ℕ) × (at < place) × (key at ≡ k) → Contains (fronts parts n rows) k
    found (at, before, is) = subst (Contains (fronts parts n rows)) is (in_fronts (get_or ids at 0) (id_below parts rows ids o at 0 (omega (arith, before, e))))

    seen : (id : ℕ) (d : List Value) → id < length rows → Contains s.each (get_or (fronts parts n rows) id d)
    seen id d lt = (let (at, within, is) = place_of id lt in
        subst (Contains s.each) (ap (entry_key (take n parts) rows) (get_or_default ids at 0 id within ∙ is) ∙ sym (front_there id d lt)) (s.all at (omega (arith, within, e))))
