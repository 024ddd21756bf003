-- The different keys on each number of first parts, by the entries that are marked.
use Rattle.std.proofs.Common.{◌≡◌, ◌⊎◌, inl, inr, ℕ, zero, suc, ◌+◌, ◌-◌, ◌<◌, ◌≤◌, Bool, true, false, not, ◌&&◌, ◌||◌, nat_eq, List, [], ◌∷◌, ◌++◌, length, take, drop, get_or, ltb, slice_set, refl, sym, ap, ap₂, ◌∙◌, subst, arith}
use Rattle.std.specs.declared.cmp.Ordering.{Ordering}
use Rattle.std.specs.declared.cmp.Ordering.TheVariants.{Less, Equal, Greater}
use Rattle.std.specs.Ordering.{ordering_then, is_eq}
use Rattle.std.proofs.lemmas.List.{get_or-set_same, get_or-set_other, length-set, get_or_default, get_or-map, drop_all, take_all, take_more, append-nil, map-append}
use Rattle.std.proofs.lemmas.Option.{unwrap_or-slice_get}
use Rattle.rx_value.specs.declared.values.Value.{Value}
use Rattle.rx_value.specs.declared.values.Value.TheVariants.{Null}
use Rattle.rx_value.specs.declared.shapes.Part.{Part}
use Rattle.rx_value.specs.Keys.{part_value, part_cmp}
use Rattle.rx_value.proofs.KeyOrder.{by_key}
use Rattle.rx_index.specs.Entries.{row_at, IsOrder}
use Rattle.rx_index.specs.Different.{HasDifferent, fronts, AreDifferentTo}
use Rattle.rx_index.specs.Marks.{is_new, values_of, count_marked, differs, AreSeen, IsFirstMarked, AreMarkedTo, AreMarked}
use Rattle.rx_index.proofs.Seeing.{none_yet, new_taken, old_passed, ended}

-- one more where a test is passed
abbrev counted : Bool → ℕ → ℕ
counted true n = n + 1
counted false n = n

-- ---- one part more

then_equal : (o t : Ordering) → is_eq (ordering_then o t) ≡ (is_eq o && is_eq t)
then_equal Less t = refl
then_equal Equal t = refl
then_equal Greater t = refl

and_one : (a : Bool) → a ≡ (a && true)
and_one true = refl
and_one false = refl

both_of : (a b c : Bool) → (a && (b && c)) ≡ ((a && b) && c)
both_of true b c = refl
both_of false b c = refl

take_next : {X : Type 0} (n : ℕ) (x : X) (xs : List X) → take (suc n + 1) (x ∷ xs) ≡ x ∷ take (n + 1) xs
take_next n x xs = let e : suc n + 1 ≡ suc (n + 1) = omega arith in ap (λ k. take k (x ∷ xs)) e

-- keys on one part more are equal where they are on those before it, and the values on it are
equal_more : (parts : List Part) (n : ℕ) (p : Part) (r s : List Value) → n < length parts → p ≡ get_or parts n p
    → is_eq (by_key (take (n + 1) parts) r s) ≡ (is_eq (by_key (take n parts) r s) && is_eq (part_cmp p.descending (part_value p r) (part_value p s)))
equal_more [] n p r s lt e = absurd (omega (arith, lt))
equal_more (q ∷ parts) zero p r s lt e =
    then_equal (part_cmp q.descending (part_value q r) (part_value q s)) Equal
    ∙ sym (and_one (is_eq (part_cmp q.descending (part_value q r) (part_value q s))))
    ∙ ap (λ (x : Part). is_eq (part_cmp x.descending (part_value x r) (part_value x s))) (sym e)
equal_more (q ∷ parts) (suc n) p r s lt e =
    let o = part_cmp q.descending (part_value q r) (part_value q s) in
    ap (λ ps. is_eq (by_key ps r s)) (take_next n q parts)
    ∙ then_equal o (by_key (take (n + 1) parts) r s)
    ∙ ap (λ b. is_eq o && b) (equal_more parts n p r s (omega (arith, lt)) e)
    ∙ both_of (is_eq o) (is_eq (by_key (take n parts) r s)) (is_eq (part_cmp p.descending (part_value p r) (part_value p s)))
    ∙ ap (λ b. b && is_eq (part_cmp p.descending (part_value p r) (part_value p s))) (sym (then_equal o (by_key (take n parts) r s)))

-- ---- one place more

ltb_same : (i : ℕ) → ltb i i ≡ false
ltb_same i = grind arith

ltb_next : (i : ℕ) → ltb i (i + 1) ≡ true
ltb_next i = grind arith

ltb_other : (i n : ℕ) → (i ≡ n → ⊥) → ltb i (n + 1) ≡ ltb i n
ltb_other i n h = grind (arith, h)

ltb_some : (i : ℕ) → 0 < i → ltb 0 i ≡ true
ltb_some i h = grind (arith, h)

or_none : (a : Bool) → a ≡ (a || false)
or_none true = refl
or_none false = refl

or_one : (a : Bool) → true ≡ (a || true)
or_one true = refl
or_one false = refl

and_none : (a : Bool) → (a && false) ≡ false
and_none true = refl
and_none false = refl

is_here : (i n : ℕ) → (i ≡ n) ⊎ (i ≡ n → ⊥)
is_here zero zero = inl refl
is_here zero (suc n) = inr (λ e. absurd (omega (arith, e)))
is_here (suc i) zero = inr (λ e. absurd (omega (arith, e)))
is_here (suc i) (suc n) = elim (is_here i n) [ inl e ↦ inl (ap suc e) | inr h ↦ inr (λ e. h (omega (arith, e))) ]

module _ (falling : Bool) (values : List Value) (place : ℕ) (old now : List Bool) (some : 0 < place) (m : AreMarkedTo falling values place old now) where
  abbrev is_like : ℕ → Bool
  is_like i = is_eq (part_cmp falling (get_or values (i - 1) Null) (get_or values i Null))

  elsewhere : (i : ℕ) → (i ≡ place → ⊥) → i < length old → get_or now i false ≡ (get_or old i false || differs falling values (place + 1) i)
  elsewhere i h lt = m.each i lt ∙ ap (λ b. get_or old i false || (ltb 0 i && (b && not (is_like i)))) (sym (ltb_other i place h))

  here_now : place < length old → get_or now place false ≡ get_or old place false
  here_now lt =
      m.each place lt ∙ ap (λ b. get_or old place false || (ltb 0 place && (b && not (is_like place)))) (ltb_same place)
      ∙ ap (λ b. get_or old place false || b) (and_none (ltb 0 place)) ∙ sym (or_none (get_or old place false))

  here_told : (same : Bool) → same ≡ is_like place → differs falling values (place + 1) place ≡ not same
  here_told same e = ap₂ (λ a b. a && (b && not (is_like place))) (ltb_some place some) (ltb_next place) ∙ ap not (sym e)

  pub left_unmarked : (same : Bool) → same ≡ is_like place → same ≡ true → AreMarkedTo falling values (place + 1) old now
  left_unmarked same e is = record {
    as_many = m.as_many;
    each = λ i lt. elim (is_here i place) [
      | inl at ↦ subst (λ k. get_or now k false ≡ (get_or old k false || differs falling values (place + 1) k)) (sym at)
          (let within : place < length old = omega (arith, lt, at) in
          here_now within ∙ or_none (get_or old place false) ∙ sym (ap (λ b. get_or old place false || b) (here_told same e ∙ ap not is)))
      | inr h ↦ elsewhere i h lt
    ];
  }

  pub made_marked : (same : Bool) → same ≡ is_like place → same ≡ false → AreMarkedTo falling values (place + 1) old (slice_set now place true)
  made_marked same e is = record {
    as_many = length-set now place true ∙ m.as_many;
    each = λ i lt. elim (is_here i place) [
      | inl at ↦ subst (λ k. get_or (slice_set now place true) k false ≡ (get_or old k false || differs falling values (place + 1) k)) (sym at)
          (get_or-set_same now place true false (omega (arith, lt, at, m.as_many)) ∙ or_one (get_or old place false)
          ∙ sym (ap (λ b. get_or old place false || b) (here_told same e ∙ ap not is)))
      | inr h ↦ get_or-set_other now place i true false h ∙ elsewhere i h lt
    ];
  }

-- ---- marks of all parts

joined : (z a b d : Bool) → d ≡ (not z && not b) → ((z || not a) || d) ≡ (z || not (a && b))
joined true a b d e = refl
joined false true b d e = e
joined false false b d e = refl

first_or_behind : (i : ℕ) → ltb 0 i ≡ not (nat_eq i 0)
first_or_behind i = grind arith

is_within : (i n : ℕ) → i < n → ltb i n ≡ true
is_within i n lt = grind (arith, lt)

module _ (parts : List Part) (rows : List (List Value)) (ids : List ℕ) where
  abbrev row_of : ℕ → List Value
  row_of place = row_at rows (get_or ids place 0)

  value_there : (p : Part) (i : ℕ) → i < length ids → get_or (values_of p rows ids) i Null ≡ part_value p (row_at rows (get_or ids i 0))
  value_there p i lt = get_or-map (λ id. part_value p (row_at rows id)) ids i 0 Null lt

  -- one part more
  pub marked_more : (n : ℕ) (p : Part) (old new : List Bool) → n < length parts → p ≡ get_or parts n p → AreMarked parts n rows ids old
      → AreMarkedTo p.descending (values_of p rows ids) (length old) old new → AreMarked parts (n + 1) rows ids new
  marked_more n p old new lt e m t = record {
    as_many = t.as_many ∙ m.as_many;
    each = λ i within. marked i within;
  } where
    marked : (i : ℕ) → i < length ids → get_or new i false ≡ is_new (take (n + 1) parts) rows ids i
    marked i within =
        let below : i < length old = omega (arith, within, m.as_many) in
        let a = is_eq (by_key (take n parts) (row_of (i - 1)) (row_of i)) in
        let b = is_eq (part_cmp p.descending (part_value p (row_of (i - 1))) (part_value p (row_of i))) in
        let before : i - 1 < length ids = omega (arith, within) in
        let told : differs p.descending (values_of p rows ids) (length old) i ≡ (not (nat_eq i 0) && not b) =
        ap₂ (λ x y. x && (y && not (is_eq (part_cmp p.descending (get_or (values_of p rows ids) (i - 1) Null) (get_or (values_of p rows ids) i Null))))) (first_or_behind i) (is_within i (length old) below)
        ∙ ap₂ (λ u v. not (nat_eq i 0) && not (is_eq (part_cmp p.descending u v))) (value_there p (i - 1) before) (value_there p i within) in
        t.each i below
        ∙ ap (λ x. x || differs p.descending (values_of p rows ids) (length old) i) (m.each i within)
        ∙ joined (nat_eq i 0) a b (differs p.descending (values_of p rows ids) (length old) i) told
        ∙ ap (λ x. nat_eq i 0 || not x) (sym (equal_more parts n p (row_of (i - 1)) (row_of i) lt e))

  -- no part yet
  pub first_marked : (marks : List Bool) → IsFirstMarked (length ids) marks → AreMarked parts 0 rows ids marks
  first_marked marks f = record {
    as_many = f.as_many;
    each = λ i within. f.each i within ∙ or_none (nat_eq i 0);
  }

ends_with : (x d : ℕ) (xs : List ℕ) → get_or (xs ++ x ∷ []) (length xs) d ≡ x
ends_with x d [] = refl
ends_with x d (y ∷ xs) = ends_with x d xs

at_end : (k x : ℕ) (xs : List ℕ) → length xs ≡ k → get_or (xs ++ x ∷ []) k 0 ≡ x
at_end k x xs e = ap (λ n. get_or (xs ++ x ∷ []) n 0) (sym e) ∙ ends_with x 0 xs

before_end : (i x : ℕ) (xs : List ℕ) → i < length xs → get_or (xs ++ x ∷ []) i 0 ≡ get_or xs i 0
before_end i x [] lt = absurd (omega (arith, lt))
before_end zero x (y ∷ xs) lt = refl
before_end (suc i) x (y ∷ xs) lt = before_end i x xs (omega (arith, lt))

longer : (x : ℕ) (xs : List ℕ) → length (xs ++ x ∷ []) ≡ length xs + 1
longer x [] = refl
longer x (y ∷ xs) = omega (arith, longer x xs)

is_before_or : (i n : ℕ) → (i < n) ⊎ (n ≤ i)
is_before_or zero zero = inr (omega arith)
is_before_or zero (suc n) = inl (omega arith)
is_before_or (suc i) zero = inr (omega arith)
is_before_or (suc i) (suc n) = elim (is_before_or i n) [ inl k ↦ inl (omega (arith, k)) | inr k ↦ inr (omega (arith, k)) ]

other : (i n : ℕ) → i < n + 1 → (i ≡ n → ⊥) → i < n
other i n lt h = elim (is_before_or i n) [ inl k ↦ k | inr k ↦ absurd (h (omega (arith, lt, k))) ]

module _ (parts : List Part) (rows : List (List Value)) (ids : List ℕ) (o : IsOrder parts rows ids) where
  one_more : (n place count : ℕ) (new : Bool) → new ≡ is_new (take n parts) rows ids place → place < length ids → (count ≤ place) × AreSeen parts n rows ids place count
      → (counted new count ≤ place + 1) × AreSeen parts n rows ids (place + 1) (counted new count)
  one_more n place count true e lt s = new_taken parts n rows ids o place count lt (sym e) s
  one_more n place count false e lt s = old_passed parts n rows ids o place count (sym e) s

  marked_first : (m : Bool) (ms : List Bool) (count : ℕ) → counted m count + count_marked ms ≡ count + count_marked (m ∷ ms)
  marked_first true ms count = omega arith
  marked_first false ms count = omega arith

  -- the marks from a place on count the keys that weren't seen before it
  seen_from : (n : ℕ) (marks : List Bool) (place count : ℕ) → place + length marks ≡ length ids
      → ((i : ℕ) → i < length marks → get_or marks i false ≡ is_new (take n parts) rows ids (place + i)) → (count ≤ place) × AreSeen parts n rows ids place count
      → AreSeen parts n rows ids (length ids) (count + count_marked marks)
  seen_from n [] place count e each s =
      let end : place ≡ length ids = omega (arith, e) in
      let same : count ≡ count + count_marked [] = omega arith in
      subst (λ k. AreSeen parts n rows ids (length ids) k) same (subst (λ k. AreSeen parts n rows ids k count) end s.1)
  seen_from n (m ∷ ms) place count e each s =
      let lt : place < length ids = omega (arith, e) in
      let here : place + 0 ≡ place = omega arith in
      let told : m ≡ is_new (take n parts) rows ids place = each 0 (omega arith) ∙ ap (is_new (take n parts) rows ids) here in
      subst (λ k. AreSeen parts n rows ids (length ids) k) (marked_first m ms count)
      (seen_from n ms (place + 1) (counted m count) (omega (arith, e))
      (λ i within. let next : place + suc i ≡ place + 1 + i = omega arith in each (suc i) (omega (arith, within)) ∙ ap (is_new (take n parts) rows ids) next)
      (one_more n place count m told lt s))

  pub all_counted : (n : ℕ) (marks : List Bool) → AreMarked parts n rows ids marks → HasDifferent (fronts parts n rows) (count_marked marks)
  all_counted n marks m =
      let zero_more : 0 + count_marked marks ≡ count_marked marks = omega arith in
      subst (HasDifferent (fronts parts n rows)) zero_more
      (ended parts n rows ids o (length ids) (0 + count_marked marks) refl
      (seen_from n marks 0 0 (omega (arith, m.as_many))
      (λ i within. let same : 0 + i ≡ i = omega arith in m.each i (omega (arith, within, m.as_many)) ∙ ap (is_new (take n parts) rows ids) (sym same))
      (omega arith, none_yet parts n rows ids o)))

-- the number of one part more
pub different_last : (parts : List Part) (rows : List (List Value)) (n count : ℕ) (old new : List ℕ) → HasDifferent (fronts parts (n + 1) rows) count → AreDifferentTo parts rows n old
    → new ≡ old ++ count ∷ [] → AreDifferentTo parts rows (n + 1) new
different_last parts rows n count old new h d e = subst (AreDifferentTo parts rows (n + 1)) (sym e) (record {
  as_many = omega (arith, longer count old, d.as_many);
  each = λ i lt. elim (is_here i n) [
    | inl at ↦ subst (λ k. HasDifferent (fronts parts (k + 1) rows) (get_or (old ++ count ∷ []) k 0)) (sym at)
        (subst (HasDifferent (fronts parts (n + 1) rows)) (sym (at_end n count old d.as_many)) h)
    | inr h ↦ subst (HasDifferent (fronts parts (i + 1) rows)) (sym (before_end i count old (omega (arith, lt, d.as_many, other i n lt h)))) (d.each i (other i n lt h))
  ];
})

-- the same by marks
pub different_more : (parts : List Part) (rows : List (List Value)) (ids : List ℕ) → IsOrder parts rows ids → (n count : ℕ) (marks : List Bool) (old new : List ℕ) → AreMarked parts (n + 1) rows ids marks
    → count ≡ count_marked marks → AreDifferentTo parts rows n old → new ≡ old ++ count ∷ [] → AreDifferentTo parts rows (n + 1) new
different_more parts rows ids o n count marks old new m is d e =
    different_last parts rows n count old new (subst (HasDifferent (fronts parts (n + 1) rows)) (sym is) (all_counted parts rows ids o (n + 1) marks m)) d e

-- a list that is written over as a whole
pub written_over : {X : Type 0} (n : ℕ) (old new : List X) → n ≡ length old → length new ≡ length old → take n (new ++ drop (length new) old) ≡ new
written_over n old new e f =
    ap (λ l. take n (new ++ l)) (drop_all (length new) old (omega (arith, f))) ∙ ap (take n) (append-nil new) ∙ take_all n new (omega (arith, e, f))

-- ---- values

-- the row with an id that is there
pub row_there : (rows : List (List Value)) (id : ℕ) (d : List Value) → id < length rows → get_or rows id d ≡ row_at rows id
row_there rows id d lt = get_or_default rows id d [] lt ∙ sym (unwrap_or-slice_get rows id [])

-- one value more
pub values_more : (p : Part) (rows : List (List Value)) (ids : List ℕ) (n : ℕ) (v : Value) (values after : List Value) → n < length ids → v ≡ part_value p (row_at rows (get_or ids n 0))
    → values ≡ values_of p rows (take n ids) → after ≡ values ++ v ∷ [] → after ≡ values_of p rows (take (n + 1) ids)
values_more p rows ids n v values after lt is h e =
    e ∙ ap₂ (λ l x. l ++ x ∷ []) h is
    ∙ sym (map-append (λ id. part_value p (row_at rows id)) (take n ids) (get_or ids n 0 ∷ []))
    ∙ ap (λ l. values_of p rows l) (sym (take_more ids n 0 lt))
