-- The numbers of records per key.
use Rattle.std.proofs.Common.{◌≡◌, ℕ, ◌+◌, ◌<◌, ◌≤◌, Bool, true, false, not, ◌||◌, cond, List, [], ◌∷◌, length, map, filter, get_or, refl, sym, ap, ap₂, ◌∙◌, arith}
use Rattle.std.specs.List.{AllByRecursion, Contains, IsDistinct, list_any}
use Rattle.std.proofs.lemmas.List.{same_lists, get_or_default}
use Rattle.std.proofs.lemmas.List.Elements.{All-contains}
use Rattle.std.proofs.lemmas.List.FromFn.{length-map-range_with_len, get_or-map-range_with_len}
use Rattle.std.proofs.lemmas.Map.Keys.{IsDistinct-from_apart}
use Rattle.std.proofs.lemmas.Map.Made.{length-le_from_is_member}
use Rattle.std.proofs.lemmas.Map.Views.{Contains-from_any, list_any-from_Contains, any-filter_same}
use Rattle.rx_value.specs.declared.values.Value.{Value}
use Rattle.rx_value.specs.declared.shapes.Part.{Part}
use Rattle.rx_value.specs.declared.shapes.Index.{Index}
use Rattle.rx_index.specs.declared.indexed.Indexed.{Indexed}
use Rattle.rx_group.specs.Classes.{same_values, firsts}
use Rattle.rx_group.specs.OrderLaws.{values_equiv}
use Rattle.rx_index.specs.Different.{HasDifferent, fronts, AreDifferent, AreAllDifferent}
use Rattle.rx_stats.specs.Computed.{per_key, AreNumbers, AreComputed, IsComputed}
use Rattle.rx_load.specs.Loaded.{different, counts_of}
use Rattle.rx_load.specs.Numbers.{numbers_of, statistics_of}
use Rattle.rx_load.proofs.Firsts.{same_values-equal}

abbrev Keys : Type 0
Keys = List (List Value)

abbrev once : Keys → Keys
once keys = firsts (λ (key : List Value). key) keys

abbrev apart_from : List Value → List Value → Bool
apart_from k other = not (same_values k other)

-- ---- the first of each key

kept_all : (P : List Value → Type 0) (p : List Value → Bool) (ks : Keys) → AllByRecursion P ks → AllByRecursion P (filter p ks)
kept_all P p [] h = tt
kept_all P p (k ∷ ks) h = by_test (p k) (kept_all P p ks h.1)
  where
    by_test : (b : Bool) → AllByRecursion P (filter p ks) → AllByRecursion P (cond b (k ∷ filter p ks) (filter p ks))
    by_test true r = (h.0, r)
    by_test false r = r

kept_distinct : (p : List Value → Bool) (ks : Keys) → IsDistinct same_values ks → IsDistinct same_values (filter p ks)
unfolding IsDistinct
kept_distinct p [] h = tt
kept_distinct p (k ∷ ks) h = by_test (p k) (kept_distinct p ks h.1)
  where
    by_test : (b : Bool) → IsDistinct same_values (filter p ks) → IsDistinct same_values (cond b (k ∷ filter p ks) (filter p ks))
    by_test true r = (kept_all (λ y. same_values k y ≡ false) p ks h.0, r)
    by_test false r = r

others_differ : (k : List Value) (ks : Keys) → AllByRecursion (λ y. same_values k y ≡ false) (filter (apart_from k) ks)
others_differ k [] = tt
others_differ k (y ∷ ks) = by_test (same_values k y) refl (others_differ k ks)
  where
    by_test : (b : Bool) → same_values k y ≡ b → AllByRecursion (λ z. same_values k z ≡ false) (filter (apart_from k) ks) → AllByRecursion (λ z. same_values k z ≡ false) (cond (not b) (y ∷ filter (apart_from k) ks) (filter (apart_from k) ks))
    by_test true e r = r
    by_test false e r = (e, r)

once_distinct : (keys : Keys) → IsDistinct same_values (once keys)
unfolding IsDistinct
once_distinct [] = tt
once_distinct (k ∷ keys) = (others_differ k (once keys), kept_distinct (apart_from k) (once keys) (once_distinct keys))

once_has : (q : List Value) (keys : Keys) → list_any (same_values q) (once keys) ≡ list_any (same_values q) keys
once_has q [] = refl
once_has q (k ∷ keys) = by_test (same_values q k) refl (once_has q keys)
  where
    differs : same_values q k ≡ false → (y : List Value) → same_values q y ≡ true → apart_from k y ≡ true
    differs e y same = ap not (values_equiv.symm k y ∙ sym (values_equiv.congr q y k same) ∙ e)

    by_test : (b : Bool) → same_values q k ≡ b → list_any (same_values q) (once keys) ≡ list_any (same_values q) keys
        → (b || list_any (same_values q) (filter (apart_from k) (once keys))) ≡ (b || list_any (same_values q) keys)
    by_test true e h = refl
    by_test false e h = any-filter_same (same_values q) (apart_from k) true (differs e) (once keys) ∙ h

-- ---- how many keys differ

no_same : (a b : List Value) (t : Bool) → same_values a b ≡ t → (a ≡ b → ⊥) → t ≡ false
no_same a b true e differ = absurd (differ (same_values-equal a b e))
no_same a b false e differ = refl

le_both : (m n : ℕ) → m ≤ n → n ≤ m → m ≡ n
le_both m n h k = omega (arith, h, k)

-- there is one number of different keys
pub count_is : (keys : Keys) (count : ℕ) → HasDifferent keys count → count ≡ length (once keys)
count_is keys count s =
    sym s.count_is
    ∙ le_both (length s.each) (length (once keys))
    (length-le_from_is_member values_equiv s.each (once keys) each_distinct (λ q h. once_has q keys ∙ of_keys q h))
    (length-le_from_is_member values_equiv (once keys) s.each (once_distinct keys) (λ q h. all q (sym (once_has q keys) ∙ h)))
  where
    each_distinct : IsDistinct same_values s.each
    each_distinct = IsDistinct-from_apart same_values s.each (λ i j d ij jn. no_same (get_or s.each i d) (get_or s.each j d) _ refl (s.apart i j d ij jn))

    of_keys : (q : List Value) → list_any (same_values q) s.each ≡ true → list_any (same_values q) keys ≡ true
    of_keys q h = list_any-from_Contains values_equiv q keys (All-contains (Contains keys) s.each q s.of_keys (Contains-from_any same_values-equal q s.each h))

    all : (q : List Value) → list_any (same_values q) keys ≡ true → list_any (same_values q) s.each ≡ true
    all q h = list_any-from_Contains values_equiv q s.each (All-contains (Contains s.each) keys q s.all (Contains-from_any same_values-equal q keys h))

counts_are : (parts : List Part) (rows : List (List Value)) (counts : List ℕ) → AreDifferent parts rows counts → counts ≡ counts_of parts rows
counts_are parts rows counts s =
    same_lists counts (counts_of parts rows) (s.as_many ∙ sym (length-map-range_with_len (different parts rows) 1 (length parts))) (λ k d lt.
    let within : k < length parts = omega (arith, lt, s.as_many) in
    get_or_default counts k d 0 lt
    ∙ count_is (fronts parts (k + 1) rows) (get_or counts k 0) (s.each k within)
    ∙ sym (get_or-map-range_with_len (different parts rows) 1 (length parts) k (k + 1) d within (omega arith)))

-- indexes have one list of numbers of different keys
pub all_counts_are : (indexes : List Index) (rows : List (List Value)) (counts : List (List ℕ)) → AreAllDifferent indexes rows counts → counts ≡ map (λ index. counts_of index.parts rows) indexes
all_counts_are [] rows [] h = refl
all_counts_are [] rows (one ∷ counts) h = absurd h
all_counts_are (index ∷ indexes) rows [] h = absurd h
all_counts_are (index ∷ indexes) rows (one ∷ counts) h = ap₂ (λ x xs. x ∷ xs) (counts_are index.parts rows one h.0) (all_counts_are indexes rows counts h.1)

-- ---- numbers

numbers_are : (parts : List Part) (rows : List (List Value)) (numbers : List ℕ) → AreNumbers parts rows numbers → numbers ≡ numbers_of parts rows
numbers_are parts rows numbers s =
    let number = λ (n : ℕ). per_key (length rows) (different parts rows n) in
    same_lists numbers (numbers_of parts rows) (s.as_many ∙ sym (length-map-range_with_len number 1 (length parts))) (λ k d lt.
    let within : k < length parts = omega (arith, lt, s.as_many) in
    let one = s.each k within in
    get_or_default numbers k d 0 lt
    ∙ one.number_is
    ∙ ap (per_key (length rows)) (count_is (fronts parts (k + 1) rows) one.different one.has)
    ∙ sym (get_or-map-range_with_len number 1 (length parts) k (k + 1) d within (omega arith)))

computed_are : (indexes : List Index) (rows : List (List Value)) (statistics : List (List ℕ)) → AreComputed indexes rows statistics → statistics ≡ map (λ index. numbers_of index.parts rows) indexes
computed_are [] rows [] h = refl
computed_are [] rows (numbers ∷ statistics) h = absurd h
computed_are (index ∷ indexes) rows [] h = absurd h
computed_are (index ∷ indexes) rows (numbers ∷ statistics) h = ap₂ (λ x xs. x ∷ xs) (numbers_are index.parts rows numbers h.0) (computed_are indexes rows statistics h.1)

-- a table has one list of statistics
pub statistics_are : (t : Indexed) (statistics : List (List ℕ)) → IsComputed t statistics → statistics ≡ statistics_of t
statistics_are t statistics h = computed_are t.schema.indexes t.rows statistics h
