-- Rows of which each is before the next one by its key: their ids rise in the order of entries, and no key comes again.
use Rattle.std.proofs.Common.{◌≡◌, ◌⊎◌, inl, inr, ℕ, zero, suc, ◌+◌, ◌-◌, ◌<◌, ◌≤◌, Bool, true, false, not, ◌&&◌, ◌||◌, nat_eq, List, [], ◌∷◌, length, map, take, get_or, None, refl, sym, ap, ap₂, ◌∙◌, subst, arith}
use Rattle.std.specs.declared.cmp.Ordering.{Ordering}
use Rattle.std.specs.declared.cmp.Ordering.TheVariants.{Less, Equal, Greater}
use Rattle.std.specs.Ordering.{ordering_then, ordering_reverse, is_lt, is_eq, nat_cmp}
use Rattle.std.specs.List.{range_with_len}
use Rattle.std.proofs.lemmas.List.{get_or_default, get_or-map, length-map, take_all}
use Rattle.std.proofs.lemmas.List.Sorted.{IsPermutation-refl}
use Rattle.std.proofs.lemmas.List.FromFn.{length-range_with_len, get_or-range_with_len}
use Rattle.std.proofs.lemmas.Option.{unwrap_or-slice_get}
use Rattle.rx_value.specs.declared.values.Value.{Value}
use Rattle.rx_value.specs.declared.shapes.Part.{Part}
use Rattle.rx_value.specs.declared.shapes.Index.{Index}
use Rattle.rx_value.proofs.KeyOrder.{by_key, by_key_total}
use Rattle.rx_index.specs.Entries.{row_at, entry_cmp, IsOrder}
use Rattle.rx_index.specs.Duplicates.{IsFirst, Repeats, RepeatsUnique}
use Rattle.rx_index.specs.Steps.{pairs_up, IsFound}
use Rattle.rx_index.specs.Different.{HasDifferent, fronts}
use Rattle.rx_index.specs.Marks.{is_new, count_marked, AreMarked, DoRise}
use Rattle.rx_index.proofs.Marking.{all_counted}
use Rattle.rx_index.proofs.Repeating.{ended}

-- ---- the test of rows one behind the other

module _ (parts : List Part) (rows : List (List Value)) where
  abbrev Rises : ℕ → Type 0
  Rises place = (k : ℕ) → k + 1 < place → is_lt (by_key parts (get_or rows k []) (get_or rows (k + 1) [])) ≡ true

  last_or : (k place : ℕ) → k + 1 < place + 1 → (k + 1 < place) ⊎ (k + 1 ≡ place)
  last_or zero zero h = absurd (omega (arith, h))
  last_or zero (suc zero) h = inr refl
  last_or zero (suc (suc p)) h = inl (omega arith)
  last_or (suc k) zero h = absurd (omega (arith, h))
  last_or (suc k) (suc p) h = elim (last_or k p (omega (arith, h))) [ inl l ↦ inl (omega (arith, l)) | inr e ↦ inr (omega (arith, e)) ]

  pub rises_more : (place : ℕ) (a b : List Value) → 1 ≤ place → place < length rows → a ≡ get_or rows (place - 1) a → b ≡ get_or rows place b → is_lt (by_key parts a b) ≡ true → Rises place → Rises (place + 1)
  rises_more place a b le lt e f h s k l = elim (last_or k place l) [
    | inl m ↦ s k m
    | inr n ↦
        let first : get_or rows k [] ≡ a = ap (λ i. get_or rows i []) (omega (arith, n)) ∙ get_or_default rows (place - 1) [] a (omega (arith, le, lt)) ∙ sym e in
        let second : get_or rows (k + 1) [] ≡ b = ap (λ i. get_or rows i []) n ∙ get_or_default rows place [] b lt ∙ sym f in
        ap₂ (λ x y. is_lt (by_key parts x y)) first second ∙ h
  ]

  pub all_rise : (place : ℕ) → length rows ≤ place → Rises place → DoRise parts rows
  all_rise place le s = λ k lt. s k (omega (arith, lt, le))

-- ---- what holds of such rows

less_of : (o : Ordering) → is_lt o ≡ true → o ≡ Less
less_of Less e = refl
less_of Equal e = absurd (cc e)
less_of Greater e = absurd (cc e)

behind : (o p tail : Ordering) → p ≡ ordering_reverse o → is_lt o ≡ true → is_lt (ordering_then p tail) ≡ false
behind Less p tail e h = ap (λ x. is_lt (ordering_then x tail)) e
behind Equal p tail e h = absurd (cc h)
behind Greater p tail e h = absurd (cc h)

not_equal : (o : Ordering) → is_lt o ≡ true → is_eq o ≡ false
not_equal Less h = refl
not_equal Equal h = absurd (cc h)
not_equal Greater h = absurd (cc h)

apart_by : (b c : Bool) → b ≡ false → b && c ≡ false
apart_by true c e = absurd (cc e)
apart_by false c e = refl

any_or : (b c : Bool) → c ≡ true → b || c ≡ true
any_or true c e = refl
any_or false c e = e

is_zero : (i : ℕ) → (nat_eq i 0 ≡ true) ⊎ (0 < i)
is_zero zero = inl refl
is_zero (suc i) = inr (omega arith)

abbrev all_true : ℕ → List Bool
all_true n = map (λ _. true) (range_with_len 0 n)

count_true : (xs : List ℕ) → count_marked (map (λ _. true) xs) ≡ length xs
count_true [] = refl
count_true (x ∷ xs) = ap suc (count_true xs)

module _ (parts : List Part) (rows : List (List Value)) (rise : DoRise parts rows) where
  abbrev ids : List ℕ
  ids = range_with_len 0 (length rows)

  row_there : (i : ℕ) → i < length rows → row_at rows i ≡ get_or rows i []
  row_there i lt = unwrap_or-slice_get rows i []

  id_at : (i d : ℕ) → i < length rows → get_or ids i d ≡ i
  id_at i d lt = omega (arith, get_or-range_with_len 0 (length rows) i d lt)

  before : (k : ℕ) → k + 1 < length rows → is_lt (by_key parts (row_at rows k) (row_at rows (k + 1))) ≡ true
  before k lt = ap₂ (λ r s. is_lt (by_key parts r s)) (row_there k (omega (arith, lt))) (row_there (k + 1) lt) ∙ rise k lt

  pub risen_order : IsOrder parts rows ids
  risen_order = record {
    each = IsPermutation-refl ids;
    rising = λ k d lo lt.
        let n : k + 1 < length rows = omega (arith, lt, length-range_with_len 0 (length rows)) in
        ap₂ (λ x y. is_lt (entry_cmp parts rows x y)) (id_at (k + 1) d n) (id_at k d (omega (arith, n)))
        ∙ behind (by_key parts (row_at rows k) (row_at rows (k + 1))) (by_key parts (row_at rows (k + 1)) (row_at rows k)) (nat_cmp (k + 1) k)
        ((by_key_total parts).antisymm (row_at rows (k + 1)) (row_at rows k)) (before k n);
  }

  key_apart : (i : ℕ) → 0 < i → i < length rows → is_eq (by_key parts (row_at rows (get_or ids (i - 1) 0)) (row_at rows (get_or ids i 0))) ≡ false
  key_apart i some lt =
      let last : i - 1 + 1 ≡ i = omega (arith, some) in
      let h : is_lt (by_key parts (row_at rows (i - 1)) (row_at rows i)) ≡ true = subst (λ k. is_lt (by_key parts (row_at rows (i - 1)) (row_at rows k)) ≡ true) last (before (i - 1) (omega (arith, some, lt))) in
      ap₂ (λ x y. is_eq (by_key parts (row_at rows x) (row_at rows y))) (id_at (i - 1) 0 (omega (arith, lt))) (id_at i 0 lt) ∙ not_equal _ h

  none_found : (row : ℕ) → IsFound parts rows ids (length ids) row → ⊥
  none_found row f =
      let within : f.at < length rows = omega (arith, f.within, length-range_with_len 0 (length rows)) in
      let apart : pairs_up parts rows (get_or ids (f.at - 1) 0) (get_or ids f.at 0) ≡ false = apart_by _ _ (key_apart f.at (omega (arith, f.behind)) within) in
      absurd (cc (f.pairs, subst (λ n. pairs_up parts rows (get_or ids (f.at - 1) 0) n ≡ false) (sym f.row_is) apart))

  none_repeats : (row : ℕ) → Repeats parts rows row → ⊥
  none_repeats = ended parts rows ids risen_order (length ids) None (omega arith) none_found

  new_at : (i : ℕ) → i < length rows → is_new (take (length parts) parts) rows ids i ≡ true
  new_at i lt =
      ap (λ ps. is_new ps rows ids i) (take_all (length parts) parts (omega arith))
      ∙ elim (is_zero i) [
        | inl z ↦ ap (λ b. b || not (is_eq (by_key parts (row_at rows (get_or ids (i - 1) 0)) (row_at rows (get_or ids i 0))))) z
        | inr some ↦ any_or (nat_eq i 0) _ (ap not (key_apart i some lt))
      ]

  marked : AreMarked parts (length parts) rows ids (all_true (length rows))
  marked = record {
    as_many = length-map ids (λ _. true);
    each = λ i lt.
        let within : i < length rows = omega (arith, lt, length-range_with_len 0 (length rows)) in
        get_or-map (λ _. true) ids i 0 false lt ∙ sym (new_at i within);
  }

  pub risen_count : HasDifferent (fronts parts (length parts) rows) (length rows)
  risen_count = subst (HasDifferent (fronts parts (length parts) rows)) (count_true ids ∙ length-range_with_len 0 (length rows)) (all_counted parts rows ids risen_order (length parts) (all_true (length rows)) marked)

pub none_risen : (index : Index) (rows : List (List Value)) → DoRise index.parts rows → IsFirst (RepeatsUnique index rows) None
none_risen index rows rise = λ n h. none_repeats index.parts rows rise n h.1
