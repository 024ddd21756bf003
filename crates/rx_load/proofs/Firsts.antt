-- The first duplicate is the first row that repeats a key, by the first index on which it does.
use Rattle.std.proofs.Common.{◌≡◌, ◌⊎◌, inl, inr, ℕ, zero, suc, ◌<◌, ◌≤◌, Bool, true, false, not, ◌&&◌, cond, List, [], ◌∷◌, ◌++◌, length, get_or, slice_get, position, nat_lt, Option, Some, None, refl, sym, ap, ap₂, subst, ◌∙◌, arith}
use Rattle.std.specs.declared.cmp.Ordering.{Ordering}
use Rattle.std.specs.declared.cmp.Ordering.TheVariants.{Less, Equal, Greater}
use Rattle.std.specs.Ordering.{ordering_then, is_eq}
use Rattle.std.specs.List.{list_any, position_or_len}
use Rattle.std.proofs.lemmas.List.{append_assoc, append-nil, length-append}
use Rattle.std.proofs.lemmas.List.Folds.{Any-from_list_any, list_any_at}
use Rattle.std.proofs.lemmas.List.Sums.{position_or_len_is}
use Rattle.std.proofs.lemmas.Option.{slice_get-get_or, slice_get_within, get_or_from_slice_get}
use Rattle.std.proofs.lemmas.Bool.{lt-ltb}
use Rattle.rx_value.specs.declared.values.Value.{Value}
use Rattle.rx_value.specs.declared.shapes.Part.{Part}
use Rattle.rx_value.specs.declared.shapes.Index.{Index}
use Rattle.rx_value.specs.declared.shapes.Schema.{Schema}
use Rattle.rx_value.specs.Keys.{key_of}
use Rattle.rx_value.specs.Order.{value_cmp}
use Rattle.rx_value.proofs.Equal.{value_cmp-equal}
use Rattle.rx_index.specs.declared.faults.IndexFault.{IndexFault}
use Rattle.rx_index.specs.declared.faults.IndexFault.TheVariants.{DuplicateKey, NoMemory}
use Rattle.rx_index.specs.Entries.{row_at}
use Rattle.rx_index.specs.Duplicates.{is_null, RepeatsUnique, Breaks, IsFree, IsFirstBreak, CausesFault}
use Rattle.rx_group.specs.Classes.{values_cmp, same_values}
use Rattle.rx_group.specs.OrderLaws.{values_equiv}
use Rattle.rx_load.specs.Duplicates.{Duplicate, repeats, duplicate_behind, first_duplicate, IsFault}

-- ---- equal lists of values

both_equal : (o p : Ordering) → is_eq (ordering_then o p) ≡ true → (o ≡ Equal) × (is_eq p ≡ true)
both_equal Less p e = absurd (cc e)
both_equal Equal p e = (refl, e)
both_equal Greater p e = absurd (cc e)

-- what compares as equal is the same
pub same_values-equal : (a b : List Value) → same_values a b ≡ true → a ≡ b
same_values-equal [] [] e = refl
same_values-equal [] (v ∷ b) e = absurd (cc e)
same_values-equal (u ∷ a) [] e = absurd (cc e)
same_values-equal (u ∷ a) (v ∷ b) e =
    let h = both_equal (value_cmp u v) (values_cmp a b) e in
    ap₂ (λ x xs. x ∷ xs) (value_cmp-equal u v h.0) (same_values-equal a b h.1)

-- ---- rows before and at a place

both_true : (b c : Bool) → b && c ≡ true → (b ≡ true) × (c ≡ true)
both_true true true e = (refl, refl)
both_true true false e = absurd (cc e)
both_true false c e = absurd (cc e)

negated : (b : Bool) → not b ≡ true → b ≡ false
negated true e = absurd (cc e)
negated false e = refl

row_here : (earlier : List (List Value)) (row : List Value) (rows : List (List Value)) → row_at (earlier ++ row ∷ rows) (length earlier) ≡ row
row_here [] row rows = refl
row_here (first ∷ earlier) row rows = row_here earlier row rows

row_before : (earlier behind : List (List Value)) (i : ℕ) (d : List Value) → i < length earlier → row_at (earlier ++ behind) i ≡ get_or earlier i d
row_before [] behind i d lt = absurd (omega (arith, lt))
row_before (first ∷ earlier) behind zero d lt = refl
row_before (first ∷ earlier) behind (suc i) d lt = row_before earlier behind i d (omega (arith, lt))

module _ (earlier : List (List Value)) (row : List Value) (rows : List (List Value)) where
  abbrev all : List (List Value)
  all = earlier ++ row ∷ rows

  abbrev has_key : List Part → List Value → Bool
  has_key parts first = same_values (key_of parts first) (key_of parts row)

  within : length earlier < length all
  within = omega (arith, length-append earlier (row ∷ rows))

  -- the test finds what repeats a key
  pub found : (index : Index) → repeats earlier row index ≡ true → RepeatsUnique index all (length earlier)
  found index e =
      let one = both_true index.unique _ e in
      let two = both_true (not (list_any is_null (key_of index.parts row))) (list_any (has_key index.parts) earlier) one.1 in
      let any = Any-from_list_any (has_key index.parts) earlier two.1 in
      let here = row_here earlier row rows in
      let before = row_before earlier (row ∷ rows) any.0 any.1 any.2 in (
        one.0,
        record {
          there = within;
          full = ap (λ r. list_any is_null (key_of index.parts r)) here ∙ negated (list_any is_null (key_of index.parts row)) two.0;
          earlier = (
            any.0,
            any.2,
            ap (key_of index.parts) (before ∙ any.3) ∙ same_values-equal (key_of index.parts any.1) (key_of index.parts row) any.4 ∙ sym (ap (key_of index.parts) here),
          );
        },
      )

  -- and all of it
  pub sought : (index : Index) → RepeatsUnique index all (length earlier) → repeats earlier row index ≡ true
  sought index (unique, r) =
      let here = row_here earlier row rows in
      let first = r.earlier.0 in
      let before = row_before earlier (row ∷ rows) first [] r.earlier.1 in
      let same : key_of index.parts (get_or earlier first []) ≡ key_of index.parts row = ap (key_of index.parts) (sym before) ∙ r.earlier.2 ∙ ap (key_of index.parts) here in
      let any : list_any (has_key index.parts) earlier ≡ true =
      list_any_at (has_key index.parts) earlier first [] r.earlier.1 (ap (λ k. same_values k (key_of index.parts row)) same ∙ values_equiv.refl (key_of index.parts row)) in
      let full : list_any is_null (key_of index.parts row) ≡ false = ap (λ x. list_any is_null (key_of index.parts x)) (sym here) ∙ r.full in
      ap₂ (λ b c. b && c) unique (ap₂ (λ b c. not b && c) full any)

-- ---- the first place

not_true : (b : Bool) → (b ≡ true → ⊥) → b ≡ false
not_true true h = absurd (h refl)
not_true false h = refl

not_below : (n : ℕ) → nat_lt n n ≡ false
not_below n = grind arith

none_passes : {X : Type 0} (test : X → Bool) (xs : List X) → ((n : ℕ) (x : X) → slice_get xs n ≡ Some x → test x ≡ true → ⊥) → position test xs ≡ None
none_passes test [] h = refl
none_passes test (x ∷ xs) h =
    let all = x ∷ xs in
    let none : position_or_len test all ≡ length all =
    position_or_len_is test all (length all) x (omega arith) (λ k lt. not_true _ (λ e. h k (get_or all k x) (slice_get-get_or all k x lt) e)) (λ lt. absurd (omega (arith, lt))) in
    ap (λ n. cond (nat_lt n (length all)) (Some n) None) none ∙ ap (λ b. cond b (Some (length all)) None) (not_below (length all))

one_passes : {X : Type 0} (test : X → Bool) (xs : List X) (n : ℕ) (x : X) → slice_get xs n ≡ Some x → test x ≡ true → ((m : ℕ) (y : X) → slice_get xs m ≡ Some y → test y ≡ true → n ≤ m) → position test xs ≡ Some n
one_passes test xs n x at e h =
    let lt : n < length xs = slice_get_within xs n x at in
    let before = λ (k : ℕ) (less : k < n). not_true (test (get_or xs k x)) (λ f. let le : n ≤ k = h k (get_or xs k x) (slice_get-get_or xs k x (omega (arith, less, lt))) f in omega (arith, le, less)) in
    let first : position_or_len test xs ≡ n = position_or_len_is test xs n x (omega (arith, lt)) before (λ l. ap test (get_or_from_slice_get xs n x x at) ∙ e) in
    ap (λ k. cond (nat_lt k (length xs)) (Some k) None) first ∙ ap (λ b. cond b (Some n) None) (lt-ltb n (length xs) lt)

-- ---- the first row

abbrev chosen : ℕ → Option Duplicate → Option ℕ → Option Duplicate
chosen row rest place = elim place [ Some index ↦ Some (record { index = index; row = row }) | None ↦ rest ]

one_more : (earlier : List (List Value)) (row : List Value) (rows : List (List Value)) → (earlier ++ row ∷ []) ++ rows ≡ earlier ++ row ∷ rows
one_more earlier row rows = append_assoc earlier (row ∷ []) rows

none_behind : (indexes : List Index) (earlier rows : List (List Value)) → ((n row : ℕ) → Breaks indexes (earlier ++ rows) n row → ⊥) → duplicate_behind indexes earlier rows ≡ None
none_behind indexes earlier [] h = refl
none_behind indexes earlier (row ∷ rows) h =
    ap (chosen (length earlier) (duplicate_behind indexes (earlier ++ row ∷ []) rows))
    (none_passes (repeats earlier row) indexes (λ n index at e. h n (length earlier) (index, at, found earlier row rows index e)))
    ∙ none_behind indexes (earlier ++ row ∷ []) rows (λ n place b. h n place (subst (λ l. Breaks indexes l n place) (one_more earlier row rows) b))

either : (a b : ℕ) → a ≤ b → (a ≡ b) ⊎ (a < b)
either zero zero le = inl refl
either zero (suc b) le = inr (omega arith)
either (suc a) zero le = absurd (omega (arith, le))
either (suc a) (suc b) le = elim (either a b (omega (arith, le))) [ inl e ↦ inl (ap suc e) | inr l ↦ inr (omega (arith, l)) ]

first_behind : (indexes : List Index) (earlier rows : List (List Value)) (n place : ℕ) → IsFirstBreak indexes (earlier ++ rows) n place → length earlier ≤ place → duplicate_behind indexes earlier rows ≡ Some (record { index = n; row = place })
first_behind indexes earlier [] n place s le =
    let there : place < length (earlier ++ []) = s.breaks.2.1.there in
    absurd (omega (arith, le, there, ap length (append-nil earlier)))
first_behind indexes earlier (row ∷ rows) n place s le = elim (either (length earlier) place le) [
  | inl e ↦ here e
  | inr l ↦ later l (first_behind indexes (earlier ++ row ∷ []) rows n place (subst (λ x. IsFirstBreak indexes x n place) (sym (one_more earlier row rows)) s) (omega (arith, l, length-append earlier (row ∷ []))))
]
  where
    here : length earlier ≡ place → duplicate_behind indexes earlier (row ∷ rows) ≡ Some (record { index = n; row = place })
    here e =
        ap (chosen (length earlier) (duplicate_behind indexes (earlier ++ row ∷ []) rows))
        (one_passes (repeats earlier row) indexes n s.breaks.0 s.breaks.1 (sought earlier row rows s.breaks.0 (subst (RepeatsUnique s.breaks.0 (earlier ++ row ∷ rows)) (sym e) s.breaks.2))
        (λ m index at t. s.least m (subst (λ k. Breaks indexes (earlier ++ row ∷ rows) m k) e (index, at, found earlier row rows index t))))
        ∙ ap (λ k. Some (record { index = n; row = k })) e

    later : length earlier < place → duplicate_behind indexes (earlier ++ row ∷ []) rows ≡ Some (record { index = n; row = place }) → duplicate_behind indexes earlier (row ∷ rows) ≡ Some (record { index = n; row = place })
    later l rest =
        ap (chosen (length earlier) (duplicate_behind indexes (earlier ++ row ∷ []) rows))
        (none_passes (repeats earlier row) indexes (λ m index at t. let k : place ≤ length earlier = s.first m (length earlier) (index, at, found earlier row rows index t) in omega (arith, k, l)))
        ∙ rest

-- where no row repeats a key there is no duplicate
pub none_is : (schema : Schema) (file : List (List Value)) → IsFree schema file → first_duplicate schema file ≡ None
none_is schema file free = none_behind schema.indexes [] file free

-- the first that does is the first duplicate
pub fault_is : (schema : Schema) (file : List (List Value)) (fault : IndexFault) → CausesFault schema file fault → IsFault schema file fault
fault_is schema file (DuplicateKey n row) (place, number, first) = (place, number, first_behind schema.indexes [] file n place first (omega arith))
fault_is schema file NoMemory c = tt
