-- A list in order is the only one where what ties is equal, or stands in it once.
use Rattle.std.proofs.Common.{◌≡◌, ℕ, suc, Bool, true, false, not, ◌&&◌, cond, List, [], ◌∷◌, length, filter, get_or, All, refl, sym, ap, ap₂, ◌∙◌, replicate, arith}
use Rattle.std.specs.declared.cmp.Ordering.{Ordering}
use Rattle.std.specs.declared.cmp.Ordering.TheVariants.{Less, Equal, Greater}
use Rattle.std.specs.Ordering.{ordering_then, ordering_reverse, is_lt, nat_cmp}
use Rattle.std.specs.Cmp.{IsTotalOrder}
use Rattle.std.specs.List.{AllByRecursion, AllPairs, range_with_len}
use Rattle.std.specs.List.Sorted.{IsPermutation, ties}
use Rattle.std.proofs.lemmas.List.Elements.{All-nil, All-cons, recursion_from_All}
use Rattle.std.proofs.lemmas.List.Sorted.{ranks_by, All-permutation, sum_by-IsPermutation}
use Rattle.std.proofs.lemmas.List.Sums.{length-filter}
use Rattle.rx_value.specs.declared.values.Value.{Value}
use Rattle.rx_value.specs.declared.shapes.Part.{Part}
use Rattle.rx_value.specs.Keys.{key_of}
use Rattle.rx_value.proofs.KeyOrder.{by_key, by_key_total}
use Rattle.rx_index.specs.Entries.{row_at, entry_cmp, IsOrder, IsByKey}
use Rattle.rx_index.proofs.Sorting.{entry_total}
use Rattle.rx_index.proofs.Repeating.{key_equal}
use Rattle.rx_order.specs.Stable.{ordered}
use Rattle.rx_order.proofs.Stable.{sorted_is}
use Rattle.rx_load.specs.Loaded.{is_key_before, is_entry_before, entries}

module _ {X : Type 0} (p : X → Bool) where
  all_one : (v : X) (xs : List X) → AllByRecursion (λ x. p x ≡ true → x ≡ v) xs → filter p xs ≡ replicate (length (filter p xs)) v
  all_one v [] h = refl
  all_one v (x ∷ xs) h = by_test (p x) refl (all_one v xs h.1)
    where
      by_test : (b : Bool) → p x ≡ b → filter p xs ≡ replicate (length (filter p xs)) v → cond b (x ∷ filter p xs) (filter p xs) ≡ replicate (length (cond b (x ∷ filter p xs) (filter p xs))) v
      by_test true e k = ap₂ (λ y ys. y ∷ ys) (h.0 e) k
      by_test false e k = k

  -- where all that pass are one element, as many pass in another order
  pub same_kept : (v : X) (xs ys : List X) → IsPermutation xs ys → All (λ x. p x ≡ true → x ≡ v) xs → filter p ys ≡ filter p xs
  same_kept v xs ys s h =
      all_one v ys (recursion_from_All (λ x. p x ≡ true → x ≡ v) ys (All-permutation (λ x. p x ≡ true → x ≡ v) xs ys s h))
      ∙ ap (λ n. replicate n v) (length-filter p ys ∙ sum_by-IsPermutation (λ x. cond (p x) 1 0) xs ys s ∙ sym (length-filter p xs))
      ∙ sym (all_one v xs (recursion_from_All (λ x. p x ≡ true → x ≡ v) xs h))

  -- where no two pass, all that pass are one element
  pub at_most_one : (other : X) (xs : List X) → AllPairs (λ x y. p x ≡ true → p y ≡ true → ⊥) xs → (v : X) × All (λ x. p x ≡ true → x ≡ v) xs
  at_most_one other [] h = (other, All-nil (λ x. p x ≡ true → x ≡ other))
  at_most_one other (x ∷ xs) h = by_test (p x) refl (at_most_one other xs (λ i j d ij jn. h (suc i) (suc j) d (omega (arith, ij)) (omega (arith, jn))))
    where
      by_test : (b : Bool) → p x ≡ b → (v : X) × All (λ y. p y ≡ true → y ≡ v) xs → (v : X) × All (λ y. p y ≡ true → y ≡ v) (x ∷ xs)
      by_test true e r = (x, All-cons (λ y. p y ≡ true → y ≡ x) x xs (λ q. refl) (λ k d lt q. absurd (h 0 (suc k) d (omega arith) (omega (arith, lt)) e q)))
      by_test false e r = (r.0, All-cons (λ y. p y ≡ true → y ≡ r.0) x xs (λ q. absurd (cc (e, q))) r.1)

neither : (k l : Ordering) → l ≡ ordering_reverse k → (not (is_lt k) && not (is_lt l)) ≡ true → k ≡ Equal
neither Less l e h = absurd (cc h)
neither Equal l e h = refl
neither Greater l e h = absurd (cc (e, h))

-- what ties by a total order is equal by it
tie_equal : {X : Type 0} (cmp : X → X → Ordering) → IsTotalOrder cmp → (x y : X) → ties (λ a b. is_lt (cmp a b)) x y ≡ true → cmp x y ≡ Equal
tie_equal cmp o x y e = neither (cmp x y) (cmp y x) (o.antisymm y x) e

then_equal : (k l : Ordering) → ordering_then k l ≡ Equal → l ≡ Equal
then_equal Less l e = absurd (cc e)
then_equal Equal l e = e
then_equal Greater l e = absurd (cc e)

nat_same : (a b : ℕ) → nat_cmp a b ≡ Equal → a ≡ b
nat_same a b e = grind arith

same_id : (parts : List Part) (rows : List (List Value)) (a b : ℕ) → ties (is_entry_before parts rows) a b ≡ true → b ≡ a
same_id parts rows a b e =
    sym (nat_same a b (then_equal (by_key parts (row_at rows a) (row_at rows b)) (nat_cmp a b) (tie_equal (entry_cmp parts rows) (entry_total parts rows) a b e)))

-- the entries of an index stand in one order
pub entries_are : (parts : List Part) (rows : List (List Value)) (ids : List ℕ) → IsOrder parts rows ids → ids ≡ entries parts rows
entries_are parts rows ids o =
    let all = range_with_len 0 (length rows) in
    sorted_is (is_entry_before parts rows) (ranks_by (entry_total parts rows) (λ (a : ℕ). a)) all ids o.rising
    (λ z. same_kept (ties (is_entry_before parts rows) z) z all ids o.each (λ k d lt e. same_id parts rows z (get_or all k d) e))

same_key : (parts : List Part) (z r : List Value) → ties (is_key_before parts) z r ≡ true → key_of parts z ≡ key_of parts r
same_key parts z r e = key_equal parts z r (tie_equal (by_key parts) (by_key_total parts) z r e)

-- rows of which no two have one key stand in one order by their keys
pub rows_are : (parts : List Part) (file rows : List (List Value)) → AllPairs (λ r s. key_of parts r ≡ key_of parts s → ⊥) file → IsByKey parts file rows → rows ≡ ordered (is_key_before parts) file
rows_are parts file rows apart s = sorted_is (is_key_before parts) (ranks_by (by_key_total parts) (λ (r : List Value). r)) file rows s.rising stays
  where
    once : (z : List Value) → (v : List Value) × All (λ r. ties (is_key_before parts) z r ≡ true → r ≡ v) file
    once z = at_most_one (ties (is_key_before parts) z) z file (λ i j d ij jn a b.
        apart i j d ij jn (sym (same_key parts z (get_or file i d) a) ∙ same_key parts z (get_or file j d) b))

    stays : (z : List Value) → filter (ties (is_key_before parts) z) rows ≡ filter (ties (is_key_before parts) z) file
    stays z = same_kept (ties (is_key_before parts) z) (once z).0 file rows s.same (once z).1
