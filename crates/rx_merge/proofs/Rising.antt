-- Numbers that rise are those of the numbers below a bound that are among them.
use Rattle.std.proofs.Common.{◌≡◌, ◌⊎◌, inl, inr, ℕ, zero, suc, ◌+◌, ◌<◌, ◌≤◌, Bool, true, false, nat_eq, ◌||◌, cond, List, [], ◌∷◌, filter, All, refl, sym, ap, ◌∙◌, subst, arith}
use Rattle.std.specs.declared.cmp.Ordering.TheVariants.{Less}
use Rattle.std.specs.Ordering.{nat_cmp}
use Rattle.std.specs.List.{range_with_len}
use Rattle.std.specs.List.Sorted.{IsStrictlyIncreasing, IsStrictlySortedBy}
use Rattle.std.proofs.lemmas.Bool.{cases_lt}
use Rattle.std.proofs.lemmas.List.Elements.{All-cons, All-head, All-tail, All-weaker, All-from_recursion}
use Rattle.std.proofs.lemmas.List.Folds.{list_any_none}
use Rattle.std.proofs.lemmas.Map.Keys.{sorted_head, sorted_tail, sorted_from_strictly_increasing}
use Rattle.rx_merge.specs.Ids.{has_id}

below_less : (a b : ℕ) → nat_cmp a b ≡ Less → a < b
below_less a b e = grind arith

differ : (a b : ℕ) → a < b → nat_eq a b ≡ false
differ a b lt = grind arith

differ_back : (a b : ℕ) → a < b → nat_eq b a ≡ false
differ_back a b lt = grind arith

same : (a : ℕ) → nat_eq a a ≡ true
same a = grind arith

-- the numbers behind the first are above it
above_first : (x : ℕ) (xs : List ℕ) → IsStrictlySortedBy nat_cmp (x ∷ xs) → All (λ y. x < y) xs
above_first x xs up = All-weaker (λ y. nat_cmp x y ≡ Less) (λ y. x < y) (λ y e. below_less x y e) xs (All-from_recursion (λ y. nat_cmp x y ≡ Less) xs (sorted_head nat_cmp x xs up))

module _ (p : ℕ → Bool) where
  -- each from one number on, before another, is among them where it passes
  abbrev AmongPass : ℕ → ℕ → List ℕ → Type 0
  AmongPass a m ids = (id : ℕ) → a ≤ id → id < a + m → has_id ids id ≡ p id

  skip : (a m : ℕ) (ids : List ℕ) → All (λ id. a < id) ids → AmongPass a (suc m) ids → ids ≡ filter p (range_with_len (a + 1) m) → ids ≡ filter p (range_with_len a (suc m))
  skip a m ids above h rest =
      let fails : p a ≡ false = sym (h a (omega arith) (omega arith)) ∙ list_any_none (nat_eq a) ids (All-weaker (λ id. a < id) (λ id. nat_eq a id ≡ false) (λ id lt. differ a id lt) ids above) in
      rest ∙ sym (ap (λ b. cond b (a ∷ filter p (range_with_len (a + 1) m)) (filter p (range_with_len (a + 1) m))) fails)

  take_first : (a m : ℕ) (xs : List ℕ) → AmongPass a (suc m) (a ∷ xs) → xs ≡ filter p (range_with_len (a + 1) m) → a ∷ xs ≡ filter p (range_with_len a (suc m))
  take_first a m xs h rest =
      let passes : p a ≡ true = sym (h a (omega arith) (omega arith)) ∙ ap (λ b. b || has_id xs a) (same a) in
      ap (λ ys. a ∷ ys) rest ∙ sym (ap (λ b. cond b (a ∷ filter p (range_with_len (a + 1) m)) (filter p (range_with_len (a + 1) m))) passes)

  among_rest : (a m : ℕ) (xs : List ℕ) → AmongPass a (suc m) (a ∷ xs) → AmongPass (a + 1) m xs
  among_rest a m xs h id lo hi = ap (λ b. b || has_id xs id) (sym (differ_back a id (omega (arith, lo)))) ∙ h id (omega (arith, lo)) (omega (arith, hi))

  -- the same of all such numbers from one on
  abbrev IsFrom : ℕ → ℕ → Type 0
  IsFrom m a = (ids : List ℕ) → IsStrictlySortedBy nat_cmp ids → All (λ id. a ≤ id) ids → All (λ id. id < a + m) ids → AmongPass a m ids → ids ≡ filter p (range_with_len a m)

  high_next : (a m : ℕ) (ids : List ℕ) → All (λ id. id < a + suc m) ids → All (λ id. id < a + 1 + m) ids
  high_next a m ids = All-weaker (λ id. id < a + suc m) (λ id. id < a + 1 + m) (λ id lt. omega (arith, lt)) ids

  low_next : (a : ℕ) (ids : List ℕ) → All (λ id. a < id) ids → All (λ id. a + 1 ≤ id) ids
  low_next a ids = All-weaker (λ id. a < id) (λ id. a + 1 ≤ id) (λ id lt. omega (arith, lt)) ids

  skipped : (a m : ℕ) (ids : List ℕ) → IsFrom m (a + 1) → IsStrictlySortedBy nat_cmp ids → All (λ id. a < id) ids → All (λ id. id < a + suc m) ids → AmongPass a (suc m) ids
      → ids ≡ filter p (range_with_len a (suc m))
  skipped a m ids rest up above high h =
      skip a m ids above h (rest ids up (low_next a ids above) (high_next a m ids high) (λ id lo hi. h id (omega (arith, lo)) (omega (arith, hi))))

  taken : (a m : ℕ) (xs : List ℕ) → IsFrom m (a + 1) → IsStrictlySortedBy nat_cmp (a ∷ xs) → All (λ id. id < a + suc m) (a ∷ xs) → AmongPass a (suc m) (a ∷ xs)
      → a ∷ xs ≡ filter p (range_with_len a (suc m))
  taken a m xs rest up high h =
      take_first a m xs h
      (rest xs (sorted_tail nat_cmp a xs up) (low_next a xs (above_first a xs up)) (high_next a m xs (All-tail (λ id. id < a + suc m) a xs high)) (among_rest a m xs h))

  by_first : (a m x : ℕ) (xs : List ℕ) → (a < x) ⊎ (x ≤ a) → IsFrom m (a + 1) → IsStrictlySortedBy nat_cmp (x ∷ xs) → All (λ id. a ≤ id) (x ∷ xs) → All (λ id. id < a + suc m) (x ∷ xs)
      → AmongPass a (suc m) (x ∷ xs) → x ∷ xs ≡ filter p (range_with_len a (suc m))
  by_first a m x xs (inl lt) rest up low high h =
      let later : All (λ id. a < id) xs = All-weaker (λ y. x < y) (λ id. a < id) (λ y more. omega (arith, lt, more)) xs (above_first x xs up) in
      skipped a m (x ∷ xs) rest up (All-cons (λ id. a < id) x xs lt later) high h
  by_first a m x xs (inr le) rest up low high h =
      let same : a ≡ x = omega (arith, le, All-head (λ id. a ≤ id) x xs low) in
      let Goal : ℕ → Type 0 =
      λ y. IsStrictlySortedBy nat_cmp (y ∷ xs) → All (λ id. id < a + suc m) (y ∷ xs) → AmongPass a (suc m) (y ∷ xs) → y ∷ xs ≡ filter p (range_with_len a (suc m)) in
      subst Goal same (taken a m xs rest) up high h

  from_on : (m a : ℕ) → IsFrom m a
  from_on zero a [] up low high h = refl
  from_on zero a (x ∷ xs) up low high h = absurd (omega (arith, All-head (λ id. a ≤ id) x xs low, All-head (λ id. id < a + 0) x xs high))
  from_on (suc m) a [] up low high h = skipped a m [] (from_on m (a + 1)) up (λ k d lt. absurd (omega (arith, lt))) high h
  from_on (suc m) a (x ∷ xs) up low high h = by_first a m x xs (cases_lt a x) (from_on m (a + 1)) up low high h

-- numbers that rise are those below a bound that pass a test, where they lie below it, and each below it is among them where it passes
pub rising_is : (ids : List ℕ) (n : ℕ) (p : ℕ → Bool) → IsStrictlyIncreasing ids → All (λ id. id < n) ids → ((id : ℕ) → id < n → has_id ids id ≡ p id)
    → ids ≡ filter p (range_with_len 0 n)
rising_is ids n p up below h =
    from_on p n 0 ids (sorted_from_strictly_increasing ids up) (λ k d lt. omega arith) (All-weaker (λ id. id < n) (λ id. id < 0 + n) (λ id lt. omega (arith, lt)) ids below)
    (λ id lo hi. h id (omega (arith, hi)))
