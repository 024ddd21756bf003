-- A list in order is the only one: sorted, with what ties as it stood.
use Rattle.std.proofs.Common.{◌≡◌, ℕ, zero, suc, ◌+◌, ◌<◌, Bool, true, false, not, ◌&&◌, cond, List, [], ◌∷◌, length, filter, get_or, refl, sym, ap, subst, ◌∙◌, IsPermutation, arith}
use Rattle.std.specs.List.{AllByRecursion}
use Rattle.std.specs.List.Sorted.{IsSortedBy, IsStableBy, ties}
use Rattle.std.specs.Cmp.{IsStrictWeakOrder}
use Rattle.std.proofs.lemmas.List.Sorted.{sorted_far, IsPermutation-refl, IsPermutation-cons, IsPermutation-trans, IsPermutation-middle}
use Rattle.rx_order.specs.Stable.{put, ordered}

-- the same elements
pub put-IsPermutation : {X : Type 0} (before : X → X → Bool) (x : X) (ys : List X) → IsPermutation (x ∷ ys) (put before x ys)
put-IsPermutation before x [] = IsPermutation-refl (x ∷ [])
put-IsPermutation before x (y ∷ ys) = by_test (before y x) (put-IsPermutation before x ys)
  where
    by_test : (b : Bool) → IsPermutation (x ∷ ys) (put before x ys) → IsPermutation (x ∷ y ∷ ys) (cond b (y ∷ put before x ys) (x ∷ y ∷ ys))
    by_test true h = IsPermutation-trans _ _ _ (IsPermutation-middle (x ∷ []) y ys) (IsPermutation-cons y (x ∷ ys) (put before x ys) h)
    by_test false h = IsPermutation-refl (x ∷ y ∷ ys)

pub ordered-IsPermutation : {X : Type 0} (before : X → X → Bool) (xs : List X) → IsPermutation xs (ordered before xs)
ordered-IsPermutation before [] = IsPermutation-refl []
ordered-IsPermutation before (x ∷ xs) = IsPermutation-trans _ _ _ (IsPermutation-cons x xs (ordered before xs) (ordered-IsPermutation before xs)) (put-IsPermutation before x (ordered before xs))

module _ {X : Type 0} (lt : X → X → Bool) (o : IsStrictWeakOrder lt) where
  -- none of these stands before x
  abbrev Behind : X → List X → Type 0
  Behind x ys = AllByRecursion (λ y. lt y x ≡ false) ys

  abbrev Rises : List X → Type 0
  Rises [] = Unit {0}
  Rises (x ∷ xs) = Behind x xs × Rises xs

  listed : (P : X → Type 0) (xs : List X) → ((k : ℕ) (d : X) → k < length xs → P (get_or xs k d)) → AllByRecursion P xs
  listed P [] h = tt
  listed P (x ∷ xs) h = (h 0 x (omega arith), listed P xs (λ k d w. h (suc k) d (omega (arith, w))))

  pub rises : (xs : List X) → IsSortedBy lt xs → Rises xs
  rises [] up = tt
  rises (x ∷ xs) up = (
    listed (λ y. lt y x ≡ false) xs (λ k d w. sorted_far lt o (x ∷ xs) up 0 (suc k) d (omega arith) (omega (arith, w))),
    rises xs (λ k d z w. let n : suc k + 1 ≡ suc (k + 1) = omega arith in subst (λ j. lt (get_or (x ∷ xs) j d) (get_or xs k d) ≡ false) n (up (suc k) d (omega arith) (omega (arith, w)))),
  )

  -- ---- what puts rises

  put_all : (P : X → Type 0) (x : X) (ys : List X) → P x → AllByRecursion P ys → AllByRecursion P (put lt x ys)
  put_all P x [] p h = (p, tt)
  put_all P x (y ∷ ys) p h = by_test (lt y x) (put_all P x ys p h.1)
    where
      by_test : (b : Bool) → AllByRecursion P (put lt x ys) → AllByRecursion P (cond b (y ∷ put lt x ys) (x ∷ y ∷ ys))
      by_test true k = (h.0, k)
      by_test false k = (p, h)

  behind_all : (x y : X) (ys : List X) → lt y x ≡ false → Behind y ys → Behind x ys
  behind_all x y [] e h = tt
  behind_all x y (z ∷ zs) e h = (o.chain z y x h.0 e, behind_all x y zs e h.1)

  put_rises : (x : X) (ys : List X) → Rises ys → Rises (put lt x ys)
  put_rises x [] h = (tt, tt)
  put_rises x (y ∷ ys) h = by_test (lt y x) refl (put_rises x ys h.1)
    where
      by_test : (b : Bool) → lt y x ≡ b → Rises (put lt x ys) → Rises (cond b (y ∷ put lt x ys) (x ∷ y ∷ ys))
      by_test true e k = (put_all (λ z. lt z y ≡ false) x ys (o.one_way y x e) h.0, k)
      by_test false e k = ((e, behind_all x y ys e h.0), h)

  ordered_rises : (xs : List X) → Rises (ordered lt xs)
  ordered_rises [] = tt
  ordered_rises (x ∷ xs) = put_rises x (ordered lt xs) (ordered_rises xs)

  rises_sorted : (xs : List X) → Rises xs → IsSortedBy lt xs
  rises_sorted [] h k d z w = absurd (omega (arith, w))
  rises_sorted (x ∷ []) h k d z w = absurd (omega (arith, w))
  rises_sorted (x ∷ y ∷ ys) h zero d z w = h.0.0
  rises_sorted (x ∷ y ∷ ys) h (suc k) d z w =
      let n : suc (k + 1) ≡ suc k + 1 = omega arith in
      subst (λ j. lt (get_or (x ∷ y ∷ ys) j d) (get_or (y ∷ ys) k d) ≡ false) n (rises_sorted (y ∷ ys) h.1 k d (omega arith) (omega (arith, w)))

  -- it is in order
  pub ordered_sorted : (xs : List X) → IsSortedBy lt (ordered lt xs)
  ordered_sorted xs = rises_sorted (ordered lt xs) (ordered_rises xs)

  -- ---- what ties stays

  both_tie : (z x y : X) → ties lt z x ≡ true → ties lt z y ≡ true → lt y x ≡ false
  both_tie z x y p q = by_tests (lt z x) (lt x z) (lt z y) (lt y z) refl refl refl refl p q
    where
      by_tests : (a b c d : Bool) → lt z x ≡ a → lt x z ≡ b → lt z y ≡ c → lt y z ≡ d → (not a && not b) ≡ true → (not c && not d) ≡ true → lt y x ≡ false
      by_tests true b c d e f g h p q = absurd cc
      by_tests false true c d e f g h p q = absurd cc
      by_tests false false true d e f g h p q = absurd cc
      by_tests false false false true e f g h p q = absurd cc
      by_tests false false false false e f g h p q = o.chain y z x h e

  put_stays : (z x : X) (ys : List X) → filter (ties lt z) (put lt x ys) ≡ filter (ties lt z) (x ∷ ys)
  put_stays z x [] = refl
  put_stays z x (y ∷ ys) = by_test (lt y x) refl (put_stays z x ys)
    where
      by_ties : (a b : Bool) → ties lt z x ≡ a → ties lt z y ≡ b → lt y x ≡ true → cond b (y ∷ cond a (x ∷ filter (ties lt z) ys) (filter (ties lt z) ys)) (cond a (x ∷ filter (ties lt z) ys) (filter (ties lt z) ys)) ≡ cond a (x ∷ cond b (y ∷ filter (ties lt z) ys) (filter (ties lt z) ys)) (cond b (y ∷ filter (ties lt z) ys) (filter (ties lt z) ys))
      by_ties true true p q e = let f : lt y x ≡ false = both_tie z x y p q in absurd cc
      by_ties true false p q e = refl
      by_ties false true p q e = refl
      by_ties false false p q e = refl

      by_test : (b : Bool) → lt y x ≡ b → filter (ties lt z) (put lt x ys) ≡ filter (ties lt z) (x ∷ ys) → filter (ties lt z) (cond b (y ∷ put lt x ys) (x ∷ y ∷ ys)) ≡ filter (ties lt z) (x ∷ y ∷ ys)
      by_test true e h = ap (λ l. cond (ties lt z y) (y ∷ l) l) h ∙ by_ties (ties lt z x) (ties lt z y) refl refl e
      by_test false e h = refl

  ordered_stays : (z : X) (xs : List X) → filter (ties lt z) (ordered lt xs) ≡ filter (ties lt z) xs
  ordered_stays z [] = refl
  ordered_stays z (x ∷ xs) = put_stays z x (ordered lt xs) ∙ ap (λ l. cond (ties lt z x) (x ∷ l) l) (ordered_stays z xs)

  -- ---- there is no other

  never_before_itself : (x : X) (b : Bool) → lt x x ≡ b → lt x x ≡ false
  never_before_itself x true e = o.one_way x x e
  never_before_itself x false e = e

  ties_itself : (x : X) → ties lt x x ≡ true
  ties_itself x = ap (λ b. not b && not b) (never_before_itself x (lt x x) refl)

  first_chosen : (P : X → Type 0) (p : X → Bool) (ys : List X) (x : X) (l : List X) → filter p ys ≡ x ∷ l → AllByRecursion P ys → P x
  first_chosen P p [] x l e h = absurd cc
  first_chosen P p (y ∷ ys) x l e h = by_test (p y) e (λ k. first_chosen P p ys x l k h.1)
    where
      by_test : (b : Bool) → cond b (y ∷ filter p ys) (filter p ys) ≡ x ∷ l → (filter p ys ≡ x ∷ l → P x) → P x
      by_test true e k = let same : y ≡ x = cc in subst P same h.0
      by_test false e k = k e

  -- lists of which the same ties stand in the same order
  abbrev Alike : List X → List X → Type 0
  Alike xs ys = (z : X) → filter (ties lt z) xs ≡ filter (ties lt z) ys

  own_first : (x : X) (xs : List X) → filter (ties lt x) (x ∷ xs) ≡ x ∷ filter (ties lt x) xs
  own_first x xs = ap (λ b. cond b (x ∷ filter (ties lt x) xs) (filter (ties lt x) xs)) (ties_itself x)

  same_first : (x y : X) (xs ys : List X) → Rises (x ∷ xs) → Rises (y ∷ ys) → Alike (x ∷ xs) (y ∷ ys) → x ≡ y
  same_first x y xs ys h k alike = by_tests (ties lt x y) (ties lt y x) refl refl (sym (own_first x xs) ∙ alike x) (sym (own_first y ys) ∙ sym (alike y))
    where
      apart : lt x y ≡ false → lt y x ≡ false → ties lt x y ≡ false → x ≡ y
      apart p q e = let t : ties lt x y ≡ true = ap (λ b. not b && not (lt y x)) p ∙ ap (λ b. not b) q in absurd cc

      turned : (a b : Bool) → (not a && not b) ≡ (not b && not a)
      turned true true = refl
      turned true false = refl
      turned false true = refl
      turned false false = refl

      by_tests : (b c : Bool) → ties lt x y ≡ b → ties lt y x ≡ c → x ∷ filter (ties lt x) xs ≡ cond b (y ∷ filter (ties lt x) ys) (filter (ties lt x) ys) → y ∷ filter (ties lt y) ys ≡ cond c (x ∷ filter (ties lt y) xs) (filter (ties lt y) xs) → x ≡ y
      by_tests true c p q e f = cc
      by_tests false true p q e f = sym cc
      by_tests false false p q e f =
          apart (first_chosen (λ z. lt z y ≡ false) (ties lt x) ys x (filter (ties lt x) xs) (sym e) k.0)
          (first_chosen (λ z. lt z x ≡ false) (ties lt y) xs y (filter (ties lt y) ys) (sym f) h.0) p

  same_rest : (x y : X) (xs ys : List X) → x ≡ y → Alike (x ∷ xs) (y ∷ ys) → Alike xs ys
  same_rest x y xs ys same alike z = by_test (ties lt z x) refl (alike z ∙ ap (λ w. filter (ties lt z) (w ∷ ys)) (sym same))
    where
      by_test : (b : Bool) → ties lt z x ≡ b → cond b (x ∷ filter (ties lt z) xs) (filter (ties lt z) xs) ≡ cond (ties lt z x) (x ∷ filter (ties lt z) ys) (filter (ties lt z) ys) → filter (ties lt z) xs ≡ filter (ties lt z) ys
      by_test true p e = let f : x ∷ filter (ties lt z) xs ≡ x ∷ filter (ties lt z) ys = e ∙ ap (λ b. cond b (x ∷ filter (ties lt z) ys) (filter (ties lt z) ys)) p in cc
      by_test false p e = e ∙ ap (λ b. cond b (x ∷ filter (ties lt z) ys) (filter (ties lt z) ys)) p

  only_one : (xs ys : List X) → Rises xs → Rises ys → Alike xs ys → xs ≡ ys
  only_one [] [] h k alike = refl
  only_one [] (y ∷ ys) h k alike = let e : [] ≡ y ∷ filter (ties lt y) ys = alike y ∙ own_first y ys in absurd cc
  only_one (x ∷ xs) [] h k alike = let e : [] ≡ x ∷ filter (ties lt x) xs = sym (alike x) ∙ own_first x xs in absurd cc
  only_one (x ∷ xs) (y ∷ ys) h k alike =
      let same : x ≡ y = same_first x y xs ys h k alike in
      ap (λ w. w ∷ xs) same ∙ ap (λ l. y ∷ l) (only_one xs ys h.1 k.1 (same_rest x y xs ys same alike))

  -- a stable sort gives it
  pub sorted_is : (xs ys : List X) → IsSortedBy lt ys → IsStableBy lt xs ys → ys ≡ ordered lt xs
  sorted_is xs ys up stable = only_one ys (ordered lt xs) (rises ys up) (ordered_rises xs) (λ z. stable z ∙ sym (ordered_stays z xs))
