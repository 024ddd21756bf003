-- Lists with the same elements, in whatever order.
use Rattle.std.proofs.Common.{ℕ, zero, suc, ◌<◌, Bool, true, false, cond, List, [], ◌∷◌, get_or, set, length, Option, Some, None, arith, swap, filter, IsPermutation}
use Rattle.std.specs.Prelude.{filter_map}
use Rattle.std.specs.List.{cons_option}
use Rattle.std.proofs.lemmas.List.Sorted.{IsPermutation-refl, IsPermutation-cons, IsPermutation-trans, IsPermutation-middle, IsPermutation-keeps}

-- What relates lists of which two neighbours change places, behind any elements and one after the other, relates a list and each rearrangement of it.
module _ {X : Type 0} (R : List X → List X → Type 0)
    (same : (xs : List X) → R xs xs)
    (chain : (xs ys zs : List X) → R xs ys → R ys zs → R xs zs)
    (behind : (x : X) (xs ys : List X) → R xs ys → R (x ∷ xs) (x ∷ ys))
    (neighbours : (x y : X) (zs : List X) → R (x ∷ y ∷ zs) (y ∷ x ∷ zs)) where
  -- the first element and a later one in each other's place
  with_the_first : (xs : List X) (i : ℕ) (v d : X) → i < length xs → R (v ∷ xs) (get_or xs i d ∷ set xs i v)
  with_the_first [] i v d within = absurd (omega (arith, within))
  with_the_first (y ∷ ys) zero v d within = neighbours v y ys
  with_the_first (y ∷ ys) (suc i) v d within =
      let g = get_or ys i d in
      chain _ _ _ (neighbours v y ys)
      (chain _ _ _ (behind y (v ∷ ys) (g ∷ set ys i v) (with_the_first ys i v d (omega (arith, within)))) (neighbours y g (set ys i v)))

  -- two elements in each other's place
  exchanged : (xs : List X) (i j : ℕ) (d : X) → i < length xs → j < length xs → R xs (set (set xs i (get_or xs j d)) j (get_or xs i d))
  exchanged [] i j d within also = absurd (omega (arith, within))
  exchanged (x ∷ xs) zero zero d within also = same (x ∷ xs)
  exchanged (x ∷ xs) zero (suc j) d within also = with_the_first xs j x d (omega (arith, also))
  exchanged (x ∷ xs) (suc i) zero d within also = with_the_first xs i x d (omega (arith, within))
  exchanged (x ∷ xs) (suc i) (suc j) d within also = behind x xs _ (exchanged xs i j d (omega (arith, within)) (omega (arith, also)))

  swapped : (xs : List X) (i j : ℕ) → i < length xs → j < length xs → R xs (swap xs i j)
  swapped [] i j within also = absurd (omega (arith, within))
  swapped (x ∷ xs) i j within also = exchanged (x ∷ xs) i j x within also

  pub IsPermutation-relates : (xs ys : List X) → IsPermutation xs ys → R xs ys
  IsPermutation-relates xs ys = IsPermutation-keeps xs (R xs) (same xs) (λ l i j within also h. chain _ _ _ h (swapped l i j within also)) ys

-- what is left of a rearrangement is a rearrangement of what is left
module _ {X : Type 0} (p : X → Bool) where
  either_way : (b c : Bool) (x y : X) (zs : List X) → IsPermutation (cond b (x ∷ cond c (y ∷ zs) zs) (cond c (y ∷ zs) zs)) (cond c (y ∷ cond b (x ∷ zs) zs) (cond b (x ∷ zs) zs))
  either_way true true x y zs = IsPermutation-middle (x ∷ []) y zs
  either_way true false x y zs = IsPermutation-refl (x ∷ zs)
  either_way false true x y zs = IsPermutation-refl (y ∷ zs)
  either_way false false x y zs = IsPermutation-refl zs

  kept_behind : (x : X) (us vs : List X) → IsPermutation (filter p us) (filter p vs) → IsPermutation (filter p (x ∷ us)) (filter p (x ∷ vs))
  kept_behind x us vs h = by_test (p x)
    where
      by_test : (b : Bool) → IsPermutation (cond b (x ∷ filter p us) (filter p us)) (cond b (x ∷ filter p vs) (filter p vs))
      by_test true = IsPermutation-cons x (filter p us) (filter p vs) h
      by_test false = h

  pub IsPermutation-filter : (xs ys : List X) → IsPermutation xs ys → IsPermutation (filter p xs) (filter p ys)
  IsPermutation-filter =
      IsPermutation-relates (λ xs ys. IsPermutation (filter p xs) (filter p ys)) (λ xs. IsPermutation-refl (filter p xs)) (λ xs ys zs h k. IsPermutation-trans _ _ _ h k)
      kept_behind (λ x y zs. either_way (p x) (p y) x y (filter p zs))

-- the same of what elements give, where they give something
module _ {X Y : Type 0} (f : X → Option Y) where
  given_either_way : (o r : Option Y) (zs : List Y) → IsPermutation (cons_option o (cons_option r zs)) (cons_option r (cons_option o zs))
  given_either_way (Some x) (Some y) zs = IsPermutation-middle (x ∷ []) y zs
  given_either_way (Some x) None zs = IsPermutation-refl (x ∷ zs)
  given_either_way None (Some y) zs = IsPermutation-refl (y ∷ zs)
  given_either_way None None zs = IsPermutation-refl zs

  given_behind : (o : Option Y) (us vs : List Y) → IsPermutation us vs → IsPermutation (cons_option o us) (cons_option o vs)
  given_behind (Some x) us vs h = IsPermutation-cons x us vs h
  given_behind None us vs h = h

  pub IsPermutation-filter_map : (xs ys : List X) → IsPermutation xs ys → IsPermutation (filter_map f xs) (filter_map f ys)
  IsPermutation-filter_map =
      IsPermutation-relates (λ xs ys. IsPermutation (filter_map f xs) (filter_map f ys)) (λ xs. IsPermutation-refl (filter_map f xs)) (λ xs ys zs h k. IsPermutation-trans _ _ _ h k)
      (λ x us vs h. given_behind (f x) (filter_map f us) (filter_map f vs) h) (λ x y zs. given_either_way (f x) (f y) (filter_map f zs))
