-- Items of lists by their places.
use Rattle.std.proofs.Common.{◌≡◌, ℕ, zero, suc, ◌+◌, ◌<◌, List, [], ◌∷◌, ◌++◌, length, take, get_or, slice_get, Some, ap, refl, arith, ◌∙◌}
use Rattle.std.specs.List.{enumerate_from, zip}
use Rattle.std.proofs.lemmas.List.{take_more}
use Rattle.std.proofs.lemmas.Slice.Zip.{length-zip, get_or-zip}

-- an item by its place
pub there : {A : Type 0} (xs : List A) (i : ℕ) (d : A) → i < length xs → slice_get xs i ≡ Some (get_or xs i d)
there [] i d within = absurd (omega (arith, within))
there (x ∷ xs) zero d within = refl
there (x ∷ xs) (suc i) d within = there xs i d (omega (arith, within))

-- numbered items, one more
pub numbered_more : {A : Type 0} (xs : List A) (from i : ℕ) (d : A) → i < length xs
    → enumerate_from from (take (i + 1) xs) ≡ enumerate_from from (take i xs) ++ (from + i, get_or xs i d) ∷ []
numbered_more [] from i d within = absurd (omega (arith, within))
numbered_more {A} (x ∷ xs) from zero d within = let e : from ≡ from + 0 = omega arith in ap {B = List (ℕ × A)} (λ k. (k, x) ∷ []) e
numbered_more {A} (x ∷ xs) from (suc i) d within =
    let k : suc i + 1 ≡ suc (i + 1) = omega arith in
    let e : from + 1 + i ≡ from + suc i = omega arith in
    ap (λ n. enumerate_from from (take n (x ∷ xs))) k
    ∙ ap (λ ps. (from, x) ∷ ps) (numbered_more xs (from + 1) i d (omega (arith, within)) ∙ ap {B = List (ℕ × A)} (λ n. enumerate_from (from + 1) (take i xs) ++ (n, get_or xs i d) ∷ []) e)

-- pairs, one more
pub pairs_more : {A B : Type 0} (xs : List A) (ys : List B) (i : ℕ) (d : A) (e : B) → i < length xs → i < length ys
    → take (i + 1) (zip xs ys) ≡ take i (zip xs ys) ++ (get_or xs i d, get_or ys i e) ∷ []
pairs_more xs ys i d e x y = take_more (zip xs ys) i (d, e) (omega (arith, x, y, length-zip xs ys)) ∙ ap (λ p. take i (zip xs ys) ++ p ∷ []) (get_or-zip xs ys i (d, e) x y)
