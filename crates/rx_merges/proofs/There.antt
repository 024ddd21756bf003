-- What each of a list gives, where each gives something.
use Rattle.std.proofs.Common.{◌≡◌, ◌<◌, ◌+◌, ℕ, zero, suc, List, [], ◌∷◌, ◌++◌, length, map, take, get_or, Option, Some, None, option_map, refl, ap, ◌∙◌, arith}
use Rattle.std.proofs.lemmas.List.{take_more, map_push}
use Rattle.rx_merges.specs.Unions.{all_there}

there_push : {A : Type 0} (os : List (Option A)) (ys : List A) (y : A) → all_there os ≡ Some ys → all_there (os ++ Some y ∷ []) ≡ Some (ys ++ y ∷ [])
there_push [] ys y e = let none : [] ≡ ys = cc e in ap (λ l. Some (l ++ y ∷ [])) none
there_push (None ∷ os) ys y e = absurd (cc e)
there_push (Some x ∷ os) ys y e = by_rest (all_there os) refl e (there_push os)
  where
    by_rest : (o : Option (List _)) → all_there os ≡ o → option_map (λ xs. x ∷ xs) o ≡ Some ys
        → ((zs : List _) (z : _) → all_there os ≡ Some zs → all_there (os ++ Some z ∷ []) ≡ Some (zs ++ z ∷ []))
        → option_map (λ xs. x ∷ xs) (all_there (os ++ Some y ∷ [])) ≡ Some (ys ++ y ∷ [])
    by_rest None is h later = absurd (cc h)
    by_rest (Some zs) is h later =
        let whole : x ∷ zs ≡ ys = cc h in
        ap (option_map (λ xs. x ∷ xs)) (later zs y is) ∙ ap (λ l. Some (l ++ y ∷ [])) whole

-- one more gives something
pub there_more : {A B : Type 0} (f : A → Option B) (xs : List A) (i : ℕ) (d : A) (ys : List B) (y : B) → i < length xs → all_there (map f (take i xs)) ≡ Some ys → f (get_or xs i d) ≡ Some y
    → all_there (map f (take (i + 1) xs)) ≡ Some (ys ++ y ∷ [])
there_more f xs i d ys y within e h =
    ap (λ l. all_there (map f l)) (take_more xs i d within) ∙ ap all_there (map_push f (take i xs) (get_or xs i d)) ∙ ap (λ o. all_there (map f (take i xs) ++ o ∷ [])) h
    ∙ there_push (map f (take i xs)) ys y e

-- one gives nothing
pub not_there : {A B : Type 0} (f : A → Option B) (xs : List A) (i : ℕ) (d : A) → i < length xs → f (get_or xs i d) ≡ None → all_there (map f xs) ≡ None
not_there f [] i d within e = absurd (omega (arith, within))
not_there f (x ∷ xs) zero d within e = ap (λ o. all_there (o ∷ map f xs)) e
not_there f (x ∷ xs) (suc i) d within e = by_first (f x) (not_there f xs i d (omega (arith, within)) e)
  where
    by_first : (o : Option _) → all_there (map f xs) ≡ None → all_there (o ∷ map f xs) ≡ None
    by_first None h = refl
    by_first (Some y) h = ap (option_map (λ ys. y ∷ ys)) h

-- where the first and the rest all give something
pub split_there : {A : Type 0} (o : Option A) (os : List (Option A)) (xs : List A) → all_there (o ∷ os) ≡ Some xs → (x : A) × (ys : List A) × (o ≡ Some x) × (all_there os ≡ Some ys) × (x ∷ ys ≡ xs)
split_there None os xs e = absurd (cc e)
split_there (Some x) os xs e = by_rest (all_there os) refl e
  where
    by_rest : (o : Option (List _)) → all_there os ≡ o → option_map (λ ys. x ∷ ys) o ≡ Some xs → (y : _) × (ys : List _) × (Some x ≡ Some y) × (all_there os ≡ Some ys) × (y ∷ ys ≡ xs)
    by_rest None is h = absurd (cc h)
    by_rest (Some ys) is h = (x, ys, refl, is, cc h)
