-- Scans that pass a test, one more at a time.
use Rattle.std.proofs.Common.{◌≡◌, ◌<◌, ◌+◌, ℕ, Bool, true, false, not, nat_lt, List, [], ◌∷◌, ◌++◌, length, map, take, get_or, Some, None, cond, refl, ap, ◌∙◌, arith}
use Rattle.std.specs.List.{fold, filter, position, position_or_len}
use Rattle.std.proofs.lemmas.Bool.{ltb-false}
use Rattle.std.proofs.lemmas.List.{append-nil, map_push}
use Rattle.std.proofs.lemmas.List.Elements.{filter_more}
use Rattle.std.proofs.lemmas.List.Sums.{fold-append, prefix_len-le-length}

-- one more passes
pub filter_yes : {A : Type 0} (p : A → Bool) (xs : List A) (i : ℕ) (d : A) → i < length xs → p (get_or xs i d) ≡ true → filter p (take (i + 1) xs) ≡ filter p (take i xs) ++ get_or xs i d ∷ []
filter_yes p xs i d h e = filter_more p xs i d h ∙ ap (λ b. filter p (take i xs) ++ cond b (get_or xs i d ∷ []) []) e

-- one more doesn't
pub filter_no : {A : Type 0} (p : A → Bool) (xs : List A) (i : ℕ) (d : A) → i < length xs → p (get_or xs i d) ≡ false → filter p (take (i + 1) xs) ≡ filter p (take i xs)
filter_no p xs i d h e = filter_more p xs i d h ∙ ap (λ b. filter p (take i xs) ++ cond b (get_or xs i d ∷ []) []) e ∙ append-nil (filter p (take i xs))

-- what is folded and mapped of what passes
pub fold_yes : {A B : Type 0} (f : B → A → B) (a : B) (p : A → Bool) (xs : List A) (i : ℕ) (d : A) → i < length xs → p (get_or xs i d) ≡ true
    → fold f a (filter p (take (i + 1) xs)) ≡ f (fold f a (filter p (take i xs))) (get_or xs i d)
fold_yes f a p xs i d h e = ap (fold f a) (filter_yes p xs i d h e) ∙ fold-append f a (filter p (take i xs)) (get_or xs i d ∷ [])

pub map_yes : {A B : Type 0} (f : A → B) (p : A → Bool) (xs : List A) (i : ℕ) (d : A) → i < length xs → p (get_or xs i d) ≡ true
    → map f (filter p (take (i + 1) xs)) ≡ map f (filter p (take i xs)) ++ f (get_or xs i d) ∷ []
map_yes f p xs i d h e = ap (map f) (filter_yes p xs i d h e) ∙ map_push f (filter p (take i xs)) (get_or xs i d)

-- where none passes, the place is the length
pub place_missed : {A : Type 0} (p : A → Bool) (xs : List A) → position p xs ≡ None → length xs ≡ position_or_len p xs
place_missed p xs none = by_test (nat_lt (position_or_len p xs) (length xs)) refl none
  where
    by_test : (b : Bool) → nat_lt (position_or_len p xs) (length xs) ≡ b → cond b (Some (position_or_len p xs)) None ≡ None → length xs ≡ position_or_len p xs
    by_test true e h = absurd (cc h)
    by_test false e h = omega (arith, ltb-false (position_or_len p xs) (length xs) e, prefix_len-le-length (λ x. not (p x)) xs)
