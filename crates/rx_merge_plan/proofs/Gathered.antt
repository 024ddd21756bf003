-- What the items of a list give by tests and steps, gathered in one go or step by step; and lists that go side by side.
use Rattle.std.proofs.Common.{◌≡◌, ◌+◌, ℕ, Bool, true, false, List, [], ◌∷◌, ◌++◌, map, Option, Some, None, if◌then◌else◌, cond, refl, ap, ◌∙◌, sym, arith}
use Rattle.std.specs.List.{filter, filter_map, cons_option, flat_map, sum_by}
use Rattle.std.specs.Option.{option_to_list}
use Rattle.std.proofs.lemmas.List.Sums.{sum_by-cons}

module _ {A B : Type 0} (p : A → Bool) (f : A → B) (q : B → Bool) where
  module _ {C : Type 0} (h : B → Option C) where
    gives : A → List C
    gives x = if p x then (if q (f x) then option_to_list (h (f x)) else []) else []

    last : (o : Option C) (rest more : List C) → rest ≡ more → option_to_list o ++ rest ≡ cons_option o more
    last None rest more e = e
    last (Some y) rest more e = ap (λ l. y ∷ l) e

    passed : (c : Bool) (y : B) (ys : List B) (rest : List C) → rest ≡ filter_map h ys
        → (if c then option_to_list (h y) else []) ++ rest ≡ filter_map h (cond c (y ∷ ys) ys)
    passed true y ys rest e = last (h y) rest (filter_map h ys) e
    passed false y ys rest e = e

    picked : (b : Bool) (x : A) (xs : List A) (rest : List C) → rest ≡ filter_map h (filter q (map f xs))
        → (if b then (if q (f x) then option_to_list (h (f x)) else []) else []) ++ rest ≡ filter_map h (filter q (map f (cond b (x ∷ xs) xs)))
    picked true x xs rest e = passed (q (f x)) (f x) (filter q (map f xs)) rest e
    picked false x xs rest e = e

    -- what each item gives that passes both tests
    pub gathered : (xs : List A) → flat_map (λ x. if p x then (if q (f x) then option_to_list (h (f x)) else []) else []) xs
        ≡ filter_map h (filter q (map f (filter p xs)))
    gathered [] = refl
    gathered (x ∷ xs) = picked (p x) x (filter p xs) (flat_map (λ y. if p y then (if q (f y) then option_to_list (h (f y)) else []) else []) xs) (gathered xs)

  module _ (g : B → ℕ) where
    sum_passed : (c : Bool) (y : B) (ys : List B) → (if c then g y else 0) + sum_by g ys ≡ sum_by g (cond c (y ∷ ys) ys)
    sum_passed true y ys = sym (sum_by-cons g y ys)
    sum_passed false y ys = omega arith

    sum_picked : (b : Bool) (x : A) (xs : List A) → (if b then (if q (f x) then g (f x) else 0) else 0) + sum_by g (filter q (map f xs))
        ≡ sum_by g (filter q (map f (cond b (x ∷ xs) xs)))
    sum_picked true x xs = sum_passed (q (f x)) (f x) (filter q (map f xs))
    sum_picked false x xs = omega arith

    -- the sum over the items that pass both tests
    pub sum_gathered : (xs : List A) → sum_by (λ x. if p x then (if q (f x) then g (f x) else 0) else 0) xs ≡ sum_by g (filter q (map f (filter p xs)))
    sum_gathered [] = refl
    sum_gathered (x ∷ xs) =
        sum_by-cons (λ y. if p y then (if q (f y) then g (f y) else 0) else 0) x xs
        ∙ ap (λ n. (if p x then (if q (f x) then g (f x) else 0) else 0) + n) (sum_gathered xs)
        ∙ sum_picked (p x) x (filter p xs)
