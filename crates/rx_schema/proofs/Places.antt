-- The numbers that stand for the names of columns.
use Rattle.std.proofs.Common.{◌≡◌, ℕ, suc, ◌+◌, ◌<◌, Bool, true, false, cond, not, ◌||◌, List, [], ◌∷◌, length, Option, Some, None, refl, sym, ap, subst, ◌∙◌, arith}
use Rattle.std.specs.Prelude.{slice_get, nat_eq, unwrap_or}
use Rattle.std.specs.List.{AllByRecursion, list_any, position_or_len}
use Rattle.std.proofs.lemmas.Bool.{cond_both, eqb-true, cases_Bool, lt-ltb, not-true, not-false}
use Rattle.std.proofs.Common.{inl, inr}
use Rattle.rx_schema.specs.Names.{is_among}
use Rattle.rx_schema.specs.Indexes.{column_number}
use Rattle.rx_schema.proofs.Every.{every_map}
use Rattle.rx_schema.proofs.Repeats.{same, same_turned, same_along}

-- the place of the first name that is the same
abbrev pub place : List (List ℕ) → List ℕ → ℕ
place names n = position_or_len (λ other. same n other) names

-- at a place stands a name that is the same
pub record IsPlace (names : List (List ℕ)) (n : List ℕ) (i : ℕ) : Type 0 where
  pub within : i < length names
  pub name : List ℕ
  pub there : slice_get names i ≡ Some name
  pub equal : same n name ≡ true

or_later : (a b : Bool) → a ≡ false → (a || b) ≡ true → b ≡ true
or_later true b e f = absurd cc
or_later false b e f = f

one_further : (x : List ℕ) (xs : List (List ℕ)) (n : List ℕ) (i : ℕ) → IsPlace xs n i → IsPlace (x ∷ xs) n (1 + i)
one_further x xs n i is =
    let count : 1 + i ≡ suc i = omega arith in
    let within = is.within in
    rw count (record { within = omega arith; name = is.name; there = is.there; equal = is.equal })

pub found : (names : List (List ℕ)) (n : List ℕ) → is_among names n ≡ true → IsPlace names n (place names n)
found [] n e = absurd cc
found (x ∷ xs) n e =
    cond_both (not (same n x)) (1 + place xs n) 0 (IsPlace (x ∷ xs) n)
    (λ f. one_further x xs n (place xs n) (found xs n (or_later (same n x) (is_among xs n) (not-true (same n x) f) e)))
    (λ f. record { within = omega arith; name = x; there = refl; equal = not-false (same n x) f })

-- the number of a name that is there is its place
pub number_place : (names : List (List ℕ)) (n : List ℕ) → is_among names n ≡ true → column_number names n ≡ place names n
number_place names n e =
    let here = found names n e in
    ap (λ (b : Bool). unwrap_or (cond b (Some (place names n)) None) 0) (lt-ltb _ _ here.within)

pub numbered : (names : List (List ℕ)) (n : List ℕ) → is_among names n ≡ true → IsPlace names n (column_number names n)
numbered names n e =
    subst (IsPlace names n) (sym (number_place names n e)) (found names n e)

some_same : {A : Type 0} (x y : A) (o : Option A) → o ≡ Some x → o ≡ Some y → x ≡ y
some_same x y o e f = cc

-- names that differ have numbers that differ
pub numbers_differ : (names : List (List ℕ)) (n m : List ℕ) → is_among names n ≡ true → is_among names m ≡ true → same m n ≡ false → nat_eq (column_number names n) (column_number names m) ≡ false
numbers_differ names n m e f apart =
    let first = numbered names n e in
    let second = numbered names m f in
    elim (cases_Bool (nat_eq (column_number names n) (column_number names m))) [
      | inl g ↦
          let there = ap (slice_get names) (eqb-true (column_number names n) (column_number names m) g) ∙ second.there in
          let one : first.name ≡ second.name = some_same first.name second.name (slice_get names (column_number names n)) first.there there in
          let again : same m first.name ≡ true = ap (same m) one ∙ second.equal in
          let equal : same m n ≡ true = same_along m first.name n again ∙ same_turned first.name n ∙ first.equal in
          absurd cc
      | inr g ↦ g
    ]

-- an item passes a test, and so one of the list does
pub members : {A : Type 0} (xs : List A) → AllByRecursion (λ x. (test : A → Bool) → test x ≡ true → list_any test xs ≡ true) xs
members [] = tt
members {A} (x ∷ xs) = (
  λ test e. rw e refl,
  every_map (λ y. (test : A → Bool) → test y ≡ true → list_any test xs ≡ true) (λ y. (test : A → Bool) → test y ≡ true → list_any test (x ∷ xs) ≡ true) (λ y f test e. or_right (test x) (list_any test xs) (f test e)) xs (members xs),
) where
  or_right : (a b : Bool) → b ≡ true → (a || b) ≡ true
  or_right true b e = refl
  or_right false b e = e
