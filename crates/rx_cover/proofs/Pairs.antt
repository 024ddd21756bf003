-- Lists of which each member has a property, or is in a relation to all later ones.
use Rattle.std.proofs.Common.{◌≡◌, Bool, true, List, [], ◌∷◌, ◌++◌, map, reverse, flat_map, inl, inr, ap, sym, ◌∙◌, subst}
use mathlib.Core.List.{reverse-cons}
use Rattle.std.specs.List.{list_any}
use Rattle.std.proofs.lemmas.List.Folds.{list_any-append}
use Rattle.std.proofs.lemmas.Bool.{or_cases, or_left, or_right}

-- each member has the property
abbrev pub Each : {A : Type 0} → (A → Type 0) → List A → Type 0
Each P [] = Unit {0}
Each P (x ∷ xs) = P x × Each P xs

-- each member is in the relation to every later one
abbrev pub Pairwise : {A : Type 0} → (A → A → Type 0) → List A → Type 0
Pairwise R [] = Unit {0}
Pairwise R (x ∷ xs) = Each (R x) xs × Pairwise R xs

-- of two lists in a row each member has what each of both has
pub each_append : {A : Type 0} (P : A → Type 0) (xs ys : List A) → Each P xs → Each P ys → Each P (xs ++ ys)
each_append P [] ys p q = q
each_append P (x ∷ xs) ys p q = (p.0, each_append P xs ys p.1 q)

-- a property that follows from another
pub each_weaker : {A : Type 0} (P Q : A → Type 0) → ((x : A) → P x → Q x) → (xs : List A) → Each P xs → Each Q xs
each_weaker P Q f [] p = tt
each_weaker P Q f (x ∷ xs) p = (f x p.0, each_weaker P Q f xs p.1)

-- a property that follows from two others
pub each_both : {A : Type 0} (P Q T : A → Type 0) → ((x : A) → P x → Q x → T x) → (xs : List A) → Each P xs → Each Q xs → Each T xs
each_both P Q T f [] p q = tt
each_both P Q T f (x ∷ xs) p q = (f x p.0 q.0, each_both P Q T f xs p.1 q.1)

-- a property that all have
pub each_all : {A : Type 0} (P : A → Type 0) → ((x : A) → P x) → (xs : List A) → Each P xs
each_all P f [] = tt
each_all P f (x ∷ xs) = (f x, each_all P f xs)

-- a property of what is made of each member
pub each_map : {A B : Type 0} (P : A → Type 0) (Q : B → Type 0) (f : A → B) → ((x : A) → P x → Q (f x)) → (xs : List A) → Each P xs → Each Q (map f xs)
each_map P Q f g [] p = tt
each_map P Q f g (x ∷ xs) p = (g x p.0, each_map P Q f g xs p.1)

-- a property that each member has, in the list turned round
pub each_reverse : {A : Type 0} (P : A → Type 0) (xs : List A) → Each P xs → Each P (reverse xs)
each_reverse P [] p = tt
each_reverse P (x ∷ xs) p = subst (Each P) (sym (reverse-cons x xs)) (each_append P (reverse xs) (x ∷ []) (each_reverse P xs p.1) (p.0, tt))

-- of two lists in a row, of which each of the first is related to each of the second
pub pairwise_append : {A : Type 0} (R : A → A → Type 0) (xs ys : List A) → Pairwise R xs → Pairwise R ys → Each (λ x. Each (R x) ys) xs → Pairwise R (xs ++ ys)
pairwise_append R [] ys p q c = q
pairwise_append R (x ∷ xs) ys p q c = (each_append (R x) xs ys p.0 c.0, pairwise_append R xs ys p.1 q c.1)

-- a relation of what is made of each member
pub pairwise_map : {A B : Type 0} (R : A → A → Type 0) (S : B → B → Type 0) (f : A → B) → ((x y : A) → R x y → S (f x) (f y)) → (xs : List A) → Pairwise R xs → Pairwise S (map f xs)
pairwise_map R S f g [] p = tt
pairwise_map R S f g (x ∷ xs) p = (each_map (R x) (S (f x)) f (g x) xs p.0, pairwise_map R S f g xs p.1)

-- a list turned round, by a relation turned round
pub pairwise_reverse : {A : Type 0} (R S : A → A → Type 0) → ((x y : A) → R x y → S y x) → (xs : List A) → Pairwise R xs → Pairwise S (reverse xs)
pairwise_reverse R S turn [] p = tt
pairwise_reverse R S turn (x ∷ xs) p =
    let across = each_weaker (R x) (λ y. Each (S y) (x ∷ [])) (λ y r. (turn x y r, tt)) xs p.0 in
    subst (Pairwise S) (sym (reverse-cons x xs))
    (pairwise_append S (reverse xs) (x ∷ []) (pairwise_reverse R S turn xs p.1) (tt, tt) (each_reverse (λ y. Each (S y) (x ∷ [])) xs across))

-- what one list gives is before what all of the others give
across_all : {A B : Type 0} (R : B → B → Type 0) (S : A → A → Type 0) (f : A → List B) (x : A) → ((y : A) → S x y → Each (λ a. Each (R a) (f y)) (f x)) → (ys : List A) → Each (S x) ys → Each (λ a. Each (R a) (flat_map f ys)) (f x)
across_all R S f x across [] s = each_all (λ a. Each (R a) []) (λ a. tt) (f x)
across_all R S f x across (y ∷ ys) s =
    each_both (λ a. Each (R a) (f y)) (λ a. Each (R a) (flat_map f ys)) (λ a. Each (R a) (f y ++ flat_map f ys))
    (λ a p q. each_append (R a) (f y) (flat_map f ys) p q)
    (f x) (across y s.0) (across_all R S f x across ys s.1)

-- Lists in a row: each is pairwise related, and so is what two of them give.
pub pairwise_flat_map : {A B : Type 0} (R : B → B → Type 0) (S : A → A → Type 0) (P : A → Type 0) (f : A → List B) → ((x : A) → P x → Pairwise R (f x)) → ((x y : A) → S x y → Each (λ a. Each (R a) (f y)) (f x)) → (xs : List A) → Each P xs → Pairwise S xs → Pairwise R (flat_map f xs)
pairwise_flat_map R S P f own across [] p s = tt
pairwise_flat_map R S P f own across (x ∷ xs) p s =
    pairwise_append R (f x) (flat_map f xs) (own x p.0) (pairwise_flat_map R S P f own across xs p.1 s.1) (across_all R S f x (across x) xs s.0)

-- a test that a member passes, in the list turned round
pub any_reverse : {A : Type 0} (test : A → Bool) (xs : List A) → list_any test xs ≡ true → list_any test (reverse xs) ≡ true
any_reverse test [] e = e
any_reverse test (x ∷ xs) e =
    ap (list_any test) (reverse-cons x xs)
    ∙ list_any-append test (reverse xs) (x ∷ [])
    ∙ elim (or_cases (test x) (list_any test xs) e) [
      | inl here ↦ or_right (list_any test (reverse xs)) (list_any test (x ∷ [])) (or_left (test x) (list_any test []) here)
      | inr later ↦ or_left (list_any test (reverse xs)) (list_any test (x ∷ [])) (any_reverse test xs later)
    ]

-- a test that one of the lists passes, of all of them in a row
pub any_flat_map : {A B : Type 0} (test : A → Bool) (found : B → Bool) (P : A → Type 0) (f : A → List B) → ((x : A) → P x → test x ≡ true → list_any found (f x) ≡ true) → (xs : List A) → Each P xs → list_any test xs ≡ true → list_any found (flat_map f xs) ≡ true
any_flat_map test found P f give [] p e = e
any_flat_map test found P f give (x ∷ xs) p e =
    list_any-append found (f x) (flat_map f xs)
    ∙ elim (or_cases (test x) (list_any test xs) e) [
      | inl here ↦ or_left (list_any found (f x)) (list_any found (flat_map f xs)) (give x p.0 here)
      | inr later ↦ or_right (list_any found (f x)) (list_any found (flat_map f xs)) (any_flat_map test found P f give xs p.1 later)
    ]
