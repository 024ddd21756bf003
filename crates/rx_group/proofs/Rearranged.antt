-- The classes of a rearrangement.
use Rattle.std.proofs.Common.{◌≡◌, Bool, true, false, not, cond, List, [], ◌∷◌, map, filter, refl, sym, ap, subst, ◌∙◌, IsPermutation}
use Rattle.std.specs.declared.cmp.Ordering.{Ordering}
use Rattle.std.specs.declared.cmp.Ordering.TheVariants.{Less, Equal, Greater}
use Rattle.std.specs.Ordering.{is_eq, ordering_then}
use Rattle.std.proofs.lemmas.List.Sorted.{IsPermutation-refl, IsPermutation-cons, IsPermutation-trans, IsPermutation-middle, IsPermutation-map}
use Rattle.rx_value.specs.declared.values.Value.{Value}
use Rattle.rx_value.specs.Order.{value_cmp}
use Rattle.rx_value.proofs.Equal.{value_cmp-equal}
use Rattle.rx_group.specs.Classes.{values_cmp, same_values, firsts, class_of, classes}
use Rattle.rx_group.specs.OrderLaws.{values_equiv}
use Rattle.rx_group.proofs.Bags.{IsPermutation-relates, IsPermutation-filter}

-- lists that compare as equal are the same
pub same_values-equal : (a b : List Value) → same_values a b ≡ true → a ≡ b
same_values-equal [] [] e = refl
same_values-equal [] (w ∷ ws) e = absurd cc
same_values-equal (v ∷ vs) [] e = absurd cc
same_values-equal (v ∷ vs) (w ∷ ws) e = by_order (value_cmp v w) refl e (same_values-equal vs ws)
  where
    by_order : (o : Ordering) → value_cmp v w ≡ o → is_eq (ordering_then o (values_cmp vs ws)) ≡ true → (same_values vs ws ≡ true → vs ≡ ws) → v ∷ vs ≡ w ∷ ws
    by_order Less is e h = absurd cc
    by_order Equal is e h = ap (λ u. u ∷ vs) (value_cmp-equal v w is) ∙ ap (λ l. w ∷ l) (h e)
    by_order Greater is e h = absurd cc

-- ---- keys by themselves

abbrev itself : List Value → List Value
itself k = k

module _ {X Y : Type 0} (f : X → Y) where
  filter_mapped : (p : Y → Bool) (xs : List X) → map f (filter (λ x. p (f x)) xs) ≡ filter p (map f xs)
  filter_mapped p [] = refl
  filter_mapped p (x ∷ xs) = by_test (p (f x)) (filter_mapped p xs)
    where
      by_test : (b : Bool) → map f (filter (λ x. p (f x)) xs) ≡ filter p (map f xs) → map f (cond b (x ∷ filter (λ x. p (f x)) xs) (filter (λ x. p (f x)) xs)) ≡ cond b (f x ∷ filter p (map f xs)) (filter p (map f xs))
      by_test true h = ap (λ l. f x ∷ l) h
      by_test false h = h

  -- what the first elements of classes give are the first of what the elements give
  pub firsts_mapped : (key : Y → List Value) (xs : List X) → map f (firsts (λ x. key (f x)) xs) ≡ firsts key (map f xs)
  firsts_mapped key [] = refl
  firsts_mapped key (x ∷ xs) =
      ap (λ l. f x ∷ l)
      (filter_mapped (λ y. not (same_values (key (f x)) (key y))) (firsts (λ z. key (f z)) xs)
      ∙ ap (filter (λ y. not (same_values (key (f x)) (key y)))) (firsts_mapped key xs))

module _ {X : Type 0} (p q : X → Bool) where
  filters_exchanged : (xs : List X) → filter p (filter q xs) ≡ filter q (filter p xs)
  filters_exchanged [] = refl
  filters_exchanged (x ∷ xs) = by_tests (p x) (q x) refl refl (filters_exchanged xs)
    where
      by_tests : (b c : Bool) → p x ≡ b → q x ≡ c → filter p (filter q xs) ≡ filter q (filter p xs) → filter p (cond c (x ∷ filter q xs) (filter q xs)) ≡ filter q (cond b (x ∷ filter p xs) (filter p xs))
      by_tests true true e f h =
          ap (λ t. cond t (x ∷ filter p (filter q xs)) (filter p (filter q xs))) e
          ∙ ap (λ l. x ∷ l) h
          ∙ sym (ap (λ t. cond t (x ∷ filter q (filter p xs)) (filter q (filter p xs))) f)
      by_tests true false e f h = h ∙ sym (ap (λ t. cond t (x ∷ filter q (filter p xs)) (filter q (filter p xs))) f)
      by_tests false true e f h = ap (λ t. cond t (x ∷ filter p (filter q xs)) (filter p (filter q xs))) e ∙ h
      by_tests false false e f h = h

abbrev differs : List Value → List Value → Bool
differs x y = not (same_values x y)

two_firsts : (x y : List Value) (b c : Bool) (ls rs : List (List Value)) → b ≡ false → c ≡ false → ls ≡ rs → IsPermutation (x ∷ cond (not b) (y ∷ ls) ls) (y ∷ cond (not c) (x ∷ rs) rs)
two_firsts x y true c ls rs e f h = absurd cc
two_firsts x y false true ls rs e f h = absurd cc
two_firsts x y false false ls rs e f h = subst (λ l. IsPermutation (x ∷ y ∷ ls) (y ∷ x ∷ l)) h (IsPermutation-middle (x ∷ []) y ls)

-- the first of two keys and of others, where the two change places
neighbours : (x y : List Value) (zs : List (List Value)) → IsPermutation (firsts itself (x ∷ y ∷ zs)) (firsts itself (y ∷ x ∷ zs))
neighbours x y zs = by_test (same_values x y) refl
  where
    by_test : (b : Bool) → same_values x y ≡ b → IsPermutation (firsts itself (x ∷ y ∷ zs)) (firsts itself (y ∷ x ∷ zs))
    by_test true e = subst (λ w. IsPermutation (firsts itself (x ∷ w ∷ zs)) (firsts itself (w ∷ x ∷ zs))) (same_values-equal x y e) (IsPermutation-refl (firsts itself (x ∷ x ∷ zs)))
    by_test false e =
        two_firsts x y (same_values x y) (same_values y x) (filter (differs x) (filter (differs y) (firsts itself zs))) (filter (differs y) (filter (differs x) (firsts itself zs)))
        e (sym (values_equiv.symm x y) ∙ e) (filters_exchanged (differs x) (differs y) (firsts itself zs))

-- the first of equal keys of a rearrangement
pub firsts-IsPermutation : (xs ys : List (List Value)) → IsPermutation xs ys → IsPermutation (firsts (λ k. k) xs) (firsts (λ k. k) ys)
firsts-IsPermutation =
    IsPermutation-relates (λ xs ys. IsPermutation (firsts itself xs) (firsts itself ys)) (λ xs. IsPermutation-refl (firsts itself xs)) (λ xs ys zs h k. IsPermutation-trans _ _ _ h k)
    (λ x us vs h. IsPermutation-cons x _ _ (IsPermutation-filter (differs x) (firsts itself us) (firsts itself vs) h)) neighbours

-- ---- classes

module _ {X : Type 0} (key : X → List Value) where
  -- the keys of the classes are, in whatever order, the same
  pub keys-IsPermutation : (xs ys : List X) → IsPermutation xs ys → IsPermutation (map key (firsts key xs)) (map key (firsts key ys))
  keys-IsPermutation xs ys h =
      subst (λ l. IsPermutation l (map key (firsts key ys))) (sym (firsts_mapped key itself xs))
      (subst (IsPermutation (firsts itself (map key xs))) (sym (firsts_mapped key itself ys))
      (firsts-IsPermutation (map key xs) (map key ys) (IsPermutation-map key xs ys h)))

  -- the elements with a key, in their order
  abbrev pub with_key : List X → List Value → List X
  with_key xs k = filter (λ y. same_values k (key y)) xs

  module _ {Y : Type 0} (f : List X → Y) where
    by_keys : (xs zs : List X) → map f (map (class_of key xs) zs) ≡ map (λ k. f (with_key xs k)) (map key zs)
    by_keys xs [] = refl
    by_keys xs (z ∷ zs) = ap (λ l. f (class_of key xs z) ∷ l) (by_keys xs zs)

    same_on : (xs ys : List X) (ks : List (List Value)) → ((k : List Value) → f (with_key xs k) ≡ f (with_key ys k)) → map (λ k. f (with_key xs k)) ks ≡ map (λ k. f (with_key ys k)) ks
    same_on xs ys [] h = refl
    same_on xs ys (k ∷ ks) h = ap (λ v. v ∷ map (λ k. f (with_key xs k)) ks) (h k) ∙ ap (λ l. f (with_key ys k) ∷ l) (same_on xs ys ks h)

    -- what classes give, where elements with equal keys give the same in another order
    pub classes-IsPermutation : (xs ys : List X) → IsPermutation xs ys → ((k : List Value) → f (with_key xs k) ≡ f (with_key ys k)) → IsPermutation (map f (classes key xs)) (map f (classes key ys))
    classes-IsPermutation xs ys h alike =
        subst (λ l. IsPermutation l (map f (classes key ys))) (sym (by_keys xs (firsts key xs) ∙ same_on xs ys (map key (firsts key xs)) alike))
        (subst (IsPermutation (map (λ k. f (with_key ys k)) (map key (firsts key xs)))) (sym (by_keys ys (firsts key ys)))
        (IsPermutation-map (λ k. f (with_key ys k)) (map key (firsts key xs)) (map key (firsts key ys)) (keys-IsPermutation xs ys h)))
