-- Lists that are related place by place.
use Rattle.std.proofs.Common.{◌≡◌, Bool, true, false, not, cond, List, [], ◌∷◌, map, filter, suc, length, refl, ap, ◌∙◌}
use Rattle.rx_value.specs.declared.values.Value.{Value}
use Rattle.rx_group.specs.Classes.{same_values, firsts, class_of, classes}
use Rattle.rx_named.specs.Agreement.{PlaceByPlace}

module _ {X : Type 0} (R : X → X → Type 0) where
  pub lengths_alike : (xs ys : List X) → PlaceByPlace R xs ys → length xs ≡ length ys
  lengths_alike [] [] h = refl
  lengths_alike [] (y ∷ ys) h = absurd h
  lengths_alike (x ∷ xs) [] h = absurd h
  lengths_alike (x ∷ xs) (y ∷ ys) h = ap (λ n. suc n) (lengths_alike xs ys h.1)

  -- functions that give the same of what is related
  pub maps_same : {Z : Type 0} (f g : X → Z) → ((x y : X) → R x y → f x ≡ g y) → (xs ys : List X) → PlaceByPlace R xs ys → map f xs ≡ map g ys
  maps_same f g same [] [] h = refl
  maps_same f g same [] (y ∷ ys) h = absurd h
  maps_same f g same (x ∷ xs) [] h = absurd h
  maps_same f g same (x ∷ xs) (y ∷ ys) h = ap (λ z. z ∷ map f xs) (same x y h.0) ∙ ap (λ l. g y ∷ l) (maps_same f g same xs ys h.1)

  -- functions that give what is related of what is related
  pub maps_alike : {Z : Type 0} (S : Z → Z → Type 0) (f g : X → Z) → ((x y : X) → R x y → S (f x) (g y)) → (xs ys : List X) → PlaceByPlace R xs ys → PlaceByPlace S (map f xs) (map g ys)
  maps_alike S f g same [] [] h = tt
  maps_alike S f g same [] (y ∷ ys) h = absurd h
  maps_alike S f g same (x ∷ xs) [] h = absurd h
  maps_alike S f g same (x ∷ xs) (y ∷ ys) h = (same x y h.0, maps_alike S f g same xs ys h.1)

  -- tests that keep or refuse what is related together
  pub filters_alike : (p q : X → Bool) → ((x y : X) → R x y → p x ≡ q y) → (xs ys : List X) → PlaceByPlace R xs ys → PlaceByPlace R (filter p xs) (filter q ys)
  filters_alike p q same [] [] h = tt
  filters_alike p q same [] (y ∷ ys) h = absurd h
  filters_alike p q same (x ∷ xs) [] h = absurd h
  filters_alike p q same (x ∷ xs) (y ∷ ys) h = by_tests (p x) (q y) (same x y h.0) (filters_alike p q same xs ys h.1)
    where
      by_tests : (b c : Bool) → b ≡ c → PlaceByPlace R (filter p xs) (filter q ys) → PlaceByPlace R (cond b (x ∷ filter p xs) (filter p xs)) (cond c (y ∷ filter q ys) (filter q ys))
      by_tests true true e k = (h.0, k)
      by_tests true false e k = absurd cc
      by_tests false true e k = absurd cc
      by_tests false false e k = k

  module _ (key : X → List Value) (same : (x y : X) → R x y → key x ≡ key y) where
    -- elements that are related are in classes of their lists together
    same_class : (x y : X) → R x y → (v w : X) → R v w → same_values (key x) (key v) ≡ same_values (key y) (key w)
    same_class x y h v w k = ap (λ l. same_values l (key v)) (same x y h) ∙ ap (same_values (key y)) (same v w k)

    pub firsts_alike : (xs ys : List X) → PlaceByPlace R xs ys → PlaceByPlace R (firsts key xs) (firsts key ys)
    firsts_alike [] [] h = tt
    firsts_alike [] (y ∷ ys) h = absurd h
    firsts_alike (x ∷ xs) [] h = absurd h
    firsts_alike (x ∷ xs) (y ∷ ys) h =
        (h.0, filters_alike (λ v. not (same_values (key x) (key v))) (λ w. not (same_values (key y) (key w))) (λ v w k. ap not (same_class x y h.0 v w k)) (firsts key xs) (firsts key ys) (firsts_alike xs ys h.1))

    pub classes_alike : (xs ys : List X) → PlaceByPlace R xs ys → PlaceByPlace (PlaceByPlace R) (classes key xs) (classes key ys)
    classes_alike xs ys h =
        maps_alike (PlaceByPlace R) (class_of key xs) (class_of key ys)
        (λ x y k. filters_alike (λ v. same_values (key x) (key v)) (λ w. same_values (key y) (key w)) (same_class x y k) xs ys h)
        (firsts key xs) (firsts key ys) (firsts_alike xs ys h)

-- a relation that another one implies
module _ {X : Type 0} (R S : X → X → Type 0) (weaker : (x y : X) → R x y → S x y) where
  pub place_by_place_weaker : (xs ys : List X) → PlaceByPlace R xs ys → PlaceByPlace S xs ys
  place_by_place_weaker [] [] h = tt
  place_by_place_weaker [] (y ∷ ys) h = absurd h
  place_by_place_weaker (x ∷ xs) [] h = absurd h
  place_by_place_weaker (x ∷ xs) (y ∷ ys) h = (weaker x y h.0, place_by_place_weaker xs ys h.1)
