-- One more element among classes.
use Rattle.std.proofs.Common.{◌≡◌, ℕ, zero, suc, ◌<◌, Bool, true, false, not, ◌||◌, cond, List, [], ◌∷◌, ◌++◌, length, map, filter, Option, Some, None, is_some, unwrap_or, get_or, set, refl, sym, ap, subst, ◌∙◌, arith}
use Rattle.std.specs.Prelude.{nat_lt, nat_eq}
use Rattle.std.specs.Option.{option_map}
use Rattle.std.specs.List.{list_any, AllByRecursion}
use Rattle.std.specs.BTreeMap.{BTreeMap}
use Rattle.std.proofs.lemmas.Bool.{lt-ltb}
use Rattle.std.proofs.lemmas.List.{map-append, length-map}
use Rattle.std.proofs.lemmas.List.Elements.{filter-append}
use Rattle.rx_value.specs.declared.values.Value.{Value}
use Rattle.rx_group.specs.Classes.{same_values, firsts, class_of, classes}
use Rattle.rx_group.specs.Numbers.{place_of, Numbers, Notes, added}
use Rattle.rx_group.specs.OrderLaws.{values_equiv}

abbrev Key : Type 0
Key = List Value

-- equal lists are equal to the same lists
alike : (a b c : Key) → same_values a b ≡ true → same_values a c ≡ same_values b c
alike a b c e = values_equiv.congr a b c e

turned : (a b : Key) → same_values a b ≡ same_values b a
turned a b = values_equiv.symm a b

-- ---- places

place_alike : (a b : Key) (ks : List Key) → same_values a b ≡ true → place_of a ks ≡ place_of b ks
place_alike a b [] e = refl
place_alike a b (k ∷ ks) e =
    ap (λ t. cond t (Some 0) (option_map suc (place_of a ks))) (alike a b k e)
    ∙ ap (λ p. cond (same_values b k) (Some 0) (option_map suc p)) (place_alike a b ks e)

-- the place in a list with one more at its end
abbrev or_last : Option ℕ → Bool → ℕ → Option ℕ
or_last (Some p) b n = Some p
or_last None b n = cond b (Some n) None

later : (p : Option ℕ) (b : Bool) (n : ℕ) → option_map suc (or_last p b n) ≡ or_last (option_map suc p) b (suc n)
later (Some p) b n = refl
later None true n = refl
later None false n = refl

place_append : (q k : Key) (ks : List Key) → place_of q (ks ++ k ∷ []) ≡ or_last (place_of q ks) (same_values q k) (length ks)
place_append q k [] = refl
place_append q k (j ∷ ks) = by_head (same_values q j) (place_append q k ks)
  where
    by_head : (b : Bool) → place_of q (ks ++ k ∷ []) ≡ or_last (place_of q ks) (same_values q k) (length ks) → cond b (Some 0) (option_map suc (place_of q (ks ++ k ∷ []))) ≡ or_last (cond b (Some 0) (option_map suc (place_of q ks))) (same_values q k) (suc (length ks))
    by_head true h = refl
    by_head false h = ap (option_map suc) h ∙ later (place_of q ks) (same_values q k) (length ks)

place_within : (q : Key) (ks : List Key) (p : ℕ) → place_of q ks ≡ Some p → p < length ks
place_within q [] p e = absurd cc
place_within q (k ∷ ks) p e = by_head (same_values q k) (place_of q ks) p (place_within q ks) refl e
  where
    by_head : (b : Bool) (o : Option ℕ) (p : ℕ) → ((r : ℕ) → place_of q ks ≡ Some r → r < length ks) → place_of q ks ≡ o → cond b (Some 0) (option_map suc o) ≡ Some p → p < suc (length ks)
    by_head true o p h is e = let z : 0 ≡ p = cc in omega arith
    by_head false None p h is e = absurd cc
    by_head false (Some r) p h is e =
        let z : suc r ≡ p = cc in
        let w : r < length ks = h r is in
        omega arith

-- the keys after one more
abbrev more_keys : Option ℕ → List Key → Key → List Key
more_keys (Some p) ks k = ks
more_keys None ks k = ks ++ k ∷ []

pub numbers_more : (ks : List Key) (old new : BTreeMap Key ℕ) (k : Key) (number : ℕ) → Numbers ks old → Notes old new k (length ks) number → Numbers (more_keys (place_of k ks) ks k) new
numbers_more ks old new k number holds notes q =
    notes.noted q
    ∙ ap (λ o. cond (same_values k q) (Some number) o) (holds q)
    ∙ by_place (place_of k ks) (same_values k q) refl refl (notes.number_is ∙ ap (λ o. unwrap_or o (length ks)) (holds k))
  where
    by_place : (o : Option ℕ) (b : Bool) → place_of k ks ≡ o → same_values k q ≡ b → number ≡ unwrap_or o (length ks) → cond b (Some number) (place_of q ks) ≡ place_of q (more_keys o ks k)
    by_place (Some p) true is e n = ap Some n ∙ sym is ∙ place_alike k q ks e
    by_place (Some p) false is e n = refl
    by_place None b is e n = by_test b e ∙ sym (place_append q k ks)
      where
        by_test : (b : Bool) → same_values k q ≡ b → cond b (Some number) (place_of q ks) ≡ or_last (place_of q ks) (same_values q k) (length ks)
        by_test true e =
            ap Some n
            ∙ ap (λ t. cond t (Some (length ks)) None) (sym (turned q k ∙ e))
            ∙ ap (λ o. or_last o (same_values q k) (length ks)) (sym is ∙ place_alike k q ks e)
        by_test false e = by_there (place_of q ks) ∙ ap (λ t. or_last (place_of q ks) t (length ks)) (sym (turned q k ∙ e))
          where
            by_there : (o : Option ℕ) → o ≡ or_last o false (length ks)
            by_there (Some p) = refl
            by_there None = refl

-- ---- classes

module _ {X : Type 0} (key : X → Key) where
  abbrev is_same : X → X → Bool
  is_same x y = same_values (key x) (key y)

  abbrev keys_of : List X → List Key
  keys_of xs = map key (firsts key xs)

  -- the elements that differ from x
  abbrev differing : X → List X → List X
  differing x zs = filter (λ z. not (is_same x z)) zs

  some_later : (o : Option ℕ) → is_some (option_map suc o) ≡ is_some o
  some_later (Some p) = refl
  some_later None = refl

  -- the place of y among those that differ from x
  abbrev left : X → X → List X → Bool
  left x y zs = is_some (place_of (key y) (map key (filter (λ z. not (is_same x z)) zs)))

  -- what differs from x and is the same as y stays where what is the same as x is left out
  place_left : (x y : X) (zs : List X) → is_same x y ≡ false → left x y zs ≡ is_some (place_of (key y) (map key zs))
  place_left x y [] e = refl
  place_left x y (z ∷ zs) e = by_tests (is_same x z) (is_same y z) refl refl (place_left x y zs e)
    where
      by_tests : (b c : Bool) → is_same x z ≡ b → is_same y z ≡ c → left x y zs ≡ is_some (place_of (key y) (map key zs)) → is_some (place_of (key y) (map key (cond (not b) (z ∷ (differing x zs)) (differing x zs)))) ≡ is_some (cond c (Some 0) (option_map suc (place_of (key y) (map key zs))))
      by_tests true true p q h =
          let w : is_same x y ≡ true = alike (key x) (key z) (key y) p ∙ turned (key z) (key y) ∙ q in
          absurd cc
      by_tests true false p q h = h ∙ sym (some_later (place_of (key y) (map key zs)))
      by_tests false true p q h = ap (λ t. is_some (cond t (Some 0) (option_map suc (place_of (key y) (map key (differing x zs)))))) q
      by_tests false false p q h =
          ap (λ t. is_some (cond t (Some 0) (option_map suc (place_of (key y) (map key (differing x zs)))))) q
          ∙ some_later (place_of (key y) (map key (differing x zs)))
          ∙ h
          ∙ sym (some_later (place_of (key y) (map key zs)))

  -- an element is in a class just where the class has a place
  pub has_place : (xs : List X) (y : X) → list_any (λ x. is_same x y) xs ≡ is_some (place_of (key y) (keys_of xs))
  has_place [] y = refl
  has_place (x ∷ xs) y = by_test (is_same x y) refl (has_place xs y)
    where
      by_test : (b : Bool) → is_same x y ≡ b → list_any (λ x. is_same x y) xs ≡ is_some (place_of (key y) (keys_of xs)) → (b || list_any (λ x. is_same x y) xs) ≡ is_some (place_of (key y) (keys_of (x ∷ xs)))
      by_test true e h = sym (ap (λ t. is_some (cond t (Some 0) (option_map suc (place_of (key y) (map key (differing x (firsts key xs))))))) (turned (key y) (key x) ∙ e))
      by_test false e h =
          h
          ∙ sym (place_left x y (firsts key xs) e)
          ∙ sym (some_later (place_of (key y) (map key (differing x (firsts key xs)))))
          ∙ sym (ap (λ t. is_some (cond t (Some 0) (option_map suc (place_of (key y) (map key (differing x (firsts key xs))))))) (turned (key y) (key x) ∙ e))

  -- the first elements after one more
  pub firsts_append : (xs : List X) (y : X) → firsts key (xs ++ y ∷ []) ≡ firsts key xs ++ cond (list_any (λ x. is_same x y) xs) [] (y ∷ [])
  firsts_append [] y = refl
  firsts_append (x ∷ xs) y =
      ap (λ l. x ∷ filter (λ z. not (is_same x z)) l) (firsts_append xs y)
      ∙ ap (λ l. x ∷ l) (filter-append (λ z. not (is_same x z)) (firsts key xs) (cond (list_any (λ x. is_same x y) xs) [] (y ∷ [])))
      ∙ ap (λ l. x ∷ (filter (λ z. not (is_same x z)) (firsts key xs) ++ l)) (by_tests (is_same x y) (list_any (λ x. is_same x y) xs) refl)
    where
      by_tests : (b c : Bool) → is_same x y ≡ b → filter (λ z. not (is_same x z)) (cond c [] (y ∷ [])) ≡ cond (b || c) [] (y ∷ [])
      by_tests true true e = refl
      by_tests true false e = ap (λ t. cond (not t) (y ∷ []) []) e
      by_tests false true e = refl
      by_tests false false e = ap (λ t. cond (not t) (y ∷ []) []) e

  by_place_firsts : (xs : List X) (y : X) (o : Option ℕ) → place_of (key y) (keys_of xs) ≡ o → firsts key (xs ++ y ∷ []) ≡ firsts key xs ++ cond (is_some o) [] (y ∷ [])
  by_place_firsts xs y o is = firsts_append xs y ∙ ap (λ t. firsts key xs ++ cond t [] (y ∷ [])) (has_place xs y ∙ ap is_some is)

  -- ---- the class that one more element comes into

  -- elements of which the key of each differs from that of y
  abbrev Others : X → List X → Type 0
  Others y zs = AllByRecursion (λ z. is_same z y ≡ false) zs

  -- elements of which no two have equal keys
  abbrev Apart : List X → Type 0
  Apart [] = Unit {0}
  Apart (x ∷ xs) = AllByRecursion (λ z. is_same x z ≡ false) xs × Apart xs

  left_differ : (x : X) (zs : List X) → AllByRecursion (λ z. is_same x z ≡ false) (filter (λ z. not (is_same x z)) zs)
  left_differ x [] = tt
  left_differ x (z ∷ zs) = by_test (is_same x z) refl (left_differ x zs)
    where
      by_test : (b : Bool) → is_same x z ≡ b → AllByRecursion (λ z. is_same x z ≡ false) (differing x zs) → AllByRecursion (λ z. is_same x z ≡ false) (cond (not b) (z ∷ (differing x zs)) (differing x zs))
      by_test true e h = h
      by_test false e h = (e, h)

  kept_all : (P : X → Type 0) (p : X → Bool) (zs : List X) → AllByRecursion P zs → AllByRecursion P (filter p zs)
  kept_all P p [] h = tt
  kept_all P p (z ∷ zs) h = by_test (p z) (kept_all P p zs h.1)
    where
      by_test : (b : Bool) → AllByRecursion P (filter p zs) → AllByRecursion P (cond b (z ∷ filter p zs) (filter p zs))
      by_test true k = (h.0, k)
      by_test false k = k

  kept_apart : (p : X → Bool) (zs : List X) → Apart zs → Apart (filter p zs)
  kept_apart p [] h = tt
  kept_apart p (z ∷ zs) h = by_test (p z) (kept_apart p zs h.1)
    where
      by_test : (b : Bool) → Apart (filter p zs) → Apart (cond b (z ∷ filter p zs) (filter p zs))
      by_test true k = (kept_all (λ w. is_same z w ≡ false) p zs h.0, k)
      by_test false k = k

  firsts_apart : (xs : List X) → Apart (firsts key xs)
  firsts_apart [] = tt
  firsts_apart (x ∷ xs) = (left_differ x (firsts key xs), kept_apart (λ z. not (is_same x z)) (firsts key xs) (firsts_apart xs))

  -- a class after one more element
  abbrev grown : (X → List X) → X → X → List X
  grown f y x = f x ++ cond (is_same x y) (y ∷ []) []

  append_nil : (xs : List X) → xs ++ [] ≡ xs
  append_nil [] = refl
  append_nil (x ∷ xs) = ap (λ l. x ∷ l) (append_nil xs)

  others_stay : (f : X → List X) (y : X) (zs : List X) → Others y zs → map (grown f y) zs ≡ map f zs
  others_stay f y [] h = refl
  others_stay f y (z ∷ zs) h =
      ap (λ t. (f z ++ cond t (y ∷ []) []) ∷ map (grown f y) zs) h.0
      ∙ ap (λ l. l ∷ map (grown f y) zs) (append_nil (f z))
      ∙ ap (λ l. f z ∷ l) (others_stay f y zs h.1)

  all_others : (x y : X) (zs : List X) → is_same x y ≡ true → AllByRecursion (λ z. is_same x z ≡ false) zs → Others y zs
  all_others x y [] e h = tt
  all_others x y (z ∷ zs) e h = (turned (key z) (key y) ∙ sym (alike (key x) (key y) (key z) e) ∙ h.0, all_others x y zs e h.1)

  no_place : (y : X) (zs : List X) → place_of (key y) (map key zs) ≡ None → Others y zs
  no_place y [] e = tt
  no_place y (z ∷ zs) e = by_test (is_same y z) (place_of (key y) (map key zs)) refl refl e (no_place y zs)
    where
      by_test : (b : Bool) (o : Option ℕ) → is_same y z ≡ b → place_of (key y) (map key zs) ≡ o → cond b (Some 0) (option_map suc o) ≡ None → (place_of (key y) (map key zs) ≡ None → Others y zs) → Others y (z ∷ zs)
      by_test true o is p e h = absurd cc
      by_test false None is p e h = (turned (key z) (key y) ∙ is, h p)
      by_test false (Some r) is p e h = absurd cc

  one_grows : (f : X → List X) (y : X) (zs : List X) (p : ℕ) → Apart zs → place_of (key y) (map key zs) ≡ Some p → map (grown f y) zs ≡ set (map f zs) p (get_or (map f zs) p [] ++ y ∷ [])
  one_grows f y [] p apart e = absurd cc
  one_grows f y (z ∷ zs) p apart e = by_test (is_same y z) (place_of (key y) (map key zs)) p refl refl e (λ r k. one_grows f y zs r apart.1 k)
    where
      by_test : (b : Bool) (o : Option ℕ) (p : ℕ) → is_same y z ≡ b → place_of (key y) (map key zs) ≡ o → cond b (Some 0) (option_map suc o) ≡ Some p → ((r : ℕ) → place_of (key y) (map key zs) ≡ Some r → map (grown f y) zs ≡ set (map f zs) r (get_or (map f zs) r [] ++ y ∷ [])) → map (grown f y) (z ∷ zs) ≡ set (map f (z ∷ zs)) p (get_or (map f (z ∷ zs)) p [] ++ y ∷ [])
      by_test true o zero is at e h =
          ap (λ t. (f z ++ cond t (y ∷ []) []) ∷ map (grown f y) zs) (turned (key z) (key y) ∙ is)
          ∙ ap (λ l. (f z ++ y ∷ []) ∷ l) (others_stay f y zs (all_others z y zs (turned (key z) (key y) ∙ is) apart.0))
      by_test true o (suc r) is at e h = absurd cc
      by_test false None p is at e h = absurd cc
      by_test false (Some r) zero is at e h = absurd cc
      by_test false (Some r) (suc p) is at e h =
          let same : r ≡ p = cc in
          ap (λ t. (f z ++ cond t (y ∷ []) []) ∷ map (grown f y) zs) (turned (key z) (key y) ∙ is)
          ∙ ap (λ l. l ∷ map (grown f y) zs) (append_nil (f z))
          ∙ ap (λ l. f z ∷ l) (h p (at ∙ ap Some same))

  none_same : (xs : List X) (y : X) → list_any (λ x. is_same x y) xs ≡ false → class_of key xs y ≡ []
  none_same [] y e = refl
  none_same (x ∷ xs) y e = by_test (is_same x y) refl e (none_same xs y)
    where
      by_test : (b : Bool) → is_same x y ≡ b → (b || list_any (λ x. is_same x y) xs) ≡ false → (list_any (λ x. is_same x y) xs ≡ false → class_of key xs y ≡ []) → class_of key (x ∷ xs) y ≡ []
      by_test true is e h = absurd cc
      by_test false is e h = ap (λ t. cond t (x ∷ class_of key xs y) (class_of key xs y)) (turned (key y) (key x) ∙ is) ∙ h e

  all_grow : (xs : List X) (y : X) (zs : List X) → map (class_of key (xs ++ y ∷ [])) zs ≡ map (grown (class_of key xs) y) zs
  all_grow xs y [] = refl
  all_grow xs y (z ∷ zs) =
      ap (λ l. l ∷ map (class_of key (xs ++ y ∷ [])) zs) (filter-append (λ x. is_same z x) xs (y ∷ []))
      ∙ ap (λ l. grown (class_of key xs) y z ∷ l) (all_grow xs y zs)

  abbrev count : List X → ℕ
  count xs = length (classes key xs)

  as_many : (xs : List X) → length (keys_of xs) ≡ count xs
  as_many xs = length-map (firsts key xs) key ∙ sym (length-map (firsts key xs) (class_of key xs))

  classes_by : (xs : List X) (y : X) (o : Option ℕ) (number : ℕ) → place_of (key y) (keys_of xs) ≡ o → number ≡ unwrap_or o (count xs) → added (classes key xs) number y ≡ classes key (xs ++ y ∷ [])
  classes_by xs y (Some p) number is n =
      let within : p < count xs = subst (λ k. p < k) (as_many xs) (place_within (key y) (keys_of xs) p is) in
      ap (λ k. added (classes key xs) k y) n
      ∙ ap (λ t. cond t (set (classes key xs) p (get_or (classes key xs) p [] ++ y ∷ [])) (classes key xs ++ (y ∷ []) ∷ [])) (lt-ltb p (count xs) within)
      ∙ sym (one_grows (class_of key xs) y (firsts key xs) p (firsts_apart xs) is)
      ∙ sym (all_grow xs y (firsts key xs))
      ∙ ap (λ l. map (class_of key (xs ++ y ∷ [])) l) (sym (by_place_firsts xs y (Some p) is ∙ append_nil (firsts key xs)))
  classes_by xs y None number is n =
      ap (λ k. added (classes key xs) k y) n
      ∙ ap (λ t. cond t (set (classes key xs) (count xs) (get_or (classes key xs) (count xs) [] ++ y ∷ [])) (classes key xs ++ (y ∷ []) ∷ [])) (not_below (count xs))
      ∙ ap (λ l. l ++ (y ∷ []) ∷ []) (sym (all_grow xs y (firsts key xs) ∙ others_stay (class_of key xs) y (firsts key xs) (no_place y (firsts key xs) is)))
      ∙ ap (λ l. map (class_of key (xs ++ y ∷ [])) (firsts key xs) ++ l ∷ []) (sym alone)
      ∙ sym (map-append (class_of key (xs ++ y ∷ [])) (firsts key xs) (y ∷ []))
      ∙ ap (λ l. map (class_of key (xs ++ y ∷ [])) l) (sym (by_place_firsts xs y None is))
    where
      not_below : (n : ℕ) → nat_lt n n ≡ false
      not_below n = grind arith

      alone : class_of key (xs ++ y ∷ []) y ≡ y ∷ []
      alone =
          filter-append (λ x. is_same y x) xs (y ∷ [])
          ∙ ap (λ l. l ++ cond (is_same y y) (y ∷ []) []) (none_same xs y (has_place xs y ∙ ap is_some is))
          ∙ ap (λ t. cond t (y ∷ []) []) (values_equiv.refl (key y))

  keys_by : (xs : List X) (y : X) (o : Option ℕ) → place_of (key y) (keys_of xs) ≡ o → keys_of (xs ++ y ∷ []) ≡ more_keys o (keys_of xs) (key y)
  keys_by xs y (Some p) is = ap (map key) (by_place_firsts xs y (Some p) is ∙ append_nil (firsts key xs))
  keys_by xs y None is = ap (map key) (by_place_firsts xs y None is) ∙ map-append key (firsts key xs) (y ∷ [])

  pub numbers_kept : (xs : List X) (y : X) (old new : BTreeMap Key ℕ) (next number : ℕ) → next ≡ length (firsts key xs) → Numbers (keys_of xs) old → Notes old new (key y) next number → Numbers (keys_of (xs ++ y ∷ [])) new
  numbers_kept xs y old new next number is holds notes =
      let e : next ≡ length (keys_of xs) = is ∙ sym (length-map (firsts key xs) key) in
      subst (λ ks. Numbers ks new) (sym (keys_by xs y (place_of (key y) (keys_of xs)) refl))
      (numbers_more (keys_of xs) old new (key y) number holds (subst (λ n. Notes old new (key y) n number) e notes))

  pub classes_more : (xs : List X) (y : X) (old new : BTreeMap Key ℕ) (next number : ℕ) → next ≡ count xs → Numbers (keys_of xs) old → Notes old new (key y) next number → added (classes key xs) number y ≡ classes key (xs ++ y ∷ [])
  classes_more xs y old new next number is holds notes =
      classes_by xs y (place_of (key y) (keys_of xs)) number refl (notes.number_is ∙ ap (λ o. unwrap_or o next) (holds (key y)) ∙ ap (λ n. unwrap_or (place_of (key y) (keys_of xs)) n) is)

  -- the first elements after one more, which is one where its number is the next
  pub firsts_more : (xs : List X) (y : X) (old new : BTreeMap Key ℕ) (next number : ℕ) → next ≡ length (firsts key xs) → Numbers (keys_of xs) old → Notes old new (key y) next number → firsts key (xs ++ y ∷ []) ≡ firsts key xs ++ cond (nat_eq number next) (y ∷ []) []
  firsts_more xs y old new next number is holds notes =
      by_place_firsts xs y (place_of (key y) (keys_of xs)) refl
      ∙ ap (λ l. firsts key xs ++ l) (by_place (place_of (key y) (keys_of xs)) refl (notes.number_is ∙ ap (λ o. unwrap_or o next) (holds (key y))))
    where
      below_apart : (p n : ℕ) → p < n → nat_eq p n ≡ false
      below_apart p n h = grind arith

      equal_itself : (n : ℕ) → nat_eq n n ≡ true
      equal_itself n = grind arith

      by_place : (o : Option ℕ) → place_of (key y) (keys_of xs) ≡ o → number ≡ unwrap_or o next → cond (is_some o) [] (y ∷ []) ≡ cond (nat_eq number next) (y ∷ []) []
      by_place (Some p) at n =
          let within : p < next = subst (λ k. p < k) (length-map (firsts key xs) key ∙ sym is) (place_within (key y) (keys_of xs) p at) in
          sym (ap (λ t. cond t (y ∷ []) []) (ap (λ k. nat_eq k next) n ∙ below_apart p next within))
      by_place None at n = sym (ap (λ t. cond t (y ∷ []) []) (ap (λ k. nat_eq k next) n ∙ equal_itself next))
