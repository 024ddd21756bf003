-- Items over a rearrangement of a group.
use Rattle.std.proofs.Common.{◌≡◌, ℕ, ◌||◌, Bool, true, false, cond, List, [], ◌∷◌, length, filter, Option, Some, None, refl, sym, ap, subst, ◌∙◌, IsPermutation, arith}
use Rattle.std.specs.Prelude.{ℤ, ◌+ℤ◌, unwrap_or, nat_eq, not}
use Rattle.std.specs.declared.cmp.Ordering.{Ordering}
use Rattle.std.specs.declared.cmp.Ordering.TheVariants.{Less, Equal, Greater}
use Rattle.std.specs.Ordering.{is_lt, ordering_reverse}
use Rattle.std.specs.Cmp.{IsStrictWeakOrder}
use Rattle.std.specs.List.{fold, reduce, AllByRecursion}
use Rattle.std.proofs.lemmas.Bool.{eqb-true}
use Rattle.std.proofs.lemmas.Int.{ints}
use Rattle.std.proofs.lemmas.List.{length-map}
use Rattle.std.proofs.lemmas.List.Sorted.{IsPermutation-map, length_permutation, ranks_by, IsStrictWeakOrder-flip}
use Rattle.rx_value.specs.declared.values.Value.{Value}
use Rattle.rx_value.specs.declared.values.Value.TheVariants.{Null}
use Rattle.rx_value.specs.Order.{value_cmp}
use Rattle.rx_value.proofs.Equal.{value_cmp-equal}
use Rattle.rx_cond.specs.Test.{column_value, is_null_value}
use Rattle.rx_query.specs.declared.statements.Item.{Item}
use Rattle.rx_query.specs.declared.statements.Item.TheVariants.{Column, CountRows, Count, CountDistinct, Sum, Min, Max}
use Rattle.rx_query.specs.Grouping.{is_among, is_grouped_item}
use Rattle.rx_group.specs.Classes.{values_at, firsts}
use Rattle.rx_group.specs.OrderLaws.{value_cmp_total}
use Rattle.rx_group.proofs.Bags.{IsPermutation-relates, IsPermutation-filter, IsPermutation-filter_map}
use Rattle.rx_group.proofs.Rearranged.{keys-IsPermutation}
use Rattle.rx_aggregate.specs.Aggregates.{count_value, present, is_whole_at, distinct_count, integer_of, integers, first_or, integer_value, sum_value, least, greatest, first_row, item_over}

-- ---- reductions

module _ {X : Type 0} (f : X → X → X) (commutes : (x y : X) → f x y ≡ f y x) (exchanges : (a x y : X) → f (f a x) y ≡ f (f a y) x) where
  abbrev step : Option X → X → Option X
  step o x = Some (first_or f o x)

  fold_from : (a : X) (xs : List X) → fold step (Some a) xs ≡ Some (fold f a xs)
  fold_from a [] = refl
  fold_from a (x ∷ xs) = fold_from (f a x) xs

  as_fold : (xs : List X) → fold step None xs ≡ reduce f xs
  as_fold [] = refl
  as_fold (x ∷ xs) = fold_from x xs

  steps_exchanged : (o : Option X) (x y : X) → step (step o x) y ≡ step (step o y) x
  steps_exchanged None x y = ap Some (commutes x y)
  steps_exchanged (Some a) x y = ap Some (exchanges a x y)

  -- in whatever order
  pub reduce-IsPermutation : (xs ys : List X) → IsPermutation xs ys → reduce f xs ≡ reduce f ys
  reduce-IsPermutation xs ys h =
      sym (as_fold xs)
      ∙ IsPermutation-relates (λ us vs. (o : Option X) → fold step o us ≡ fold step o vs) (λ us o. refl) (λ us vs ws p q o. p o ∙ q o)
      (λ x us vs p o. p (step o x)) (λ x y zs o. ap (λ t. fold step t zs) (steps_exchanged o x y)) xs ys h None
      ∙ as_fold ys

-- ---- the first by an order in which no two tie

module _ {X : Type 0} (lt : X → X → Bool) (o : IsStrictWeakOrder lt) (apart : (x y : X) → lt x y ≡ false → lt y x ≡ false → x ≡ y) where
  -- the second where it stands before the first
  abbrev first_of : X → X → X
  first_of v w = cond (lt w v) w v

  first_commutes : (x y : X) → first_of x y ≡ first_of y x
  first_commutes x y = by_tests (lt y x) (lt x y) refl refl
    where
      by_tests : (b c : Bool) → lt y x ≡ b → lt x y ≡ c → cond b y x ≡ cond c x y
      by_tests true true e f = let g : lt x y ≡ false = o.one_way y x e in absurd cc
      by_tests true false e f = refl
      by_tests false true e f = refl
      by_tests false false e f = apart x y f e

  first_exchanges : (a x y : X) → first_of (first_of a x) y ≡ first_of (first_of a y) x
  first_exchanges a x y = by_tests (lt x a) (lt y a) refl refl
    where
      by_tests : (b c : Bool) → lt x a ≡ b → lt y a ≡ c → first_of (cond b x a) y ≡ first_of (cond c y a) x
      by_tests true true e f = first_commutes x y
      by_tests true false e f = ap (λ t. cond t y x) (o.chain y a x f (o.one_way x a e)) ∙ sym (ap (λ t. cond t x a) e)
      by_tests false true e f = ap (λ t. cond t y a) f ∙ sym (ap (λ t. cond t x y) (o.chain x a y e (o.one_way y a f)))
      by_tests false false e f = ap (λ t. cond t y a) f ∙ sym (ap (λ t. cond t x a) e)

  pub first-IsPermutation : (xs ys : List X) → IsPermutation xs ys → reduce first_of xs ≡ reduce first_of ys
  first-IsPermutation = reduce-IsPermutation first_of first_commutes first_exchanges

abbrev before : Value → Value → Bool
before v w = is_lt (value_cmp v w)

before_ranks : IsStrictWeakOrder before
before_ranks = ranks_by value_cmp_total (λ (v : Value). v)

none_tie : (v w : Value) → before v w ≡ false → before w v ≡ false → v ≡ w
none_tie v w e f = by_order (value_cmp v w) refl e (ap is_lt (sym (value_cmp_total.antisymm w v)) ∙ f)
  where
    by_order : (o : Ordering) → value_cmp v w ≡ o → is_lt o ≡ false → is_lt (ordering_reverse o) ≡ false → v ≡ w
    by_order Less is e f = absurd cc
    by_order Equal is e f = value_cmp-equal v w is
    by_order Greater is e f = absurd cc

least-IsPermutation : (vs ws : List Value) → IsPermutation vs ws → least vs ≡ least ws
least-IsPermutation vs ws h = ap (λ o. unwrap_or o Null) (first-IsPermutation before before_ranks none_tie vs ws h)

greatest-IsPermutation : (vs ws : List Value) → IsPermutation vs ws → greatest vs ≡ greatest ws
greatest-IsPermutation vs ws h =
    ap (λ o. unwrap_or o Null)
    (first-IsPermutation (λ v w. before w v) (IsStrictWeakOrder-flip before before_ranks) (λ v w e f. none_tie v w f e) vs ws h)

plus_commutes : (m n : ℤ) → m +ℤ n ≡ n +ℤ m
plus_commutes m n = omega (arith, ints)

plus_exchanges : (a m n : ℤ) → (a +ℤ m) +ℤ n ≡ (a +ℤ n) +ℤ m
plus_exchanges a m n = omega (arith, ints)

sum-IsPermutation : (ms ns : List ℤ) → IsPermutation ms ns → sum_value ms ≡ sum_value ns
sum-IsPermutation ms ns h = ap integer_value (reduce-IsPermutation (λ a b. a +ℤ b) plus_commutes plus_exchanges ms ns h)

-- ---- values of a column, and lists of them

present-IsPermutation : (c : ℕ) (rs ss : List (List Value)) → IsPermutation rs ss → IsPermutation (present c rs) (present c ss)
present-IsPermutation c rs ss h = IsPermutation-filter (λ v. not (is_null_value v)) _ _ (IsPermutation-map (column_value c) rs ss h)

integers-IsPermutation : (c : ℕ) (rs ss : List (List Value)) → IsPermutation rs ss → IsPermutation (integers c rs) (integers c ss)
integers-IsPermutation c rs ss h = IsPermutation-filter_map integer_of _ _ (IsPermutation-map (column_value c) rs ss h)

distinct_count-IsPermutation : (columns : List ℕ) (rs ss : List (List Value)) → IsPermutation rs ss → distinct_count columns rs ≡ distinct_count columns ss
distinct_count-IsPermutation columns rs ss h =
    let key = values_at columns in
    sym (length-map (firsts key (filter (is_whole_at columns) rs)) key)
    ∙ sym (length_permutation _ _ (keys-IsPermutation key _ _ (IsPermutation-filter (is_whole_at columns) rs ss h)))
    ∙ length-map (firsts key (filter (is_whole_at columns) ss)) key

-- ---- a column that rows have the same values at

among : (group : List ℕ) (c : ℕ) (r s : List Value) → is_among group c ≡ true → values_at group r ≡ values_at group s → column_value c r ≡ column_value c s
among [] c r s e same = absurd cc
among (m ∷ group) c r s e same = by_test (nat_eq m c) refl e (among group c r s)
  where
    heads : column_value m r ≡ column_value m s
    heads = cc

    tails : values_at group r ≡ values_at group s
    tails = cc

    by_test : (b : Bool) → nat_eq m c ≡ b → (b || is_among group c) ≡ true → (is_among group c ≡ true → values_at group r ≡ values_at group s → column_value c r ≡ column_value c s) → column_value c r ≡ column_value c s
    by_test true is e h = subst (λ n. column_value n r ≡ column_value n s) (eqb-true m c is) heads
    by_test false is e h = h e tails

module _ (group : List ℕ) (k : List Value) where
  -- rows have these values at the columns of GROUP BY
  abbrev pub Have : List (List Value) → Type 0
  Have rows = AllByRecursion (λ row. values_at group row ≡ k) rows

  first_rows : (c : ℕ) (rs ss : List (List Value)) → is_among group c ≡ true → length ss ≡ length rs → Have rs → Have ss → column_value c (first_row rs) ≡ column_value c (first_row ss)
  first_rows c [] [] e long h i = refl
  first_rows c [] (s ∷ ss) e long h i = absurd (omega (arith, long))
  first_rows c (r ∷ rs) [] e long h i = absurd (omega (arith, long))
  first_rows c (r ∷ rs) (s ∷ ss) e long h i = among group c r s e (h.0 ∙ sym i.0)

  -- an item is the same over a rearrangement of a group, where it is an aggregate or a column of GROUP BY
  pub item-IsPermutation : (rs ss : List (List Value)) → IsPermutation rs ss → Have rs → Have ss → (item : Item) → is_grouped_item group item ≡ true → item_over rs item ≡ item_over ss item
  item-IsPermutation rs ss h left right (Column c) e = first_rows c rs ss e (length_permutation rs ss h) left right
  item-IsPermutation rs ss h left right CountRows e = ap count_value (sym (length_permutation rs ss h))
  item-IsPermutation rs ss h left right (Count c) e = ap count_value (sym (length_permutation (present c rs) (present c ss) (present-IsPermutation c rs ss h)))
  item-IsPermutation rs ss h left right (CountDistinct columns) e = ap count_value (distinct_count-IsPermutation columns rs ss h)
  item-IsPermutation rs ss h left right (Sum c) e = sum-IsPermutation (integers c rs) (integers c ss) (integers-IsPermutation c rs ss h)
  item-IsPermutation rs ss h left right (Min c) e = least-IsPermutation (present c rs) (present c ss) (present-IsPermutation c rs ss h)
  item-IsPermutation rs ss h left right (Max c) e = greatest-IsPermutation (present c rs) (present c ss) (present-IsPermutation c rs ss h)
