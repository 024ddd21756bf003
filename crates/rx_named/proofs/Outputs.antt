-- Output rows of rows that agree on the columns that a question names, and their order.
use Rattle.std.proofs.Common.{◌≡◌, ℕ, Bool, true, false, cond, List, [], ◌∷◌, map, refl, ap, ◌∙◌}
use Rattle.std.specs.declared.cmp.Ordering.{Ordering}
use Rattle.std.specs.Ordering.{ordering_then, is_lt}
use Rattle.rx_value.specs.declared.values.Value.{Value}
use Rattle.rx_value.specs.Order.{value_cmp}
use Rattle.rx_query.specs.declared.statements.By.{By}
use Rattle.rx_query.specs.declared.statements.By.TheVariants.{Column, Place}
use Rattle.rx_query.specs.declared.statements.Item.{Item}
use Rattle.rx_query.specs.declared.statements.Order.{Order}
use Rattle.rx_query.specs.Steps.{columns_listed}
use Rattle.rx_group.specs.Classes.{values_at}
use Rattle.rx_cond.specs.Test.{column_value}
use Rattle.rx_order.specs.Order.{Output, value_by, outputs_cmp_by, outputs_cmp, is_before, in_order, distinct_if}
use Rattle.rx_order.specs.Stable.{put, ordered}
use Rattle.rx_rows.specs.Finish.{groups_by, groups_if, output_of}
use Rattle.rx_named.specs.Agreement.{PlaceByPlace, AgreeOn, AllAgreeOn}
use Rattle.rx_named.specs.Naming.{is_one_of, column_ordered_by, columns_ordered}
use Rattle.rx_named.proofs.Alike.{maps_same, maps_alike, firsts_alike, classes_alike}
use Rattle.rx_named.proofs.Items.{agree_on_fewer, all_agree_on_fewer, first_rows_agree, items_same}
use Rattle.rx_named.proofs.Truths.{agree-first, agree-left, agree-right, values_agree}

-- the same output row, of rows that agree on columns
abbrev pub OutputsAgree : (ℕ → Bool) → Output → Output → Type 0
OutputsAgree columns o p = (o.0 ≡ p.0) × AgreeOn columns o.1 p.1

-- ---- the order

by_same : (by : By) (o p : Output) → o.0 ≡ p.0 → AgreeOn (is_one_of (column_ordered_by by)) o.1 p.1 → value_by by o ≡ value_by by p
by_same (Column column) o p e h = agree-first o.1 p.1 column [] h
by_same (Place place) o p e h = ap (column_value place) e

abbrev either_way : Bool → Value → Value → Ordering
either_way falling v w = cond falling (value_cmp w v) (value_cmp v w)

level_same : (level : Order) (o p a b : Output) → value_by level.by o ≡ value_by level.by a → value_by level.by p ≡ value_by level.by b → outputs_cmp_by level o p ≡ outputs_cmp_by level a b
level_same level o p a b e f = ap (λ v. either_way level.falling v (value_by level.by p)) e ∙ ap (either_way level.falling (value_by level.by a)) f

order_same : (order : List Order) (o a : Output) → OutputsAgree (is_one_of (columns_ordered order)) o a → (p b : Output) → OutputsAgree (is_one_of (columns_ordered order)) p b → outputs_cmp order o p ≡ outputs_cmp order a b
order_same [] o a h p b k = refl
order_same (level ∷ order) o a h p b k =
    let here = column_ordered_by level.by in
    let later = columns_ordered order in
    ap (λ c. ordering_then c (outputs_cmp order o p))
    (level_same level o p a b (by_same level.by o a h.0 (agree-left o.1 a.1 here later h.1)) (by_same level.by p b k.0 (agree-left p.1 b.1 here later k.1)))
    ∙ ap (ordering_then (outputs_cmp_by level a b))
    (order_same order o a (h.0, agree-right o.1 a.1 here later h.1) p b (k.0, agree-right p.1 b.1 here later k.1))

module _ {X : Type 0} (R : X → X → Type 0) (before : X → X → Bool) (same : (x y : X) → R x y → (v w : X) → R v w → before x v ≡ before y w) where
  put_alike : (x y : X) → R x y → (xs ys : List X) → PlaceByPlace R xs ys → PlaceByPlace R (put before x xs) (put before y ys)
  put_alike x y r [] [] h = (r, tt)
  put_alike x y r [] (w ∷ ys) h = absurd h
  put_alike x y r (v ∷ xs) [] h = absurd h
  put_alike x y r (v ∷ xs) (w ∷ ys) h = by_tests (before v x) (before w y) (same v w h.0 x y r) (put_alike x y r xs ys h.1)
    where
      by_tests : (b c : Bool) → b ≡ c → PlaceByPlace R (put before x xs) (put before y ys) → PlaceByPlace R (cond b (v ∷ put before x xs) (x ∷ v ∷ xs)) (cond c (w ∷ put before y ys) (y ∷ w ∷ ys))
      by_tests true true e k = (h.0, k)
      by_tests true false e k = absurd cc
      by_tests false true e k = absurd cc
      by_tests false false e k = (r, (h.0, h.1))

  pub ordered_alike : (xs ys : List X) → PlaceByPlace R xs ys → PlaceByPlace R (ordered before xs) (ordered before ys)
  ordered_alike [] [] h = tt
  ordered_alike [] (y ∷ ys) h = absurd h
  ordered_alike (x ∷ xs) [] h = absurd h
  ordered_alike (x ∷ xs) (y ∷ ys) h = put_alike x y h.0 (ordered before xs) (ordered before ys) (ordered_alike xs ys h.1)

-- ---- groups, output rows, DISTINCT

module _ (columns : ℕ → Bool) where
  groups_alike : (group : List ℕ) → ((column : ℕ) → is_one_of group column ≡ true → columns column ≡ true) → (rs ss : List (List Value)) → AllAgreeOn columns rs ss → PlaceByPlace (AllAgreeOn columns) (groups_by group rs) (groups_by group ss)
  groups_alike [] within rs ss h = (h, tt)
  groups_alike (column ∷ group) within rs ss h =
      let all = column ∷ group in
      classes_alike (AgreeOn columns) (values_at all) (λ r s k. values_agree r s all (agree_on_fewer columns (is_one_of all) within r s k)) rs ss h

  pub groups_if_alike : (made : Bool) (group : List ℕ) → ((column : ℕ) → is_one_of group column ≡ true → columns column ≡ true) → (rs ss : List (List Value)) → AllAgreeOn columns rs ss → PlaceByPlace (AllAgreeOn columns) (groups_if made group rs) (groups_if made group ss)
  groups_if_alike true group within rs ss h = groups_alike group within rs ss h
  groups_if_alike false group within rs ss h = maps_alike (AgreeOn columns) (AllAgreeOn columns) (λ row. row ∷ []) (λ row. row ∷ []) (λ r s k. (k, tt)) rs ss h

  pub outputs_alike : (items : List Item) → ((column : ℕ) → is_one_of (columns_listed items) column ≡ true → columns column ≡ true) → (rss sss : List (List (List Value))) → PlaceByPlace (AllAgreeOn columns) rss sss → PlaceByPlace (OutputsAgree columns) (map (output_of items) rss) (map (output_of items) sss)
  outputs_alike items within =
      maps_alike (AllAgreeOn columns) (OutputsAgree columns) (output_of items) (output_of items)
      (λ rs ss h. (items_same items rs ss (all_agree_on_fewer columns (is_one_of (columns_listed items)) within rs ss h), first_rows_agree columns rs ss h))

  pub distinct_alike : (once : Bool) (os ps : List Output) → PlaceByPlace (OutputsAgree columns) os ps → PlaceByPlace (OutputsAgree columns) (distinct_if once os) (distinct_if once ps)
  distinct_alike true os ps h = firsts_alike (OutputsAgree columns) (λ o. o.0) (λ o p k. k.0) os ps h
  distinct_alike false os ps h = h

  pub in_order_same : (order : List Order) → ((column : ℕ) → is_one_of (columns_ordered order) column ≡ true → columns column ≡ true) → (os ps : List Output) → PlaceByPlace (OutputsAgree columns) os ps → map (λ o. o.0) (in_order order os) ≡ map (λ o. o.0) (in_order order ps)
  in_order_same order within os ps h =
      maps_same (OutputsAgree columns) (λ o. o.0) (λ o. o.0) (λ o p k. k.0) _ _
      (ordered_alike (OutputsAgree columns) (is_before order)
      (λ o a k p b l. ap is_lt (order_same order o a (k.0, agree_on_fewer columns (is_one_of (columns_ordered order)) within o.1 a.1 k.1) p b (l.0, agree_on_fewer columns (is_one_of (columns_ordered order)) within p.1 b.1 l.1)))
      os ps h)
