-- What rows in another order answer.
use Rattle.std.proofs.Common.{◌≡◌, ℕ, Bool, true, false, not, ◌||◌, cond, List, [], ◌∷◌, map, refl, sym, ap, subst, ◌∙◌, IsPermutation}
use Rattle.std.specs.List.{list_all}
use Rattle.std.specs.List.Sorted.{IsSortedBy}
use Rattle.std.proofs.lemmas.Bool.{and_parts}
use Rattle.std.proofs.lemmas.List.Sorted.{IsPermutation-refl, IsPermutation-map}
use Rattle.rx_value.specs.declared.values.Value.{Value}
use Rattle.rx_cond.specs.Tri.{is_true}
use Rattle.rx_cond.specs.Tree.{truth_at}
use Rattle.rx_query.specs.declared.statements.Item.{Item}
use Rattle.rx_query.specs.Grouping.{is_grouped_item, makes_groups, is_by_group, grouped}
use Rattle.rx_query.specs.Steps.{Question}
use Rattle.rx_group.specs.Classes.{values_at, same_values}
use Rattle.rx_group.proofs.Bags.{IsPermutation-filter}
use Rattle.rx_group.proofs.Rearranged.{same_values-equal, with_key, classes-IsPermutation}
use Rattle.rx_aggregate.specs.Aggregates.{item_over}
use Rattle.rx_aggregate.proofs.Bags.{Have, item-IsPermutation}
use Rattle.rx_order.specs.Order.{is_before, in_order}
use Rattle.rx_order.proofs.Bags.{values_of, distinct_if-IsPermutation, in_order-IsPermutation, in_order_sorted}
use Rattle.rx_rows.specs.Answer.{selected, projected, answer}
use Rattle.rx_rows.specs.Finish.{groups_by, groups_if, groups_of, output_of, outputs_of, answered}

selected-IsPermutation : (q : Question) (xs ys : List (List Value)) → IsPermutation xs ys → IsPermutation (selected q.cond xs) (selected q.cond ys)
selected-IsPermutation q = IsPermutation-filter (λ row. is_true (truth_at q.cond row))

-- what a rearrangement of rows answers is a rearrangement of what the rows answer, where the question is plain
pub answer-IsPermutation : (q : Question) (xs ys : List (List Value)) → IsPermutation xs ys → IsPermutation (answer q xs) (answer q ys)
answer-IsPermutation q xs ys h = IsPermutation-map (projected q.items) (selected q.cond xs) (selected q.cond ys) (selected-IsPermutation q xs ys h)

-- ---- a select list over a rearrangement of a group

-- the select list over a group
abbrev values_over : List Item → List (List Value) → List Value
values_over items rows = map (item_over rows) items

module _ (group : List ℕ) (k : List Value) (rs ss : List (List Value)) (h : IsPermutation rs ss) (left : Have group k rs) (right : Have group k ss) where
  values-alike : (items : List Item) → list_all (is_grouped_item group) items ≡ true → values_over items rs ≡ values_over items ss
  values-alike [] e = refl
  values-alike (item ∷ items) e =
      let (first, others) = and_parts (is_grouped_item group item) (list_all (is_grouped_item group) items) e in
      ap (λ v. v ∷ values_over items rs) (item-IsPermutation group k rs ss h left right item first)
      ∙ ap (λ l. item_over ss item ∷ l) (values-alike items others)

nothing_to_have : (rows : List (List Value)) → Have [] [] rows
nothing_to_have [] = tt
nothing_to_have (row ∷ rows) = (refl, nothing_to_have rows)

-- the rows of a class have its key
class_has : (group : List ℕ) (rows : List (List Value)) (k : List Value) → Have group k (with_key (values_at group) rows k)
class_has group [] k = tt
class_has group (row ∷ rows) k = by_test (same_values k (values_at group row)) refl (class_has group rows k)
  where
    by_test : (b : Bool) → same_values k (values_at group row) ≡ b → Have group k (with_key (values_at group) rows k) → Have group k (cond b (row ∷ with_key (values_at group) rows k) (with_key (values_at group) rows k))
    by_test true e h = (sym (same_values-equal k (values_at group row) e), h)
    by_test false e h = h

-- ---- groups

groups_by-IsPermutation : (items : List Item) (group : List ℕ) (xs ys : List (List Value)) → list_all (is_grouped_item group) items ≡ true → IsPermutation xs ys → IsPermutation (map (values_over items) (groups_by group xs)) (map (values_over items) (groups_by group ys))
groups_by-IsPermutation items [] xs ys e h =
    subst (λ v. IsPermutation (values_over items xs ∷ []) (v ∷ [])) (values-alike [] [] xs ys h (nothing_to_have xs) (nothing_to_have ys) items e)
    (IsPermutation-refl (values_over items xs ∷ []))
groups_by-IsPermutation items (column ∷ columns) xs ys e h =
    let key = values_at (column ∷ columns) in
    classes-IsPermutation key (values_over items) xs ys h (λ k.
    values-alike (column ∷ columns) k (with_key key xs k) (with_key key ys k)
    (IsPermutation-filter (λ row. same_values k (key row)) xs ys h) (class_has (column ∷ columns) xs k) (class_has (column ∷ columns) ys k) items e)

groups_if-IsPermutation : (items : List Item) (group : List ℕ) (xs ys : List (List Value)) (b : Bool) → (b ≡ true → list_all (is_grouped_item group) items ≡ true) → IsPermutation xs ys → IsPermutation (map (values_over items) (groups_if b group xs)) (map (values_over items) (groups_if b group ys))
groups_if-IsPermutation items group xs ys true e h = groups_by-IsPermutation items group xs ys (e refl) h
groups_if-IsPermutation items group xs ys false e h = IsPermutation-map (values_over items) _ _ (IsPermutation-map (λ (row : List Value). row ∷ []) xs ys h)

-- ---- answers

-- where a question makes groups, each column of its select list is one of GROUP BY
columns_grouped : (q : Question) → grouped q ≡ true → makes_groups q.items q.group ≡ true → list_all (is_grouped_item q.group) q.items ≡ true
columns_grouped q e made = (and_parts _ _ (by_group (makes_groups q.items q.group) (is_by_group q.items q.group q.order) (and_parts _ _ e).0 made)).0
  where
    by_group : (b c : Bool) → (not b || c) ≡ true → b ≡ true → c ≡ true
    by_group true c e f = e
    by_group false c e f = absurd cc

module _ (items : List Item) where
  values_made : (groups : List (List (List Value))) → values_of (map (output_of items) groups) ≡ map (values_over items) groups
  values_made [] = refl
  values_made (rows ∷ groups) = ap (λ l. values_over items rows ∷ l) (values_made groups)

outputs-IsPermutation : (q : Question) → grouped q ≡ true → (xs ys : List (List Value)) → IsPermutation xs ys → IsPermutation (values_of (outputs_of q xs)) (values_of (outputs_of q ys))
outputs-IsPermutation q e xs ys h =
    distinct_if-IsPermutation q.distinct (map (output_of q.items) (groups_of q xs)) (map (output_of q.items) (groups_of q ys))
    (subst (λ l. IsPermutation l (values_of (map (output_of q.items) (groups_of q ys)))) (sym (values_made q.items (groups_of q xs)))
    (subst (IsPermutation (map (values_over q.items) (groups_of q xs))) (sym (values_made q.items (groups_of q ys)))
    (groups_if-IsPermutation q.items q.group xs ys (makes_groups q.items q.group) (columns_grouped q e) h)))

-- what a rearrangement of rows answers is a rearrangement of what the rows answer
pub answers_are_bags : (q : Question) → grouped q ≡ true → (xs ys : List (List Value)) → IsPermutation xs ys → IsPermutation (answered q xs) (answered q ys)
answers_are_bags q e xs ys h =
    in_order-IsPermutation q.order (outputs_of q (selected q.cond xs)) (outputs_of q (selected q.cond ys))
    (outputs-IsPermutation q e (selected q.cond xs) (selected q.cond ys) (selected-IsPermutation q xs ys h))

-- no output row is to stand before the one in front of it
pub answers_are_in_order : (q : Question) (rows : List (List Value)) → IsSortedBy (is_before q.order) (in_order q.order (outputs_of q rows))
answers_are_in_order q rows = in_order_sorted q.order (outputs_of q rows)
