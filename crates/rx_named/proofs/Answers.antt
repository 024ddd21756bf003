-- What a question answers over rows of which it sees the columns that it names.
use Rattle.std.proofs.Common.{◌≡◌, ℕ, Bool, true, false, cond, List, [], ◌∷◌, map, filter, refl, ap, subst, ◌∙◌, IsPermutation}
use Rattle.std.proofs.lemmas.List.Elements.{All-head, All-tail, All-filter}
use Rattle.rx_value.specs.declared.values.Value.{Value}
use Rattle.rx_cond.specs.declared.conds.Tri.{Tri}
use Rattle.rx_cond.specs.declared.conds.Tri.TheVariants.{T, F, N}
use Rattle.rx_cond.specs.Columns.{columns_of}
use Rattle.rx_cond.specs.Tri.{is_true}
use Rattle.rx_cond.specs.Tree.{Tree, truth_at}
use Rattle.rx_query.specs.declared.statements.Item.{Item}
use Rattle.rx_query.specs.declared.statements.Item.TheVariants.{Column, CountRows, Count, CountDistinct, Sum, Min, Max}
use Rattle.rx_query.specs.Grouping.{makes_groups, grouped}
use Rattle.rx_query.specs.Steps.{Question, columns_of_item, columns_listed}
use Rattle.rx_rows.specs.Answer.{selected, item_value, projected, answer}
use Rattle.rx_rows.specs.Finish.{groups_of, output_of, outputs_of, finish, answered}
use Rattle.rx_rows.proofs.Bags.{answers_are_bags}
use Rattle.rx_named.specs.Agreement.{AgreeOn, AllAgreeOn, KeepsColumns, KeepsTrue, seen_at}
use Rattle.rx_named.specs.Naming.{is_one_of, columns_ordered, names}
use Rattle.rx_named.proofs.Alike.{maps_same, filters_alike}
use Rattle.rx_named.proofs.Items.{agree_on_fewer}
use Rattle.rx_named.proofs.Outputs.{groups_if_alike, outputs_alike, distinct_alike, in_order_same}
use Rattle.rx_named.proofs.Seen.{seen_keeps}
use Rattle.rx_named.proofs.Truths.{either_names, agree-first, agree-left, agree-right, truths_agree}

-- ---- rows that agree on the columns that a question names

module _ (q : Question) where
  -- the columns of each of its parts are named
  parts_named : (column : ℕ) → (is_one_of (columns_listed q.items) column ≡ true → names q column ≡ true) × (is_one_of (columns_of q.cond) column ≡ true → names q column ≡ true) × (is_one_of q.group column ≡ true → names q column ≡ true) × (is_one_of (columns_ordered q.order) column ≡ true → names q column ≡ true)
  parts_named column = either_names (is_one_of (columns_listed q.items) column) (is_one_of (columns_of q.cond) column) (is_one_of q.group column) (is_one_of (columns_ordered q.order) column)

  pub selected_alike : (rows others : List (List Value)) → AllAgreeOn (names q) rows others → AllAgreeOn (names q) (selected q.cond rows) (selected q.cond others)
  selected_alike =
      filters_alike (AgreeOn (names q)) (λ row. is_true (truth_at q.cond row)) (λ row. is_true (truth_at q.cond row))
      (λ r s h. ap is_true (truths_agree r s q.cond (agree_on_fewer (names q) (is_one_of (columns_of q.cond)) (λ column. (parts_named column).1) r s h)))

  pub finish_same : (rows others : List (List Value)) → AllAgreeOn (names q) rows others → finish q rows ≡ finish q others
  finish_same rows others h =
      in_order_same (names q) q.order (λ column. (parts_named column).3) (outputs_of q rows) (outputs_of q others)
      (distinct_alike (names q) q.distinct (map (output_of q.items) (groups_of q rows)) (map (output_of q.items) (groups_of q others))
      (outputs_alike (names q) q.items (λ column. (parts_named column).0) (groups_of q rows) (groups_of q others)
      (groups_if_alike (names q) (makes_groups q.items q.group) q.group (λ column. (parts_named column).2) rows others h)))

  pub answered_same : (rows others : List (List Value)) → AllAgreeOn (names q) rows others → answered q rows ≡ answered q others
  answered_same rows others h = finish_same (selected q.cond rows) (selected q.cond others) (selected_alike rows others h)

-- ---- plain questions

item_values_same : (item : Item) (r s : List Value) → AgreeOn (is_one_of (columns_of_item item)) r s → item_value r item ≡ item_value s item
item_values_same (Column column) r s h = agree-first r s column [] h
item_values_same CountRows r s h = refl
item_values_same (Count column) r s h = refl
item_values_same (CountDistinct columns) r s h = refl
item_values_same (Sum column) r s h = refl
item_values_same (Min column) r s h = refl
item_values_same (Max column) r s h = refl

projected_same : (items : List Item) (r s : List Value) → AgreeOn (is_one_of (columns_listed items)) r s → projected items r ≡ projected items s
projected_same [] r s h = refl
projected_same (item ∷ items) r s h =
    ap (λ v. v ∷ projected items r) (item_values_same item r s (agree-left r s (columns_of_item item) (columns_listed items) h))
    ∙ ap (λ l. item_value s item ∷ l) (projected_same items r s (agree-right r s (columns_of_item item) (columns_listed items) h))

pub answer_same : (q : Question) (rows others : List (List Value)) → AllAgreeOn (names q) rows others → answer q rows ≡ answer q others
answer_same q rows others h =
    maps_same (AgreeOn (names q)) (projected q.items) (projected q.items)
    (λ r s k. projected_same q.items r s (agree_on_fewer (names q) (is_one_of (columns_listed q.items)) (λ column. (parts_named q column).0) r s k))
    (selected q.cond rows) (selected q.cond others) (selected_alike q rows others h)

-- ---- rows of which some columns are seen

seen_alike : (columns : ℕ → Bool) (seen : List Value → List Value) (rows : List (List Value)) → KeepsColumns columns seen rows → AllAgreeOn columns (map seen rows) rows
seen_alike columns seen [] h = tt
seen_alike columns seen (row ∷ rows) h =
    let P = λ (row : List Value). AgreeOn columns (seen row) row in
    (All-head P row rows h, seen_alike columns seen rows (All-tail P row rows h))

pub answered_seen : (q : Question) (seen : List Value → List Value) (rows : List (List Value)) → KeepsColumns (names q) seen rows → answered q (map seen rows) ≡ answered q rows
answered_seen q seen rows h = answered_same q (map seen rows) rows (seen_alike (names q) seen rows h)

-- the columns that the question names are enough
pub answered_named : (q : Question) (rows : List (List Value)) → answered q (map (seen_at (names q)) rows) ≡ answered q rows
answered_named q rows = answered_seen q (seen_at (names q)) rows (seen_keeps (names q) (names q) rows (λ k d within column below e. e))

-- ---- rows that WHERE refuses

true_alone : (t : Tri) → is_true t ≡ true → t ≡ T
true_alone T e = refl
true_alone F e = absurd cc
true_alone N e = absurd cc

selected_of_kept : (t : Tree) (test : List Value → Bool) (rows : List (List Value)) → KeepsTrue t test rows → selected t (filter test rows) ≡ selected t rows
selected_of_kept t test [] h = refl
selected_of_kept t test (row ∷ rows) h =
    let P = λ (row : List Value). truth_at t row ≡ T → test row ≡ true in
    by_tests (test row) (is_true (truth_at t row)) refl refl (λ e. All-head P row rows h (true_alone (truth_at t row) e)) (selected_of_kept t test rows (All-tail P row rows h))
  where
    by_tests : (b c : Bool) → test row ≡ b → is_true (truth_at t row) ≡ c → (is_true (truth_at t row) ≡ true → test row ≡ true) → selected t (filter test rows) ≡ selected t rows → selected t (cond b (row ∷ filter test rows) (filter test rows)) ≡ cond c (row ∷ selected t rows) (selected t rows)
    by_tests true true e f k h = ap (λ b. cond b (row ∷ selected t (filter test rows)) (selected t (filter test rows))) f ∙ ap (λ l. row ∷ l) h
    by_tests true false e f k h = ap (λ b. cond b (row ∷ selected t (filter test rows)) (selected t (filter test rows))) f ∙ h
    by_tests false true e f k h = let g : test row ≡ true = k f in absurd cc
    by_tests false false e f k h = h

pub answered_kept : (q : Question) (test : List Value → Bool) (rows : List (List Value)) → KeepsTrue q.cond test rows → answered q (filter test rows) ≡ answered q rows
answered_kept q test rows h = ap (finish q) (selected_of_kept q.cond test rows h)

-- ---- rows that a scan visits

pub answered_visited : (q : Question) (test : List Value → Bool) (seen : List Value → List Value) (rows : List (List Value)) → KeepsTrue q.cond test rows → KeepsColumns (names q) seen rows → answered q (map seen (filter test rows)) ≡ answered q rows
answered_visited q test seen rows h k =
    answered_seen q seen (filter test rows) (All-filter test (λ row. AgreeOn (names q) (seen row) row) rows k) ∙ answered_kept q test rows h

pub visits_answer : (q : Question) → grouped q ≡ true → (test : List Value → Bool) (seen : List Value → List Value) (rows visited : List (List Value)) → KeepsTrue q.cond test rows → KeepsColumns (names q) seen rows → IsPermutation (map seen (filter test rows)) visited → IsPermutation (answered q rows) (answered q visited)
visits_answer q e test seen rows visited h k p =
    subst (λ l. IsPermutation l (answered q visited)) (answered_visited q test seen rows h k) (answers_are_bags q e (map seen (filter test rows)) visited p)
