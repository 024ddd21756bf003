-- Items over groups of rows that agree on the items' columns.
use Rattle.std.proofs.Common.{◌≡◌, ℕ, Bool, true, not, ◌||◌, List, [], ◌∷◌, map, filter, length, refl, ap, ◌∙◌}
use Rattle.std.specs.Prelude.{filter_map}
use Rattle.std.specs.List.{list_any}
use Rattle.rx_value.specs.declared.values.Value.{Value}
use Rattle.rx_cond.specs.Test.{column_value, is_null_value}
use Rattle.rx_query.specs.declared.statements.Item.{Item}
use Rattle.rx_query.specs.declared.statements.Item.TheVariants.{Column, CountRows, Count, CountDistinct, Sum, Min, Max}
use Rattle.rx_query.specs.Steps.{columns_of_item, columns_listed}
use Rattle.rx_group.specs.Classes.{values_at}
use Rattle.rx_aggregate.specs.Aggregates.{count_value, present, is_whole_at, distinct_count, integer_of, integers, sum_value, least, greatest, first_row, item_over}
use Rattle.rx_named.specs.Agreement.{AgreeOn, AllAgreeOn}
use Rattle.rx_named.specs.Naming.{is_one_of}
use Rattle.rx_named.proofs.Alike.{lengths_alike, maps_same, filters_alike, firsts_alike, place_by_place_weaker}
use Rattle.rx_named.proofs.Truths.{of_left, of_right, agree-first, agree-rest, values_agree}

-- rows that agree on columns agree on fewer
pub agree_on_fewer : (many few : ℕ → Bool) → ((column : ℕ) → few column ≡ true → many column ≡ true) → (r s : List Value) → AgreeOn many r s → AgreeOn few r s
agree_on_fewer many few within r s h column e = h column (within column e)

pub all_agree_on_fewer : (many few : ℕ → Bool) → ((column : ℕ) → few column ≡ true → many column ≡ true) → (rs ss : List (List Value)) → AllAgreeOn many rs ss → AllAgreeOn few rs ss
all_agree_on_fewer many few within = place_by_place_weaker (AgreeOn many) (AgreeOn few) (agree_on_fewer many few within)

-- groups that agree have first rows that agree
pub first_rows_agree : (columns : ℕ → Bool) (rs ss : List (List Value)) → AllAgreeOn columns rs ss → AgreeOn columns (first_row rs) (first_row ss)
first_rows_agree columns [] [] h = λ column e. refl
first_rows_agree columns [] (s ∷ ss) h = absurd h
first_rows_agree columns (r ∷ rs) [] h = absurd h
first_rows_agree columns (r ∷ rs) (s ∷ ss) h = h.0

-- the values of one column
column_same : (column : ℕ) (rs ss : List (List Value)) → AllAgreeOn (is_one_of (column ∷ [])) rs ss → map (column_value column) rs ≡ map (column_value column) ss
column_same column = maps_same (AgreeOn (is_one_of (column ∷ []))) (column_value column) (column_value column) (λ r s h. agree-first r s column [] h)

present_same : (column : ℕ) (rs ss : List (List Value)) → AllAgreeOn (is_one_of (column ∷ [])) rs ss → present column rs ≡ present column ss
present_same column rs ss h = ap (filter (λ v. not (is_null_value v))) (column_same column rs ss h)

integers_same : (column : ℕ) (rs ss : List (List Value)) → AllAgreeOn (is_one_of (column ∷ [])) rs ss → integers column rs ≡ integers column ss
integers_same column rs ss h = ap (filter_map integer_of) (column_same column rs ss h)

-- whether a row has NULL in a column
nulls_same : (columns : List ℕ) (r s : List Value) → AgreeOn (is_one_of columns) r s → list_any (λ column. is_null_value (column_value column r)) columns ≡ list_any (λ column. is_null_value (column_value column s)) columns
nulls_same [] r s h = refl
nulls_same (column ∷ columns) r s h =
    ap (λ v. is_null_value v || list_any (λ column. is_null_value (column_value column r)) columns) (agree-first r s column columns h)
    ∙ ap (λ b. is_null_value (column_value column s) || b) (nulls_same columns r s (agree-rest r s column columns h))

distinct_count_same : (columns : List ℕ) (rs ss : List (List Value)) → AllAgreeOn (is_one_of columns) rs ss → distinct_count columns rs ≡ distinct_count columns ss
distinct_count_same columns rs ss h =
    let R = AgreeOn (is_one_of columns) in
    lengths_alike R _ _
    (firsts_alike R (values_at columns) (λ r s k. values_agree r s columns k) _ _
    (filters_alike R (is_whole_at columns) (is_whole_at columns) (λ r s k. ap not (nulls_same columns r s k)) rs ss h))

-- an item is the same over groups that agree on its columns
pub item_same : (item : Item) (rs ss : List (List Value)) → AllAgreeOn (is_one_of (columns_of_item item)) rs ss → item_over rs item ≡ item_over ss item
item_same (Column column) rs ss h = agree-first (first_row rs) (first_row ss) column [] (first_rows_agree (is_one_of (column ∷ [])) rs ss h)
item_same CountRows rs ss h = ap count_value (lengths_alike (AgreeOn (is_one_of [])) rs ss h)
item_same (Count column) rs ss h = ap (λ vs. count_value (length vs)) (present_same column rs ss h)
item_same (CountDistinct columns) rs ss h = ap count_value (distinct_count_same columns rs ss h)
item_same (Sum column) rs ss h = ap sum_value (integers_same column rs ss h)
item_same (Min column) rs ss h = ap least (present_same column rs ss h)
item_same (Max column) rs ss h = ap greatest (present_same column rs ss h)

-- a select list is the same over groups that agree on its columns
pub items_same : (items : List Item) (rs ss : List (List Value)) → AllAgreeOn (is_one_of (columns_listed items)) rs ss → map (item_over rs) items ≡ map (item_over ss) items
items_same [] rs ss h = refl
items_same (item ∷ items) rs ss h =
    let all = is_one_of (columns_listed (item ∷ items)) in
    ap (λ v. v ∷ map (item_over rs) items) (item_same item rs ss (all_agree_on_fewer all (is_one_of (columns_of_item item)) (of_left (columns_of_item item) (columns_listed items)) rs ss h))
    ∙ ap (λ l. item_over ss item ∷ l) (items_same items rs ss (all_agree_on_fewer all (is_one_of (columns_listed items)) (of_right (columns_of_item item) (columns_listed items)) rs ss h))
