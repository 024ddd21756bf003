-- One more row of a group.
use Rattle.std.proofs.Common.{◌≡◌, ℕ, ◌+◌, ◌<◌, Bool, true, false, not, cond, List, [], ◌∷◌, ◌++◌, length, take, get_or, map, filter, Option, Some, None, refl, sym, ap, ◌∙◌, arith}
use Rattle.std.specs.Prelude.{filter_map, ℤ, ◌+ℤ◌}
use Rattle.std.specs.List.{fold, reduce, list_any}
use Rattle.std.proofs.lemmas.List.{map-append}
use Rattle.std.proofs.lemmas.List.Elements.{filter-append, filter_map-append}
use denote.Ref.{Bor}
use Rattle.rx_value.specs.declared.values.Value.{Value}
use Rattle.rx_group.specs.Classes.{rows_of}
use Rattle.rx_group.proofs.Rows.{rows_more}
use Rattle.rx_cond.specs.Test.{column_value, is_null_value}
use Rattle.rx_aggregate.specs.Aggregates.{present, integers, integer_of, is_whole_at, pick, picked, first_or, summed}

module _ {X : Type 0} (f : X → X → X) where
  fold_more : (a : X) (xs : List X) (y : X) → fold f a (xs ++ y ∷ []) ≡ f (fold f a xs) y
  fold_more a [] y = refl
  fold_more a (x ∷ xs) y = fold_more (f a x) xs y

  reduce_more : (xs : List X) (y : X) → reduce f (xs ++ y ∷ []) ≡ Some (first_or f (reduce f xs) y)
  reduce_more [] y = refl
  reduce_more (x ∷ xs) y = ap Some (fold_more x xs y)

present_more : (column : ℕ) (rows : List (List Value)) (row : List Value) → present column (rows ++ row ∷ []) ≡ present column rows ++ cond (not (is_null_value (column_value column row))) (column_value column row ∷ []) []
present_more column rows row =
    ap (filter (λ v. not (is_null_value v))) (map-append (column_value column) rows (row ∷ []))
    ∙ filter-append (λ v. not (is_null_value v)) (map (column_value column) rows) (column_value column row ∷ [])

append_nil : {X : Type 0} (xs : List X) → xs ++ [] ≡ xs
append_nil [] = refl
append_nil (x ∷ xs) = ap (λ l. x ∷ l) (append_nil xs)

length_more : {X : Type 0} (xs : List X) (y : X) → length (xs ++ y ∷ []) ≡ length xs + 1
length_more [] y = refl
length_more (x ∷ xs) y = let h : length (xs ++ y ∷ []) ≡ length xs + 1 = length_more xs y in omega arith

pub best_more : (is_greatest : Bool) (column : ℕ) (rows : List (List Value)) (row : List Value) → reduce (pick is_greatest) (present column (rows ++ row ∷ [])) ≡ picked is_greatest (reduce (pick is_greatest) (present column rows)) (column_value column row)
best_more is_greatest column rows row = ap (reduce (pick is_greatest)) (present_more column rows row) ∙ by_null (is_null_value (column_value column row))
  where
    by_null : (b : Bool) → reduce (pick is_greatest) (present column rows ++ cond (not b) (column_value column row ∷ []) []) ≡ cond b (reduce (pick is_greatest) (present column rows)) (Some (first_or (pick is_greatest) (reduce (pick is_greatest) (present column rows)) (column_value column row)))
    by_null true = ap (reduce (pick is_greatest)) (append_nil (present column rows))
    by_null false = reduce_more (pick is_greatest) (present column rows) (column_value column row)

pub count_more : (column : ℕ) (rows : List (List Value)) (row : List Value) → length (present column (rows ++ row ∷ [])) ≡ cond (is_null_value (column_value column row)) (length (present column rows)) (length (present column rows) + 1)
count_more column rows row = ap length (present_more column rows row) ∙ by_null (is_null_value (column_value column row))
  where
    by_null : (b : Bool) → length (present column rows ++ cond (not b) (column_value column row ∷ []) []) ≡ cond b (length (present column rows)) (length (present column rows) + 1)
    by_null true = ap length (append_nil (present column rows))
    by_null false = length_more (present column rows) (column_value column row)

pub sum_more : (column : ℕ) (rows : List (List Value)) (row : List Value) → reduce (λ a b. a +ℤ b) (integers column (rows ++ row ∷ [])) ≡ summed (reduce (λ a b. a +ℤ b) (integers column rows)) (integer_of (column_value column row))
sum_more column rows row =
    ap (λ l. reduce (λ a b. a +ℤ b) (filter_map integer_of l)) (map-append (column_value column) rows (row ∷ []))
    ∙ ap (reduce (λ a b. a +ℤ b)) (filter_map-append integer_of (map (column_value column) rows) (column_value column row ∷ []))
    ∙ by_integer (integer_of (column_value column row))
  where
    by_integer : (o : Option ℤ) → reduce (λ a b. a +ℤ b) (integers column rows ++ filter_map (λ (u : Option ℤ). u) (o ∷ [])) ≡ summed (reduce (λ a b. a +ℤ b) (integers column rows)) o
    by_integer None = ap (reduce (λ a b. a +ℤ b)) (append_nil (integers column rows))
    by_integer (Some n) = reduce_more (λ a b. a +ℤ b) (integers column rows) n

-- those of no column NULL among one row more
pub whole_more : (columns : List ℕ) (rows : List (Bor (List Value))) (i : ℕ) (row : Bor (List Value)) (old after : List (Bor (List Value))) (b : Bool) → i < length rows → row ≡ get_or rows i row → rows_of old ≡ filter (is_whole_at columns) (rows_of (take i rows)) → b ≡ list_any (λ column. is_null_value (column_value column row.now)) columns → after ≡ cond b old (old ++ row ∷ []) → rows_of after ≡ filter (is_whole_at columns) (rows_of (take (i + 1) rows))
whole_more columns rows i row old after b within is before test put =
    ap rows_of put
    ∙ by_test b
    ∙ ap (λ l. l ++ cond (not b) (row.now ∷ []) []) before
    ∙ ap (λ t. filter (is_whole_at columns) (rows_of (take i rows)) ++ cond (not t) (row.now ∷ []) []) test
    ∙ sym (filter-append (is_whole_at columns) (rows_of (take i rows)) (row.now ∷ []))
    ∙ ap (filter (is_whole_at columns)) (sym (rows_more rows i row within is))
  where
    by_test : (b : Bool) → rows_of (cond b old (old ++ row ∷ [])) ≡ rows_of old ++ cond (not b) (row.now ∷ []) []
    by_test true = sym (append_nil (rows_of old))
    by_test false = map-append (λ (r : Bor (List Value)). r.now) old (row ∷ [])

-- the sum with one row more
pub sum_at : (column : ℕ) (rows : List (Bor (List Value))) (i : ℕ) (row : Bor (List Value)) (total after o : Option ℤ) → i < length rows → row ≡ get_or rows i row → total ≡ reduce (λ a b. a +ℤ b) (integers column (rows_of (take i rows))) → o ≡ integer_of (column_value column row.now) → after ≡ summed total o → after ≡ reduce (λ a b. a +ℤ b) (integers column (rows_of (take (i + 1) rows)))
sum_at column rows i row total after o within is before integer put =
    put
    ∙ ap (λ t. summed t o) before
    ∙ ap (summed (reduce (λ a b. a +ℤ b) (integers column (rows_of (take i rows))))) integer
    ∙ sym (sum_more column (rows_of (take i rows)) row.now)
    ∙ ap (λ l. reduce (λ a b. a +ℤ b) (integers column l)) (sym (rows_more rows i row within is))
