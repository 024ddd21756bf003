-- What a plain question answers: its select list at each row that it selects.
use Rattle.std.proofs.Common.{◌≡◌, ℕ, Bool, true, false, not, ◌&&◌, List, [], ◌∷◌, suc, length, map, refl, ap, ◌∙◌, arith}
use Rattle.std.specs.Prelude.{◌==◌}
use Rattle.std.proofs.lemmas.Bool.{eqb-true}
use Rattle.std.specs.List.{list_all}
use Rattle.rx_value.specs.declared.values.Value.{Value}
use Rattle.rx_query.specs.declared.statements.Item.{Item}
use Rattle.rx_query.specs.declared.statements.Item.TheVariants.{Column, CountRows, Count, CountDistinct, Sum, Min, Max}
use Rattle.rx_query.specs.declared.statements.Order.{Order}
use Rattle.rx_query.specs.Steps.{Question, is_column, is_plain}
use Rattle.rx_query.specs.Grouping.{makes_groups}
use Rattle.rx_aggregate.specs.Aggregates.{item_over}
use Rattle.rx_order.specs.Stable.{put}
use Rattle.rx_order.specs.Order.{Output, is_before, distinct_if, in_order}
use Rattle.rx_rows.specs.Answer.{item_value, projected, selected, answer}
use Rattle.rx_rows.specs.Finish.{groups_if, output_of, finish, answered}

parts : (a b c d : Bool) → (a && b && c && d) ≡ true → (a ≡ true) × (b ≡ true) × (c ≡ true) × (d ≡ true)
parts true true true true e = (refl, refl, refl, refl)
parts true true true false e = absurd cc
parts true true false d e = absurd cc
parts true false c d e = absurd cc
parts false b c d e = absurd cc

is_false : (b : Bool) → not b ≡ true → b ≡ false
is_false true e = absurd cc
is_false false e = refl

is_empty : {X : Type 0} (xs : List X) → (length xs == 0) ≡ true → xs ≡ []
is_empty [] e = refl
is_empty (x ∷ xs) e = let n : suc (length xs) ≡ 0 = eqb-true (suc (length xs)) 0 e in absurd (omega (arith, n))

put_first : (o : Output) (os : List Output) → put (is_before []) o os ≡ o ∷ os
put_first o [] = refl
put_first o (p ∷ ps) = refl

unordered : (outputs : List Output) → in_order [] outputs ≡ outputs
unordered [] = refl
unordered (o ∷ os) = ap (put (is_before []) o) (unordered os) ∙ put_first o os

column_alone : (row : List Value) (item : Item) → is_column item ≡ true → item_over (row ∷ []) item ≡ item_value row item
column_alone row (Column column) e = refl
column_alone row CountRows e = absurd cc
column_alone row (Count column) e = absurd cc
column_alone row (CountDistinct columns) e = absurd cc
column_alone row (Sum column) e = absurd cc
column_alone row (Min column) e = absurd cc
column_alone row (Max column) e = absurd cc

columns_alone : (row : List Value) (items : List Item) → list_all is_column items ≡ true → map (item_over (row ∷ [])) items ≡ projected items row
columns_alone row [] e = refl
columns_alone row (item ∷ items) e = by_parts (is_column item) (list_all is_column items) refl refl e (columns_alone row items)
  where
    by_parts : (a b : Bool) → is_column item ≡ a → list_all is_column items ≡ b → (a && b) ≡ true → (list_all is_column items ≡ true → map (item_over (row ∷ [])) items ≡ projected items row) → map (item_over (row ∷ [])) (item ∷ items) ≡ projected (item ∷ items) row
    by_parts true true p q e h = ap (λ v. v ∷ map (item_over (row ∷ [])) items) (column_alone row item p) ∙ ap (λ l. item_value row item ∷ l) (h q)
    by_parts true false p q e h = absurd cc
    by_parts false b p q e h = absurd cc

rows_alone : (items : List Item) (rows : List (List Value)) → list_all is_column items ≡ true → map (λ (o : Output). o.0) (map (output_of items) (map (λ row. row ∷ []) rows)) ≡ map (projected items) rows
rows_alone items [] e = refl
rows_alone items (row ∷ rows) e = ap (λ v. v ∷ map (λ (o : Output). o.0) (map (output_of items) (map (λ row. row ∷ []) rows))) (columns_alone row items e) ∙ ap (λ l. projected items row ∷ l) (rows_alone items rows e)

abbrev finished : Bool → List Item → List ℕ → List Order → List (List Value) → List (List Value)
finished distinct items group order rows = map (λ o. o.0) (in_order order (distinct_if distinct (map (output_of items) (groups_if (makes_groups items group) group rows))))

pub finish_plain : (q : Question) (rows : List (List Value)) → is_plain q ≡ true → finish q rows ≡ map (projected q.items) rows
finish_plain q rows e =
    let (once, columns, ungrouped, loose) = parts (not q.distinct) (list_all is_column q.items) (length q.group == 0) (length q.order == 0) e in
    ap (λ b. finished b q.items q.group q.order rows) (is_false q.distinct once)
    ∙ ap (λ g. finished false q.items g q.order rows) (is_empty q.group ungrouped)
    ∙ ap (λ o. finished false q.items [] o rows) (is_empty q.order loose)
    ∙ ap (λ b. map (λ (o : Output). o.0) (in_order [] (map (output_of q.items) (groups_if (not b) [] rows)))) columns
    ∙ ap (map (λ (o : Output). o.0)) (unordered (map (output_of q.items) (map (λ row. row ∷ []) rows)))
    ∙ rows_alone q.items rows columns

pub answered_plain : (q : Question) (rows : List (List Value)) → is_plain q ≡ true → answered q rows ≡ answer q rows
answered_plain q rows e = finish_plain q (selected q.cond rows) e
