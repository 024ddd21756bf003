-- What questions answer, by examples.
use Rattle.std.proofs.Common.{◌≡◌, ℕ, Bool, true, false, List, [], ◌∷◌, refl}
use Rattle.std.specs.Prelude.{pos}
use Rattle.rx_value.specs.declared.values.Value.{Value}
use Rattle.rx_value.specs.declared.values.Value.TheVariants.{Null, Int}
use Rattle.rx_query.specs.declared.statements.Item.{Item}
use Rattle.rx_query.specs.declared.statements.Item.TheVariants.{Column, CountRows, Count, CountDistinct, Sum, Min, Max}
use Rattle.rx_query.specs.declared.statements.By.TheVariants as by
use Rattle.rx_query.specs.declared.statements.Order.{Order}
use Rattle.rx_query.specs.Steps.{Question}
use Rattle.rx_cond.specs.Tree.{truth}
use Rattle.rx_cond.specs.declared.conds.Tri.TheVariants.{T}
use Rattle.rx_rows.specs.Finish.{finish}

-- an integer
abbrev i : ℕ → Value
i n = Int (pos n)

-- a question without WHERE
abbrev q : Bool → List Item → List ℕ → List Order → Question
q d items group order = record { distinct = d; items = items; cond = truth T; group = group; order = order; usable = [] }

-- ORDER BY a DESC: NULL last
descending : finish (q false (Column 0 ∷ []) [] (record { by = by.Column 0; falling = true } ∷ [])) ((Null ∷ []) ∷ (i 2 ∷ []) ∷ (i 5 ∷ []) ∷ (i 9 ∷ []) ∷ []) ≡ (i 9 ∷ []) ∷ (i 5 ∷ []) ∷ (i 2 ∷ []) ∷ (Null ∷ []) ∷ []
descending = refl

-- aggregates over nothing, and over two rows
nothing : finish (q false (CountRows ∷ Min 0 ∷ []) [] []) [] ≡ (i 0 ∷ Null ∷ []) ∷ []
nothing = refl

two : finish (q false (CountRows ∷ Sum 2 ∷ Min 0 ∷ []) [] []) ((i 51 ∷ i 5 ∷ i 54 ∷ []) ∷ (i 50 ∷ i 5 ∷ i 55 ∷ []) ∷ []) ≡ (i 2 ∷ i 109 ∷ i 50 ∷ []) ∷ []
two = refl

-- DISTINCT keeps the first of equal rows
once : finish (q true (Column 0 ∷ Column 1 ∷ []) [] []) ((Null ∷ i 99 ∷ []) ∷ (Null ∷ i 99 ∷ []) ∷ (i 1 ∷ i 99 ∷ []) ∷ (Null ∷ i 99 ∷ []) ∷ (i 1 ∷ i 99 ∷ []) ∷ []) ≡ (Null ∷ i 99 ∷ []) ∷ (i 1 ∷ i 99 ∷ []) ∷ []
once = refl

-- groups in the order of their first rows; NULL is passed over
groups : finish (q false (Column 0 ∷ Min 1 ∷ Max 1 ∷ Sum 1 ∷ []) (0 ∷ []) []) ((i 0 ∷ Null ∷ []) ∷ (i 1 ∷ i 500 ∷ []) ∷ (i 0 ∷ Null ∷ []) ∷ (i 1 ∷ i 999 ∷ []) ∷ []) ≡ (i 0 ∷ Null ∷ Null ∷ Null ∷ []) ∷ (i 1 ∷ i 500 ∷ i 999 ∷ i 1499 ∷ []) ∷ []
groups = refl

-- COUNT(DISTINCT a) and COUNT(b)
different : finish (q false (CountDistinct (0 ∷ []) ∷ Count 1 ∷ []) [] []) ((i 0 ∷ Null ∷ []) ∷ (i 1 ∷ i 500 ∷ []) ∷ (Null ∷ i 3 ∷ []) ∷ (i 1 ∷ i 999 ∷ []) ∷ []) ≡ (i 2 ∷ i 3 ∷ []) ∷ []
different = refl
