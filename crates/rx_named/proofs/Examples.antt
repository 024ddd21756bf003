-- What questions name, and answers over rows of which too little is seen, by examples.
use Rattle.std.proofs.Common.{◌≡◌, ℕ, true, false, List, [], ◌∷◌, map, refl}
use Rattle.std.specs.Prelude.{pos}
use Rattle.std.specs.List.{range_with_len}
use Rattle.rx_value.specs.declared.values.Value.{Value}
use Rattle.rx_value.specs.declared.values.Value.TheVariants.{Null, Int}
use Rattle.rx_cond.specs.declared.conds.Op.TheVariants.{Eq}
use Rattle.rx_cond.specs.declared.conds.Operand.TheVariants as operand
use Rattle.rx_cond.specs.declared.conds.Tri.TheVariants.{T}
use Rattle.rx_cond.specs.Tree.{Tree, truth, compare}
use Rattle.rx_query.specs.declared.statements.By.TheVariants as by
use Rattle.rx_query.specs.declared.statements.Item.{Item}
use Rattle.rx_query.specs.declared.statements.Item.TheVariants.{Column, Max}
use Rattle.rx_query.specs.declared.statements.Order.{Order}
use Rattle.rx_query.specs.Steps.{Question}
use Rattle.rx_rows.specs.Finish.{answered}
use Rattle.rx_named.specs.Agreement.{seen_at}
use Rattle.rx_named.specs.Naming.{is_one_of, names}

-- an integer
abbrev i : ℕ → Value
i n = Int (pos n)

-- a question without DISTINCT
abbrev q : List Item → Tree → List ℕ → List Order → Question
q items t group order = record { distinct = false; items = items; cond = t; group = group; order = order; usable = [] }

-- SELECT b, MAX(e) .. WHERE a = 1 GROUP BY b, f ORDER BY d DESC, 1 names a, b, d, e and f, and neither c nor g
abbrev each_part : Question
each_part = q (Column 1 ∷ Max 4 ∷ []) (compare Eq (operand.Column 0) (operand.Constant (i 1))) (1 ∷ 5 ∷ []) (record { by = by.Column 3; falling = true } ∷ record { by = by.Place 0; falling = false } ∷ [])

named : map (names each_part) (range_with_len 0 7) ≡ true ∷ true ∷ false ∷ true ∷ true ∷ true ∷ false ∷ []
named = refl

-- SELECT a .. ORDER BY b
abbrev by_other : Question
by_other = q (Column 0 ∷ []) (truth T) [] (record { by = by.Column 1; falling = false } ∷ [])

abbrev rows : List (List Value)
rows = (i 1 ∷ i 20 ∷ i 7 ∷ []) ∷ (i 3 ∷ i 10 ∷ i 8 ∷ []) ∷ []

-- what is seen of a row at its first two columns
two_seen : map (seen_at (is_one_of (0 ∷ 1 ∷ []))) rows ≡ (i 1 ∷ i 20 ∷ Null ∷ []) ∷ (i 3 ∷ i 10 ∷ Null ∷ []) ∷ []
two_seen = refl

all_rows : answered by_other rows ≡ (i 3 ∷ []) ∷ (i 1 ∷ []) ∷ []
all_rows = refl

-- the column of ORDER BY is seen
ordered_rows : answered by_other (map (seen_at (is_one_of (0 ∷ 1 ∷ []))) rows) ≡ (i 3 ∷ []) ∷ (i 1 ∷ []) ∷ []
ordered_rows = refl

-- the column of ORDER BY isn't seen
unordered_rows : answered by_other (map (seen_at (is_one_of (0 ∷ []))) rows) ≡ (i 1 ∷ []) ∷ (i 3 ∷ []) ∷ []
unordered_rows = refl
