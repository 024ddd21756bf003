-- Numbers from 0, and columns as items.
use Rattle.std.proofs.Common.{◌≡◌, ℕ, zero, suc, ◌+◌, List, [], ◌∷◌, ◌++◌, ap, refl, map, ◌∙◌, add-one, arith}
use Rattle.std.specs.List.{range_with_len}
use Rattle.rx_query.specs.declared.statements.Item.TheVariants.{Column}
use Rattle.rx_query.specs.Steps.{columns_listed}

range_step : (a n j : ℕ) → a + n ≡ j → range_with_len a (suc n) ≡ range_with_len a n ++ j ∷ []
range_step a zero j e = let f : a ≡ j = omega arith in ap (λ (k : ℕ). k ∷ []) f
range_step a (suc n) j e = ap (λ (xs : List ℕ). a ∷ xs) (range_step (a + 1) n j (omega arith))

-- one number more
pub range_more : (n : ℕ) → range_with_len 0 (n + 1) ≡ range_with_len 0 n ++ n ∷ []
range_more n = ap (range_with_len 0) (add-one n) ∙ range_step 0 n n (omega arith)

-- the columns of items that are columns
pub columns_of_items : (columns : List ℕ) → columns_listed (map Column columns) ≡ columns
columns_of_items [] = refl
columns_of_items (column ∷ columns) = ap (λ (ns : List ℕ). column ∷ ns) (columns_of_items columns)
