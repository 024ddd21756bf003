-- The order of entries is total, and sorts by it.
use Rattle.std.proofs.Common.{◌≡◌, ℕ, zero, suc, ◌+◌, List, [], ◌∷◌, ◌++◌, ap, ◌∙◌, add-one, arith}
use Rattle.std.specs.Cmp.{IsTotalOrder}
use Rattle.std.specs.List.{range_with_len}
use Rattle.std.proofs.lemmas.Cmp.{on_total, then_total, nat_cmp_total}
use Rattle.rx_value.specs.declared.values.Value.{Value}
use Rattle.rx_value.specs.declared.shapes.Part.{Part}
use Rattle.rx_value.proofs.KeyOrder.{by_key_total}
use Rattle.rx_index.specs.Entries.{row_at, entry_cmp}

range_step : (a n j : ℕ) → a + n ≡ j → range_with_len a (suc n) ≡ range_with_len a n ++ j ∷ []
range_step a zero j e = let f : a ≡ j = omega arith in ap (λ (k : ℕ). k ∷ []) f
range_step a (suc n) j e = ap (λ (xs : List ℕ). a ∷ xs) (range_step (a + 1) n j (omega arith))

-- one number more
pub range_more : (n : ℕ) → range_with_len 0 (n + 1) ≡ range_with_len 0 n ++ n ∷ []
range_more n = ap (range_with_len 0) (add-one n) ∙ range_step 0 n n (omega arith)

pub entry_total : (parts : List Part) (rows : List (List Value)) → IsTotalOrder (entry_cmp parts rows)
entry_total parts rows = then_total (on_total (row_at rows) (by_key_total parts)) nat_cmp_total
