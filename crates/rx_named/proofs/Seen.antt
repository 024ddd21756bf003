-- Rows that are seen at some columns alone.
use Rattle.std.proofs.Common.{◌≡◌, ℕ, zero, suc, ◌+◌, ◌<◌, ◌≤◌, Bool, true, false, cond, List, ◌∷◌, length, map, filter, refl, sym, ap, subst, ◌∙◌, arith}
use Rattle.std.specs.Prelude.{All, nat_eq, nat_lt, unwrap_or}
use Rattle.std.specs.List.{list_all, range_with_len}
use Rattle.std.proofs.lemmas.Bool.{and_parts, eqb-true, eqb-false, ltb-true, ltb-false}
use Rattle.std.proofs.lemmas.List.FromFn.{get_or-map-range_with_len, length-map-range_with_len}
use Rattle.std.proofs.lemmas.Option.{unwrap_or-slice_get, slice_get_past}
use Rattle.rx_value.specs.declared.values.Value.{Value}
use Rattle.rx_value.specs.declared.values.Value.TheVariants.{Null}
use Rattle.rx_cond.specs.Test.{column_value}
use Rattle.rx_named.specs.Agreement.{AgreeOn, KeepsColumns, HasColumns, seen_at}

-- a row has NULL behind its end
value_past : (row : List Value) (column : ℕ) → length row ≤ column → column_value column row ≡ Null
value_past row column past = ap (λ o. unwrap_or o Null) (slice_get_past row column past)

module _ (kept : ℕ → Bool) (row : List Value) where
  -- the value of a column, where it is kept
  abbrev value_kept : ℕ → Value
  value_kept column = cond (kept column) (column_value column row) Null

  value_within : (column : ℕ) → column < length row → column_value column (seen_at kept row) ≡ value_kept column
  value_within column within =
      unwrap_or-slice_get (map value_kept (range_with_len 0 (length row))) column Null
      ∙ get_or-map-range_with_len value_kept 0 (length row) column column Null within (omega arith)

  seen_past : (column : ℕ) → length row ≤ column → column_value column (seen_at kept row) ≡ Null
  seen_past column past = value_past (seen_at kept row) column (subst (λ n. n ≤ column) (sym (length-map-range_with_len value_kept 0 (length row))) past)

  seen_agrees : (columns : ℕ → Bool) → HasColumns columns kept row → AgreeOn columns (seen_at kept row) row
  seen_agrees columns has column e = by_test (nat_lt column (length row)) (λ f. ltb-true column (length row) f) (λ f. ltb-false column (length row) f)
    where
      by_test : (b : Bool) → (b ≡ true → column < length row) → (b ≡ false → length row ≤ column) → column_value column (seen_at kept row) ≡ column_value column row
      by_test true f g = value_within column (f refl) ∙ ap (λ k. cond k (column_value column row) Null) (has column (f refl) e)
      by_test false f g = seen_past column (g refl) ∙ sym (value_past row column (g refl))

pub seen_keeps : (columns kept : ℕ → Bool) (rows : List (List Value)) → All (HasColumns columns kept) rows → KeepsColumns columns (seen_at kept) rows
seen_keeps columns kept rows h k d within = seen_agrees kept _ columns (h k d within)

-- ---- the columns of a table

-- a number that is at least another one and isn't it
above : (a b : ℕ) → a ≤ b → (a ≡ b → ⊥) → a + 1 ≤ b
above a b low other = by_test (nat_lt a b) (λ e. ltb-true a b e) (λ e. ltb-false a b e)
  where
    by_test : (c : Bool) → (c ≡ true → a < b) → (c ≡ false → b ≤ a) → a + 1 ≤ b
    by_test true f g = let l = f refl in omega (arith, l)
    by_test false f g = let l = g refl in absurd (other (omega (arith, low, l)))

module _ (columns kept : ℕ → Bool) where
  first_and_rest : (b : Bool) (column : ℕ) (rest : List ℕ) → list_all kept (cond b (column ∷ rest) rest) ≡ true → (b ≡ true → kept column ≡ true) × (list_all kept rest ≡ true)
  first_and_rest true column rest e = let (first, others) = and_parts (kept column) (list_all kept rest) e in ((λ _. first), others)
  first_and_rest false column rest e = ((λ f. absurd cc), e)

  kept_from : (n from : ℕ) → list_all kept (filter columns (range_with_len from n)) ≡ true → (column : ℕ) → from ≤ column → column < from + n → columns column ≡ true → kept column ≡ true
  kept_from zero from e column low high f = absurd (omega (arith, low, high))
  kept_from (suc n) from e column low high f =
      let (first, others) = first_and_rest (columns from) from (filter columns (range_with_len (from + 1) n)) e in
      by_test (nat_eq from column) (λ g. eqb-true from column g) (λ g. eqb-false from column g) first (λ l. kept_from n (from + 1) others column l (omega (arith, high)) f)
    where
      by_test : (b : Bool) → (b ≡ true → from ≡ column) → (b ≡ false → from ≡ column → ⊥) → (columns from ≡ true → kept from ≡ true) → (from + 1 ≤ column → kept column ≡ true) → kept column ≡ true
      by_test true same other first more = let s = same refl in subst (λ c. kept c ≡ true) s (first (subst (λ c. columns c ≡ true) (sym s) f))
      by_test false same other first more = let t = other refl in more (above from column low t)

  has_listed : (width : ℕ) → list_all kept (filter columns (range_with_len 0 width)) ≡ true → (row : List Value) → length row ≤ width → HasColumns columns kept row
  has_listed width e row fits column within = kept_from width 0 e column (omega arith) (omega (arith, within, fits))

pub listed_keeps : (columns kept : ℕ → Bool) (width : ℕ) (rows : List (List Value)) → list_all kept (filter columns (range_with_len 0 width)) ≡ true → All (λ row. length row ≤ width) rows → KeepsColumns columns (seen_at kept) rows
listed_keeps columns kept width rows e h = seen_keeps columns kept rows (λ k d within. has_listed columns kept width e _ (h k d within))
