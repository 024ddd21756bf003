-- How far from 0 a sum can be.
use Rattle.std.proofs.Common.{◌≡◌, ℕ, ◌+◌, ◌-◌, ◌*◌, ◌^◌, ◌<◌, ◌≤◌, List, length, get_or, Option, Some, None, unwrap_or, refl, sym, ap, subst, ◌∙◌, arith}
use Rattle.std.specs.Prelude.{ℤ, pos, neg_ℤ, ◌+ℤ◌, ◌≤ℤ◌, All, slice_get, IfSome}
use Rattle.std.specs.Int.RustNames.{FitsSigned}
use Rattle.std.proofs.lemmas.Int.{ints}
use Rattle.std.proofs.lemmas.Option.{slice_get_cases}
use Rattle.std.proofs.lemmas.List.{length-map}
use Rattle.std.proofs.Math.ListN.{get_or-map}
use mathlib.Core.Logic.{◌⊎◌, inl, inr}
use mir.Syntax.{w128}
use denote.Ref.{Bor}
use Rattle.rx_value.specs.declared.values.Value.{Value}
use Rattle.rx_value.specs.declared.values.Value.TheVariants.{Null, Int, Text}
use Rattle.rx_cond.specs.Test.{column_value}
use Rattle.rx_group.specs.Classes.{rows_of}
use Rattle.rx_aggregate.specs.Aggregates.{IsSmall, AreSmall, integer_of, summed}

-- an integer as the columns have it
abbrev Lies : ℤ → Type 0
Lies n = (neg_ℤ (pos (2 ^ 63)) ≤ℤ n) × (n ≤ℤ pos (2 ^ 64 - 1))

-- a sum of so many
abbrev pub Near : ℕ → ℤ → Type 0
Near i t = (neg_ℤ (pos (i * 2 ^ 64)) ≤ℤ t) × (t ≤ℤ pos (i * 2 ^ 64))

as_integer : (v : Value) (n : ℤ) → IsSmall v → integer_of v ≡ Some n → Lies n
as_integer Null n h e = absurd cc
as_integer (Int m) n h e = let same : m ≡ n = cc in subst Lies same h
as_integer (Text text) n h e = absurd cc

small_column : (row : List Value) (column : ℕ) → All IsSmall row → IsSmall (column_value column row)
small_column row column all = by_cases (slice_get_cases row column).1
  where
    by_cases : (((x : Value) × (column < length row) × (slice_get row column ≡ Some x) × (get_or row column x ≡ x)) ⊎ ((length row ≤ column) × (slice_get row column ≡ None))) → IsSmall (unwrap_or (slice_get row column) Null)
    by_cases (inl h) = subst (λ o. IsSmall (unwrap_or o Null)) (sym h.2) (subst IsSmall h.3 (all column h.0 h.1))
    by_cases (inr h) = subst (λ o. IsSmall (unwrap_or o Null)) (sym h.1) tt

pub small_integer : (rows : List (Bor (List Value))) (i : ℕ) (row : Bor (List Value)) (column : ℕ) (n : ℤ) → AreSmall (rows_of rows) → i < length rows → row ≡ get_or rows i row → integer_of (column_value column row.now) ≡ Some n → Lies n
small_integer rows i row column n small within is e =
    let at : All IsSmall (get_or (rows_of rows) i row.now) = small.small i row.now (subst (λ k. i < k) (sym (length-map rows (λ (r : Bor (List Value)). r.now))) within) in
    let same : get_or (rows_of rows) i row.now ≡ row.now = get_or-map (λ (r : Bor (List Value)). r.now) rows i row ∙ ap (λ (r : Bor (List Value)). r.now) (sym is) in
    as_integer (column_value column row.now) n (small_column row.now column (subst (All IsSmall) same at)) e

pub fits : (i : ℕ) (t n : ℤ) → i < 1000000 → Near i t → Lies n → FitsSigned w128 (t +ℤ n)
fits i t n few near lies = omega (arith, ints)

near_more : (i : ℕ) (t : ℤ) → Near i t → Near (i + 1) t
near_more i t near = (omega (arith, ints), omega (arith, ints))

near_first : (i : ℕ) (n : ℤ) → Lies n → Near (i + 1) n
near_first i n lies = (omega (arith, ints), omega (arith, ints))

near_sum : (i : ℕ) (t n : ℤ) → Near i t → Lies n → Near (i + 1) (t +ℤ n)
near_sum i t n near lies = (omega (arith, ints), omega (arith, ints))

pub near_summed : (i : ℕ) (total o : Option ℤ) → IfSome total (Near i) → ((n : ℤ) → o ≡ Some n → Lies n) → IfSome (summed total o) (Near (i + 1))
near_summed i None None near lies = tt
near_summed i (Some t) None near lies = near_more i t near
near_summed i None (Some n) near lies = near_first i n (lies n refl)
near_summed i (Some t) (Some n) near lies = near_sum i t n near (lies n refl)

pub below_most : (rows : List (Bor (List Value))) (i : ℕ) → AreSmall (rows_of rows) → i < length rows → i < 1000000
below_most rows i small within =
    let few : length rows ≤ 1000000 = subst (λ k. k ≤ 1000000) (length-map rows (λ (r : Bor (List Value)). r.now)) small.few in
    omega arith
