-- Rows that stand by their keys already, by the entries of an index on them.
use Rattle.std.proofs.Common.{◌≡◌, ℕ, ◌+◌, ◌<◌, ◌≤◌, Bool, true, false, List, [], ◌∷◌, ◌++◌, length, take, get_or, refl, sym, ap, ap₂, ◌∙◌, subst, arith}
use Rattle.std.specs.declared.cmp.Ordering.{Ordering}
use Rattle.std.specs.declared.cmp.Ordering.TheVariants.{Less, Equal, Greater}
use Rattle.std.specs.Ordering.{ordering_then, is_lt, nat_cmp}
use Rattle.std.specs.List.{range_with_len}
use Rattle.std.proofs.lemmas.List.{take_more, take_all}
use Rattle.std.proofs.lemmas.List.Sorted.{IsPermutation-refl, length_permutation}
use Rattle.std.proofs.lemmas.List.FromFn.{length-range_with_len, get_or-range_with_len}
use Rattle.std.proofs.lemmas.Option.{unwrap_or-slice_get}
use Rattle.std.proofs.lemmas.List.{get_or_default}
use Rattle.rx_value.specs.declared.values.Value.{Value}
use Rattle.rx_value.specs.declared.shapes.Part.{Part}
use Rattle.rx_value.specs.declared.shapes.Index.{Index}
use Rattle.rx_value.proofs.KeyOrder.{by_key}
use Rattle.rx_index.specs.Entries.{row_at, entry_cmp, IsOrder, AreOrders, IsByKey, IsByPrimary, IsInIdOrder}
use Rattle.rx_index.proofs.Sorting.{range_more}

-- ---- the ids of all rows

-- one id more
pub one_more : (ids : List ℕ) (place id : ℕ) → place < length ids → id ≡ get_or ids place id → id ≡ place → take place ids ≡ range_with_len 0 place → take (place + 1) ids ≡ range_with_len 0 (place + 1)
one_more ids place id lt e same h =
    take_more ids place id lt ∙ ap₂ (λ l n. l ++ n ∷ []) h (sym e ∙ same) ∙ sym (range_more place)

pub all_ids : (ids : List ℕ) (place : ℕ) → length ids ≤ place → place ≤ length ids → take place ids ≡ range_with_len 0 place → ids ≡ range_with_len 0 (length ids)
all_ids ids place le within h =
    let same : place ≡ length ids = omega (arith, le, within) in
    sym (take_all place ids le) ∙ h ∙ ap (range_with_len 0) same

-- ---- rows by their keys

not_less : (o t : Ordering) → is_lt (ordering_then o t) ≡ false → is_lt o ≡ false
not_less Less t h = h
not_less Equal t h = refl
not_less Greater t h = refl

module _ (parts : List Part) (rows : List (List Value)) (ids : List ℕ) (o : IsOrder parts rows ids) (all : ids ≡ range_with_len 0 (length ids)) where
  as_many : length ids ≡ length rows
  as_many = omega (arith, length_permutation (range_with_len 0 (length rows)) ids o.each, length-range_with_len 0 (length rows))

  id_at : (k d : ℕ) → k < length rows → get_or ids k d ≡ k
  id_at k d lt =
      let within : k < length ids = omega (arith, lt, as_many) in
      ap (λ l. get_or l k d) all ∙ (let e : get_or (range_with_len 0 (length ids)) k d ≡ k = omega (arith, get_or-range_with_len 0 (length ids) k d within) in e)

  row_there : (k : ℕ) (d : List Value) → k < length rows → get_or rows k d ≡ row_at rows k
  row_there k d lt = get_or_default rows k d [] lt ∙ sym (unwrap_or-slice_get rows k [])

  pub by_entries : IsByKey parts rows rows
  by_entries = record {
    same = IsPermutation-refl rows;
    rising = λ k d lo lt.
        let below : k < length rows = omega (arith, lt) in
        ap₂ (λ r s. is_lt (by_key parts r s)) (row_there (k + 1) d lt) (row_there k d below)
        ∙ not_less (by_key parts (row_at rows (k + 1)) (row_at rows k)) (nat_cmp (k + 1) k)
        (sym (ap₂ (λ x y. is_lt (entry_cmp parts rows x y)) (id_at (k + 1) 0 lt) (id_at k 0 below)) ∙ o.rising k 0 lo (omega (arith, lt, as_many)));
  }

primary_stands : (b : Bool) (parts : List Part) (rows : List (List Value)) → IsByKey parts rows rows → IsByPrimary b parts rows rows
primary_stands true parts rows h = h
primary_stands false parts rows h = refl

-- where the ids of the first index are those of all rows in turn
pub stands_by_first : (indexes : List Index) (rows : List (List Value)) (orders : List (List ℕ)) → AreOrders indexes rows orders → (ids : List ℕ) → ids ≡ get_or orders 0 ids
    → ids ≡ range_with_len 0 (length ids) → IsInIdOrder indexes rows rows
stands_by_first [] rows orders h ids e all = refl
stands_by_first (index ∷ others) rows [] h ids e all = absurd h
stands_by_first (index ∷ others) rows (first ∷ orders) h ids e all =
    primary_stands index.primary index.parts rows (by_entries index.parts rows first h.0 (subst (λ (l : List ℕ). l ≡ range_with_len 0 (length l)) e all))
