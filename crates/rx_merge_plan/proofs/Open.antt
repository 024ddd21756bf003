-- The scans of disjuncts are those of an open disjunction where the indexes that the disjuncts narrow are.
use Rattle.std.proofs.Common.{◌≡◌, ◌+◌, ◌<◌, ℕ, Bool, true, false, not, ◌&&◌, ◌||◌, nat_eq, List, [], ◌∷◌, map, get_or, Option, Some, None, if◌then◌else◌, refl, ap, ap₂, sym, ◌∙◌, arith}
use Rattle.std.specs.List.{list_any, list_all, range_with_len}
use Rattle.std.proofs.lemmas.List.Folds.{list_any-append, list_any_at}
use Rattle.std.proofs.lemmas.List.FromFn.{length-range_with_len, get_or-range_with_len}
use Rattle.rx_value.specs.declared.shapes.Schema.{Schema}
use Rattle.rx_query.specs.Steps.{Question}
use Rattle.rx_cost.specs.declared.candidates.Scan.{Scan}
use Rattle.rx_plan.specs.Naming.{is_usable, index_numbers}
use Rattle.rx_plan.specs.Known.{Ranged}
use Rattle.rx_plan.proofs.Named.{range_more}
use Rattle.rx_merge_plan.specs.Disjuncts.{found_scan, has_index, is_open, has_few_disjuncts, is_considered}
use Rattle.rx_merge_plan.specs.Lists.{found_lists, found_where, have_index, are_open}

have_same : (index member : ℕ) (rs : List Ranged) → have_index index (map (found_scan member) rs) ≡ has_index index rs
have_same index member [] = refl
have_same index member (r ∷ rs) = ap (λ b. nat_eq r.index index || b) (have_same index member rs)

all_same : (index member : ℕ) (lists : List (List Ranged)) → list_all (have_index index) (found_lists member lists) ≡ list_all (has_index index) lists
all_same index member [] = refl
all_same index member (list ∷ lists) = ap₂ (λ a b. a && b) (have_same index member list) (all_same index (member + 1) lists)

-- the same test, whether by scans or by the indexes that are narrowed
pub open_same : (q : Question) (schema : Schema) (lists : List (List Ranged)) → are_open q schema (found_lists 1 lists) ≡ is_open q schema lists
open_same q schema lists =
    ap (λ (test : ℕ → Bool). not (list_any test (index_numbers schema))) (λ i index. is_usable q index && all_same index 1 lists i)

-- ---- of the first indexes none is in all

module _ (test : ℕ → Bool) where
  pub none_more : (n : ℕ) → list_any test (range_with_len 0 n) ≡ false → test n ≡ false → list_any test (range_with_len 0 (n + 1)) ≡ false
  none_more n none e =
      ap (list_any test) (range_more n) ∙ list_any-append test (range_with_len 0 n) (n ∷ []) ∙ ap₂ (λ a b. a || (b || false)) none e

  pub any_there : (n i : ℕ) → i < n → test i ≡ true → list_any test (range_with_len 0 n) ≡ true
  any_there n i below e =
      let numbers = range_with_len 0 n in
      let is : get_or numbers i 0 ≡ i = get_or-range_with_len 0 n i 0 below ∙ omega arith in
      list_any_at test numbers i 0 (omega (arith, below, length-range_with_len 0 n)) (ap test is ∙ e)

-- ---- what is found of a disjunction

-- it has too many disjuncts
pub too_many : (q : Question) (schema : Schema) (lists : List (List Ranged)) → has_few_disjuncts lists ≡ false → None ≡ found_where q schema lists
too_many q schema lists e = sym (ap (λ b. if b && is_open q schema lists then Some (found_lists 1 lists) else None) e)

when_both : (a b : Bool) (lists : List (List Ranged)) → a ≡ true → b ≡ true
    → Some (found_lists 1 lists) ≡ (if a && b then Some (found_lists 1 lists) else None)
when_both a b lists e f = sym (ap₂ (λ x y. if x && y then Some (found_lists 1 lists) else None) e f)

when_second : (a b : Bool) (lists : List (List Ranged)) → b ≡ false → None ≡ (if a && b then Some (found_lists 1 lists) else None)
when_second true b lists e = sym (ap (λ y. if y then Some (found_lists 1 lists) else None) e)
when_second false b lists e = refl

-- it isn't open
pub not_open : (q : Question) (schema : Schema) (lists : List (List Ranged)) → are_open q schema (found_lists 1 lists) ≡ false
    → None ≡ found_where q schema lists
not_open q schema lists e = when_second (has_few_disjuncts lists) (is_open q schema lists) lists (sym (open_same q schema lists) ∙ e)

-- it is considered
pub considered : (q : Question) (schema : Schema) (lists : List (List Ranged)) → has_few_disjuncts lists ≡ true
    → are_open q schema (found_lists 1 lists) ≡ true
    → Some (found_lists 1 lists) ≡ found_where q schema lists
considered q schema lists few e = when_both (has_few_disjuncts lists) (is_open q schema lists) lists few (sym (open_same q schema lists) ∙ e)

where_some : (b : Bool) (lists : List (List Ranged)) (o : Option (List (List Scan))) (found : List (List Scan))
    → o ≡ (if b then Some (found_lists 1 lists) else None) → o ≡ Some found
    → (b ≡ true) × (found ≡ found_lists 1 lists)
where_some true lists o found e is = (refl, cc (e, is))
where_some false lists o found e is = absurd (cc (e, is))

-- something is found of one that is considered alone
pub found_some : (q : Question) (schema : Schema) (lists : List (List Ranged)) (o : Option (List (List Scan))) (found : List (List Scan))
    → o ≡ found_where q schema lists → o ≡ Some found
    → (is_considered q schema lists ≡ true) × (found ≡ found_lists 1 lists)
found_some q schema lists o found e is = where_some (is_considered q schema lists) lists o found e is

where_none : (b : Bool) (lists : List (List Ranged)) (o : Option (List (List Scan))) → o ≡ (if b then Some (found_lists 1 lists) else None) → o ≡ None
    → b ≡ false
where_none true lists o e is = absurd (cc (e, is))
where_none false lists o e is = refl

pub found_none : (q : Question) (schema : Schema) (lists : List (List Ranged)) (o : Option (List (List Scan))) → o ≡ found_where q schema lists → o ≡ None
    → is_considered q schema lists ≡ false
found_none q schema lists o e is = where_none (is_considered q schema lists) lists o e is
