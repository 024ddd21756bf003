-- One more row that is lent.
use Rattle.std.proofs.Common.{◌≡◌, ℕ, ◌<◌, ◌≤◌, false, cond, List, [], ◌∷◌, ◌++◌, length, map, get_or, set, sym, ap, subst, ◌∙◌, arith}
use Rattle.std.specs.Prelude.{nat_lt}
use Rattle.std.proofs.lemmas.Bool.{lt-ltb}
use Rattle.std.proofs.lemmas.List.{map-append, map-set, length-map}
use Rattle.std.proofs.Math.ListN.{get_or-map}
use Rattle.std.specs.BTreeMap.{BTreeMap}
use denote.Ref.{Bor}
use Rattle.rx_value.specs.declared.values.Value.{Value}
use Rattle.rx_group.specs.Classes.{values_at, firsts, class_of, classes, rows_of, lists_of}
use Rattle.rx_group.specs.Numbers.{Numbers, Notes, added}
use Rattle.rx_group.proofs.Steps.{classes_more, numbers_kept}

pub pushed : (lists : List (List (Bor (List Value)))) (place : ℕ) (class : List (Bor (List Value))) (row : Bor (List Value)) → place < length lists → class ≡ get_or lists place [] ++ row ∷ [] → lists_of (set lists place class) ≡ added (lists_of lists) place row.now
pushed lists place class row within is =
    map-set rows_of lists place class
    ∙ ap (set (lists_of lists) place) (ap rows_of is ∙ map-append (λ (r : Bor (List Value)). r.now) (get_or lists place []) (row ∷ []) ∙ ap (λ l. l ++ row.now ∷ []) (sym (get_or-map rows_of lists place [])))
    ∙ sym (ap (λ t. cond t (set (lists_of lists) place (get_or (lists_of lists) place [] ++ row.now ∷ [])) (lists_of lists ++ (row.now ∷ []) ∷ [])) (lt-ltb place (length (lists_of lists)) (subst (λ n. place < n) (sym (length-map lists rows_of)) within)))

pub alone : (lists : List (List (Bor (List Value)))) (place : ℕ) (row : Bor (List Value)) → length lists ≤ place → lists_of (lists ++ (row ∷ []) ∷ []) ≡ added (lists_of lists) place row.now
alone lists place row behind =
    map-append rows_of lists ((row ∷ []) ∷ [])
    ∙ sym (ap (λ t. cond t (set (lists_of lists) place (get_or (lists_of lists) place [] ++ row.now ∷ [])) (lists_of lists ++ (row.now ∷ []) ∷ [])) (not_below place (length (lists_of lists)) (subst (λ n. n ≤ place) (sym (length-map lists rows_of)) behind)))
  where
    not_below : (i n : ℕ) → n ≤ i → nat_lt i n ≡ false
    not_below i n h = grind arith

-- one more row, of which the class has this number
pub stepped : (columns : List ℕ) (done all : List (List Value)) (row : List Value) (made after : List (List (List Value))) (old new : BTreeMap (List Value) ℕ) (next number : ℕ) → all ≡ done ++ row ∷ [] → made ≡ classes (values_at columns) done → Numbers (map (values_at columns) (firsts (values_at columns) done)) old → next ≡ length made → Notes old new (values_at columns row) next number → after ≡ added made number row → (after ≡ classes (values_at columns) all) × Numbers (map (values_at columns) (firsts (values_at columns) all)) new
stepped columns done all row made after old new next number more is holds count notes put =
    let key = values_at columns in
    let n : next ≡ length (classes key done) = count ∙ ap length is in
    let m : next ≡ length (firsts key done) = n ∙ length-map (firsts key done) (class_of key done) in (
      put ∙ ap (λ l. added l number row) is ∙ classes_more key done row old new next number n holds notes ∙ ap (classes key) (sym more),
      subst (λ l. Numbers (map key (firsts key l)) new) (sym more) (numbers_kept key done row old new next number m holds notes),
    )
