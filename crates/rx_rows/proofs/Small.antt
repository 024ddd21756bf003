-- Groups of few rows with small integers are such.
use Rattle.std.proofs.Common.{◌≡◌, ℕ, ◌<◌, ◌≤◌, Bool, List, [], ◌∷◌, length, filter, get_or, sym, ap, subst, ◌∙◌, arith}
use Rattle.std.specs.Prelude.{All}
use Rattle.std.proofs.lemmas.List.{length-map}
use Rattle.std.proofs.Math.ListN.{get_or-map}
use Rattle.std.proofs.lemmas.List.Elements.{All-map, All-filter, All-nil, All-cons}
use Rattle.std.proofs.lemmas.List.Sums.{length-filter, count_by-le-length}
use denote.Ref.{Bor}
use Rattle.rx_value.specs.declared.values.Value.{Value}
use Rattle.rx_group.specs.Classes.{rows_of, lists_of, firsts, class_of, classes, same_values}
use Rattle.rx_aggregate.specs.Aggregates.{AreSmall, IsSmall}

pub single : (rows : List (Bor (List Value))) (i : ℕ) (row : Bor (List Value)) → AreSmall (rows_of rows) → i < length rows → row ≡ get_or rows i row → AreSmall (row.now ∷ [])
single rows i row small within is = record {
  few = omega arith;
  small = All-cons (All IsSmall) row.now [] (subst (All IsSmall) same at) (All-nil (All IsSmall));
}
  where
    at : All IsSmall (get_or (rows_of rows) i row.now)
    at = small.small i row.now (subst (λ k. i < k) (sym (length-map rows (λ (r : Bor (List Value)). r.now))) within)

    same : get_or (rows_of rows) i row.now ≡ row.now
    same = get_or-map (λ (r : Bor (List Value)). r.now) rows i row ∙ ap (λ (r : Bor (List Value)). r.now) (sym is)

pub one_group : (groups : List (List (Bor (List Value)))) (i : ℕ) (group : List (Bor (List Value))) → All AreSmall (lists_of groups) → i < length groups → group ≡ get_or groups i group → AreSmall (rows_of group)
one_group groups i group all within is =
    subst AreSmall (get_or-map rows_of groups i group ∙ ap rows_of (sym is)) (all i (rows_of group) (subst (λ k. i < k) (sym (length-map groups rows_of)) within))

kept_small : (p : List Value → Bool) (rows : List (List Value)) → AreSmall rows → AreSmall (filter p rows)
kept_small p rows small = record {
  few = let a : length (filter p rows) ≤ length rows = subst (λ n. n ≤ length rows) (sym (length-filter p rows)) (count_by-le-length p rows) in let b : length rows ≤ 1000000 = small.few in omega arith;
  small = All-filter p (All IsSmall) rows small.small;
}

pub classes_small : (key : List Value → List Value) (rows : List (List Value)) → AreSmall rows → All AreSmall (classes key rows)
classes_small key rows small = All-map AreSmall (class_of key rows) (firsts key rows) (λ k d w. kept_small (λ y. same_values (key (get_or (firsts key rows) k d)) (key y)) rows small)
