-- The values of output rows in another order: with DISTINCT, and in the order of ORDER BY.
use Rattle.std.proofs.Common.{Bool, true, false, List, map, sym, subst, IsPermutation}
use Rattle.std.specs.List.Sorted.{IsSortedBy}
use Rattle.std.proofs.lemmas.List.Sorted.{IsPermutation-sym, IsPermutation-trans, IsPermutation-map}
use Rattle.rx_value.specs.declared.values.Value.{Value}
use Rattle.rx_query.specs.declared.statements.Order.{Order}
use Rattle.rx_group.specs.Classes.{firsts}
use Rattle.rx_group.proofs.Rearranged.{firsts_mapped, firsts-IsPermutation}
use Rattle.rx_order.specs.Order.{Output, is_before, in_order, distinct, distinct_if}
use Rattle.rx_order.proofs.Stable.{ordered-IsPermutation, ordered_sorted}
use Rattle.rx_order.proofs.Total.{before_ranks}

-- the values of output rows
abbrev pub values_of : List Output → List (List Value)
values_of outputs = map (λ o. o.0) outputs

abbrev itself : List Value → List Value
itself k = k

distinct-IsPermutation : (os ps : List Output) → IsPermutation (values_of os) (values_of ps) → IsPermutation (values_of (distinct os)) (values_of (distinct ps))
distinct-IsPermutation os ps h =
    subst (λ l. IsPermutation l (values_of (distinct ps))) (sym (firsts_mapped (λ (o : Output). o.0) itself os))
    (subst (IsPermutation (firsts itself (values_of os))) (sym (firsts_mapped (λ (o : Output). o.0) itself ps))
    (firsts-IsPermutation (values_of os) (values_of ps) h))

pub distinct_if-IsPermutation : (once : Bool) (os ps : List Output) → IsPermutation (values_of os) (values_of ps) → IsPermutation (values_of (distinct_if once os)) (values_of (distinct_if once ps))
distinct_if-IsPermutation true os ps h = distinct-IsPermutation os ps h
distinct_if-IsPermutation false os ps h = h

pub in_order-IsPermutation : (order : List Order) (os ps : List Output) → IsPermutation (values_of os) (values_of ps) → IsPermutation (values_of (in_order order os)) (values_of (in_order order ps))
in_order-IsPermutation order os ps h =
    IsPermutation-trans _ _ _ (IsPermutation-sym _ _ (IsPermutation-map (λ (o : Output). o.0) os (in_order order os) (ordered-IsPermutation (is_before order) os)))
    (IsPermutation-trans _ _ _ h (IsPermutation-map (λ (o : Output). o.0) ps (in_order order ps) (ordered-IsPermutation (is_before order) ps)))

-- no output row stands before one that it is to stand behind
pub in_order_sorted : (order : List Order) (os : List Output) → IsSortedBy (is_before order) (in_order order os)
in_order_sorted order os = ordered_sorted (is_before order) (before_ranks order) os
