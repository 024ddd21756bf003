-- A signed condition is among those under it.
use Rattle.std.proofs.Common.{◌≡◌, ℕ, zero, suc, Bool, refl, ap, subst}
use Rattle.rx_cond.specs.Tree.{Tree, Trees, truth, compare, member, row_member, is_null, like, neg, conj, disj, none, more}
use Rattle.rx_ranges.specs.Subterms.{front, HoldsUnder}

-- a front that is the whole list
record IsAll (items : Trees) : Type 0 where
  pub many : ℕ
  pub is : front many items ≡ items

all_front : (items : Trees) → IsAll items
all_front none = record { many = zero; is = refl }
all_front (more t ts) = let a = all_front ts in record { many = suc a.many; is = ap (more t) a.is }

-- what holds of a signed condition and all under it holds of itself
pub under_itself : (P : Bool → Tree → Type 0) (sign : Bool) (t : Tree) → HoldsUnder P sign t → P sign t
under_itself P sign (truth t) h = h
under_itself P sign (compare op left right) h = h
under_itself P sign (member left list) h = h
under_itself P sign (row_member columns list) h = h
under_itself P sign (is_null operand) h = h
under_itself P sign (like column pattern) h = h
under_itself P sign (neg t) h = h.0
under_itself P sign (conj items) h = let a = all_front items in subst (λ (xs : Trees). P sign (conj xs)) a.is (h.0 a.many)
under_itself P sign (disj items) h = let a = all_front items in subst (λ (xs : Trees). P sign (disj xs)) a.is (h.0 a.many)
