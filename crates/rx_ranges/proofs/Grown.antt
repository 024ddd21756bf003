-- Where a condition can be true, and where false, has a tree.
use Rattle.std.proofs.Common.{◌≡◌, ◌==◌, ◌&&◌, ◌||◌, arith, ℕ, Bool, true, false, not, if◌then◌else◌, List, [], ◌∷◌, length, zip, Option, Some, None, refl, ap, sym}
use Rattle.std.specs.List.{list_any, list_all}
use Rattle.std.specs.Ordering.{is_eq}
use Rattle.rx_value.specs.declared.values.Value.{Value}
use Rattle.rx_value.specs.declared.values.Value.TheVariants.{Null, Int, Text}
use Rattle.rx_value.specs.declared.order.End.{End}
use Rattle.rx_value.specs.declared.shapes.Part.{Part}
use Rattle.rx_value.specs.Order.{is_at_most, below}
use Rattle.rx_value.specs.Keys.{cut_value}
use Rattle.rx_like.specs.Pattern.{literal_prefix, is_plain}
use Rattle.rx_cond.specs.declared.conds.Op.{Op}
use Rattle.rx_cond.specs.declared.conds.Op.TheVariants.{SafeEq}
use Rattle.rx_cond.specs.declared.conds.Operand.TheVariants.{Column, Constant}
use Rattle.rx_cond.specs.declared.conds.Tri.TheVariants.{T, F, N}
use Rattle.rx_cond.specs.Tri.{tri_of}
use Rattle.rx_cond.specs.Test.{holds, is_null_value}
use Rattle.rx_cond.specs.Tree.{Tree, Trees, truth, compare, member, row_member, is_null, like, neg, conj, disj, none, more, truth_at}
use Rattle.rx_sets.specs.Sets.{AreSame}
use Rattle.rx_regions.specs.Places.{is_at, is_at_some, cut_true, cut_false, turned, raised}
use Rattle.rx_regions.specs.Cans.{is_so, spot_of, at_spot, compares, lists, is_from, fills, begins, agrees, can_be, all_can, one_can}
use Rattle.rx_ranges.proofs.Splits.{Splits, splits_same, splits_known, splits_both, splits_either, behind_first, splits_behind}
use Rattle.rx_ranges.proofs.Told.{Tells, at_first, tells_known, tells_by, tells_end, tells_order, tells_orders, tells_if, tells_any}

module _ (n : Bool) (ns : List Bool) where
  -- a comparison of a part with a constant
  compares_tell : (sign : Bool) (op : Op) (v : Value) (k : Option ℕ) → Tells n ns (compares sign op v k)
  compares_tell sign SafeEq v None = tells_order n ns v (λ o. is_so sign (tri_of (is_eq o)))
  compares_tell sign op v None = tells_orders n ns Null v (λ o x. is_so sign (if is_eq o || is_null_value v then N else tri_of (holds op x)))
  compares_tell true SafeEq Null (Some k) = tells_order n ns Null is_eq
  compares_tell false SafeEq Null (Some k) = tells_order n ns Null (λ o. not (is_eq o))
  compares_tell sign op Null (Some k) = tells_known n ns false
  compares_tell true SafeEq (Int m) (Some k) = tells_orders n ns Null (Int m) (λ o x. not (is_eq o) && cut_true SafeEq x)
  compares_tell true SafeEq (Text t) (Some k) = tells_orders n ns Null (cut_value (Some k) (Text t)) (λ o x. not (is_eq o) && cut_true SafeEq x)
  compares_tell true op (Int m) (Some k) = tells_orders n ns Null (Int m) (λ o x. not (is_eq o) && cut_true op x)
  compares_tell true op (Text t) (Some k) = tells_orders n ns Null (cut_value (Some k) (Text t)) (λ o x. not (is_eq o) && cut_true op x)
  compares_tell false SafeEq (Int m) (Some k) = tells_known n ns true
  compares_tell false SafeEq (Text t) (Some k) = tells_known n ns true
  compares_tell false op (Int m) (Some k) = tells_orders n ns Null (Int m) (λ o x. not (is_eq o) && cut_false op x)
  compares_tell false op (Text t) (Some k) = tells_orders n ns Null (cut_value (Some k) (Text t)) (λ o x. not (is_eq o) && cut_false op x)

  -- an element of a list
  element_tells : (k : Option ℕ) (v : Value) → Tells n ns (λ p. is_at_some p (cut_value k v))
  element_tells k v = tells_order n ns (cut_value k v) (λ o. not (is_null_value (cut_value k v)) && is_eq o)

  any_tells : (k : Option ℕ) (list : List Value) → Tells n ns (λ p. list_any (λ v. is_at_some p (cut_value k v)) list)
  any_tells k list = tells_any n ns (λ v p. is_at_some p (cut_value k v)) (element_tells k) list

  -- IN
  lists_tell : (sign : Bool) (list : List Value) (k : Option ℕ) → Tells n ns (lists sign list k)
  lists_tell sign list None =
      tells_by n ns (λ p. list_any (is_at_some p) list) (λ b p. is_so sign (if b then T else if is_at p Null || list_any is_null_value list then N else F))
      (any_tells None list)
      (λ b. tells_order n ns Null (λ o. is_so sign (if b then T else if is_eq o || list_any is_null_value list then N else F)))
  lists_tell true list (Some k) = any_tells (Some k) list
  lists_tell false list (Some k) = tells_order n ns Null (λ o. not (list_any is_null_value list) && not (is_eq o))

  from_tells : (prefix : List ℕ) → Tells n ns (is_from prefix)
  from_tells prefix =
      tells_by n ns (is_at_most (below (Text prefix))) (λ b p. b && not (is_at_most (below (Text (raised prefix))) p)) (tells_end n ns (below (Text prefix)) refl)
      (λ b. tells_by n ns (is_at_most (below (Text (raised prefix)))) (λ c p. b && not c) (tells_end n ns (below (Text (raised prefix))) refl) (λ c. tells_known n ns (b && not c)))

  open_tells : (prefix : List ℕ) → Tells n ns (λ p. elim prefix [ [] ↦ true | b ∷ bs ↦ is_from (b ∷ bs) p ])
  open_tells [] = tells_known n ns true
  open_tells (b ∷ bs) = from_tells (b ∷ bs)

  -- LIKE
  begins_tell : (pattern : List ℕ) (k : Option ℕ) → Tells n ns (begins pattern k)
  begins_tell pattern k =
      tells_if n ns (is_plain pattern || fills k (literal_prefix pattern))
      (λ p. is_at p (cut_value k (Text (literal_prefix pattern))))
      (λ p. elim (literal_prefix pattern) [ [] ↦ true | b ∷ bs ↦ is_from (b ∷ bs) p ])
      (tells_order n ns (cut_value k (Text (literal_prefix pattern))) is_eq) (open_tells (literal_prefix pattern))

-- a test of a column, by its part where it is there
module _ (test : Option ℕ → End → Bool) (c : ℕ) (each : (n : Bool) (ns : List Bool) (k : Option ℕ) → Tells n ns (test k)) where
  here : (q : Part) (parts : List Part) (n : Bool) (ns : List Bool) → q.column == c ≡ true → AreSame (n ∷ ns) (at_first (test q.chars)) (λ ps. at_spot test (spot_of c (q ∷ parts) ps))
  here q parts n ns e [] tuple = absurd tuple
  here q parts n ns e (p ∷ ps) tuple = sym (ap (λ b. at_spot test (if b then Some (q, p) else spot_of c parts ps)) e)

  away : (q : Part) (parts : List Part) (n : Bool) (ns : List Bool) → q.column == c ≡ false
      → AreSame (n ∷ ns) (behind_first (λ ps. at_spot test (spot_of c parts ps))) (λ ps. at_spot test (spot_of c (q ∷ parts) ps))
  away q parts n ns e [] tuple = absurd tuple
  away q parts n ns e (p ∷ ps) tuple = sym (ap (λ b. at_spot test (if b then Some (q, p) else spot_of c parts ps)) e)

  spot_by : (q : Part) (parts : List Part) (n : Bool) (ns : List Bool) (b : Bool) → q.column == c ≡ b → Splits ns (λ ps. at_spot test (spot_of c parts ps))
      → Splits (n ∷ ns) (λ ps. at_spot test (spot_of c (q ∷ parts) ps))
  spot_by q parts n ns true e later =
      splits_same (n ∷ ns) (at_first (test q.chars)) (λ ps. at_spot test (spot_of c (q ∷ parts) ps)) (here q parts n ns e) (each n ns q.chars)
  spot_by q parts n ns false e later =
      splits_same (n ∷ ns) (behind_first (λ ps. at_spot test (spot_of c parts ps))) (λ ps. at_spot test (spot_of c (q ∷ parts) ps)) (away q parts n ns e)
      (splits_behind n ns (λ ps. at_spot test (spot_of c parts ps)) later)

  spot_splits : (parts : List Part) (ns : List Bool) → length ns ≡ length parts → Splits ns (λ ps. at_spot test (spot_of c parts ps))
  spot_splits [] ns same = splits_known ns true
  spot_splits (q ∷ parts) [] same = absurd (omega (arith, same))
  spot_splits (q ∷ parts) (n ∷ ns) same = spot_by q parts n ns (q.column == c) refl (spot_splits parts ns (omega (arith, same)))

module _ (parts : List Part) (ns : List Bool) (same : length ns ≡ length parts) where
  -- row IN
  agree_splits : (pairs : List (ℕ × Value)) → Splits ns (λ ps. list_all (λ e. agrees parts ps e.0 e.1) pairs)
  agree_splits [] = splits_known ns true
  agree_splits ((c, v) ∷ pairs) =
      splits_both ns (λ ps. agrees parts ps c v) (λ ps. list_all (λ e. agrees parts ps e.0 e.1) pairs)
      (spot_splits (λ k p. is_at_some p (cut_value k v)) c (λ n more k. element_tells n more k v) parts ns same) (agree_splits pairs)

  rows_split : (columns : List ℕ) (list : List (List Value)) → Splits ns (λ ps. list_any (λ key. list_all (λ e. agrees parts ps e.0 e.1) (zip columns key)) list)
  rows_split columns [] = splits_known ns false
  rows_split columns (key ∷ list) =
      splits_either ns (λ ps. list_all (λ e. agrees parts ps e.0 e.1) (zip columns key)) (λ ps. list_any (λ k. list_all (λ e. agrees parts ps e.0 e.1) (zip columns k)) list)
      (agree_splits (zip columns key)) (rows_split columns list)

  -- a test of one column
  test_splits : (test : Option ℕ → End → Bool) (c : ℕ) → ((n : Bool) (more : List Bool) (k : Option ℕ) → Tells n more (test k)) → Splits ns (λ ps. at_spot test (spot_of c parts ps))
  test_splits test c each = spot_splits test c each parts ns same

  mutual
    pub can_split : (sign : Bool) (t : Tree) → Splits ns (can_be sign t parts)
    can_split sign (truth t) = splits_known ns (is_so sign t)
    can_split sign (compare op (Column c) (Constant v)) = test_splits (compares sign op v) c (λ n more k. compares_tell n more sign op v k)
    can_split sign (compare op (Constant v) (Column c)) = test_splits (compares sign (turned op) v) c (λ n more k. compares_tell n more sign (turned op) v k)
    can_split sign (compare op (Constant u) (Constant v)) = splits_known ns (is_so sign (truth_at (compare op (Constant u) (Constant v)) []))
    can_split sign (compare op (Column c) (Column d)) = splits_known ns true
    can_split sign (member (Column c) list) = test_splits (lists sign list) c (λ n more k. lists_tell n more sign list k)
    can_split sign (member (Constant v) list) = splits_known ns (is_so sign (truth_at (member (Constant v) list) []))
    can_split true (row_member columns list) = rows_split columns list
    can_split false (row_member columns list) = splits_known ns true
    can_split sign (is_null (Column c)) = test_splits (compares sign SafeEq Null) c (λ n more k. compares_tell n more sign SafeEq Null k)
    can_split sign (is_null (Constant v)) = splits_known ns (is_so sign (truth_at (is_null (Constant v)) []))
    can_split true (like c pattern) = test_splits (begins pattern) c (λ n more k. begins_tell n more pattern k)
    can_split false (like c pattern) = splits_known ns true
    can_split true (neg t) = can_split false t
    can_split false (neg t) = can_split true t
    can_split true (conj items) = all_split true items
    can_split false (conj items) = one_split false items
    can_split true (disj items) = one_split true items
    can_split false (disj items) = all_split false items

    all_split : (sign : Bool) (items : Trees) → Splits ns (all_can sign items parts)
    all_split sign none = splits_known ns true
    all_split sign (more t ts) = splits_both ns (can_be sign t parts) (all_can sign ts parts) (can_split sign t) (all_split sign ts)

    one_split : (sign : Bool) (items : Trees) → Splits ns (one_can sign items parts)
    one_split sign none = splits_known ns false
    one_split sign (more t ts) = splits_either ns (can_be sign t parts) (one_can sign ts parts) (can_split sign t) (one_split sign ts)
