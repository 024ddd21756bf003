-- Where a condition can be true and where false, at positions of the first parts of an index.
use Rattle.std.specs.Prelude.{ℕ, ◌==◌, Bool, true, false, not, ◌&&◌, ◌||◌, if◌then◌else◌, List, [], ◌∷◌, Option, Some, None, length}
use Rattle.std.specs.List.{list_any, list_all, zip}
use Rattle.std.specs.Str.{chars}
use Rattle.std.specs.Prelude.{nat_le}
use Rattle.rx_value.specs.declared.values.Value.{Value}
use Rattle.rx_value.specs.declared.values.Value.TheVariants.{Null, Text}
use Rattle.rx_value.specs.declared.order.End.{End}
use Rattle.rx_value.specs.declared.shapes.Part.{Part}
use Rattle.rx_value.specs.Order.{is_at_most, below}
use Rattle.rx_value.specs.Keys.{cut_value}
use Rattle.rx_like.specs.Pattern.{literal_prefix, is_plain}
use Rattle.rx_cond.specs.declared.conds.Op.{Op}
use Rattle.rx_cond.specs.declared.conds.Op.TheVariants.{SafeEq}
use Rattle.rx_cond.specs.declared.conds.Operand.TheVariants.{Column, Constant}
use Rattle.rx_cond.specs.declared.conds.Tri.{Tri}
use Rattle.rx_cond.specs.declared.conds.Tri.TheVariants.{T, F}
use Rattle.rx_cond.specs.Test.{is_null_value}
use Rattle.rx_cond.specs.Tree.{Tree, Trees, truth, compare, member, row_member, is_null, like, neg, conj, disj, none, more, truth_at}
use Rattle.rx_regions.specs.Places.{place, is_at, is_at_some, comparison_at, membership_at, cut_true, cut_false, turned, raised}

-- a truth value is the one asked for: true, or false
abbrev pub is_so : Bool → Tri → Bool
is_so true T = true
is_so false F = true
is_so _ _ = false

-- the part of a column and the position on it, where the column is among the parts
abbrev pub spot_of : ℕ → List Part → List End → Option (Part × End)
spot_of column (q ∷ qs) (p ∷ ps) = if q.column == column then Some (q, p) else spot_of column qs ps
spot_of column _ _ = None

-- a test on a column: by its part and position, or always
abbrev pub at_spot : (Option ℕ → End → Bool) → Option (Part × End) → Bool
at_spot test None = true
at_spot test (Some s) = test s.0.chars s.1

-- a comparison of a part with a constant can have this truth
abbrev pub compares : Bool → Op → Value → Option ℕ → End → Bool
compares sign op v None p = is_so sign (comparison_at op p v)
compares sign SafeEq Null (Some n) p = if sign then is_at p Null else not (is_at p Null)
compares sign op Null (Some n) p = false
compares true op v (Some n) p = not (is_at p Null) && cut_true op (place p (cut_value (Some n) v))
compares false SafeEq v (Some n) p = true
compares false op v (Some n) p = not (is_at p Null) && cut_false op (place p (cut_value (Some n) v))

-- IN over a part can have this truth
abbrev pub lists : Bool → List Value → Option ℕ → End → Bool
lists sign list None p = is_so sign (membership_at p list)
lists true list (Some n) p = list_any (λ v. is_at_some p (cut_value (Some n) v)) list
lists false list (Some n) p = not (list_any is_null_value list) && not (is_at p Null)

-- a position from a text's point up to, without, that of the raised text
abbrev pub is_from : List ℕ → End → Bool
is_from prefix p = is_at_most (below (Text prefix)) p && not (is_at_most (below (Text (raised prefix))) p)

-- the prefix has as many characters as the part, or more
abbrev pub fills : Option ℕ → List ℕ → Bool
fills None prefix = false
fills (Some n) prefix = nat_le n (length (chars prefix))

-- LIKE on a part can be true: at the prefix where that is all the part tells, else among the texts that begin with it
abbrev pub begins : List ℕ → Option ℕ → End → Bool
begins pattern n p =
    if is_plain pattern || fills n (literal_prefix pattern) then is_at p (cut_value n (Text (literal_prefix pattern)))
    else elim (literal_prefix pattern) [ [] ↦ true | b ∷ bs ↦ is_from (b ∷ bs) p ]

-- a column's element of a tuple agrees with the position, where its column is among the parts
abbrev pub agrees : List Part → List End → ℕ → Value → Bool
agrees parts ps column v = at_spot (λ n p. is_at_some p (cut_value n v)) (spot_of column parts ps)

abbrev mutual
  -- a condition can be true, or with the other sign false, at positions of these parts
  pub can_be : Bool → Tree → List Part → List End → Bool
  can_be sign (truth t) parts ps = is_so sign t
  can_be sign (compare op (Column c) (Constant v)) parts ps = at_spot (compares sign op v) (spot_of c parts ps)
  can_be sign (compare op (Constant v) (Column c)) parts ps = at_spot (compares sign (turned op) v) (spot_of c parts ps)
  can_be sign (compare op (Constant u) (Constant v)) parts ps = is_so sign (truth_at (compare op (Constant u) (Constant v)) [])
  can_be sign (compare op (Column c) (Column d)) parts ps = true
  can_be sign (member (Column c) list) parts ps = at_spot (lists sign list) (spot_of c parts ps)
  can_be sign (member (Constant v) list) parts ps = is_so sign (truth_at (member (Constant v) list) [])
  can_be true (row_member columns list) parts ps = list_any (λ key. list_all (λ e. agrees parts ps e.0 e.1) (zip columns key)) list
  can_be false (row_member columns list) parts ps = true
  can_be sign (is_null (Column c)) parts ps = at_spot (compares sign SafeEq Null) (spot_of c parts ps)
  can_be sign (is_null (Constant v)) parts ps = is_so sign (truth_at (is_null (Constant v)) [])
  can_be true (like c pattern) parts ps = at_spot (begins pattern) (spot_of c parts ps)
  can_be false (like c pattern) parts ps = true
  can_be true (neg t) parts ps = can_be false t parts ps
  can_be false (neg t) parts ps = can_be true t parts ps
  can_be true (conj items) parts ps = all_can true items parts ps
  can_be false (conj items) parts ps = one_can false items parts ps
  can_be true (disj items) parts ps = one_can true items parts ps
  can_be false (disj items) parts ps = all_can false items parts ps

  -- all of these can have this truth
  pub all_can : Bool → Trees → List Part → List End → Bool
  all_can sign none parts ps = true
  all_can sign (more t ts) parts ps = can_be sign t parts ps && all_can sign ts parts ps

  -- one of these can have this truth
  pub one_can : Bool → Trees → List Part → List End → Bool
  one_can sign none parts ps = false
  one_can sign (more t ts) parts ps = can_be sign t parts ps || one_can sign ts parts ps
