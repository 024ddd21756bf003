-- Single tests over values that may be NULL.
use Rattle.std.specs.Prelude.{ℕ, Bool, true, false, ◌||◌, if◌then◌else◌, List, map}
use Rattle.std.specs.List.{list_any, zip}
use Rattle.std.specs.declared.cmp.Ordering.{Ordering}
use Rattle.std.specs.Ordering.{is_eq, is_lt, is_le, is_gt, is_ge, is_ne}
use Rattle.rx_value.specs.declared.values.Value.{Value}
use Rattle.rx_value.specs.declared.values.Value.TheVariants.{Null, Int, Text}
use Rattle.rx_value.specs.Order.{value_cmp}
pub use Rattle.rx_value.specs.Keys.{column_value}
use Rattle.rx_like.specs.Walk.{is_like}
use Rattle.rx_cond.specs.declared.conds.Tri.{Tri}
use Rattle.rx_cond.specs.declared.conds.Tri.TheVariants.{T, F, N}
use Rattle.rx_cond.specs.declared.conds.Op.{Op}
use Rattle.rx_cond.specs.declared.conds.Op.TheVariants.{Eq, SafeEq, Lt, Le, Gt, Ge, Ne}
use Rattle.rx_cond.specs.Tri.{tri_of, is_true, all_of, any_of}

abbrev pub is_null_value : Value → Bool
is_null_value Null = true
is_null_value _ = false

-- values in this order meet the comparison
abbrev pub holds : Op → Ordering → Bool
holds Eq order = is_eq order
holds SafeEq order = is_eq order
holds Lt order = is_lt order
holds Le order = is_le order
holds Gt order = is_gt order
holds Ge order = is_ge order
holds Ne order = is_ne order

-- A comparison of values that may be NULL: unknown where a side is NULL. `<=>` is never unknown, and there NULL equals NULL alone.
abbrev pub comparison : Op → Value → Value → Tri
comparison SafeEq left right = tri_of (is_eq (value_cmp left right))
comparison op Null right = N
comparison op left Null = N
comparison op left right = tri_of (holds op (value_cmp left right))

-- whether the value equals the element, neither of them NULL
abbrev pub equals : Value → Value → Bool
equals value element = is_true (comparison Eq value element)

-- IN is true where an element equals the value, else unknown where the value or an element is NULL, else false.
abbrev pub membership : Value → List Value → Tri
membership value list = if list_any (equals value) list then T else if is_null_value value || list_any is_null_value list then N else F

-- the columns' values equal those of the key, place by place
abbrev pub row_equality : List ℕ → List Value → List Value → Tri
row_equality columns key row = all_of (map (λ p. comparison Eq (column_value p.0 row) p.1) (zip columns key))

-- IN over rows is the OR of their equalities.
abbrev pub row_membership : List ℕ → List (List Value) → List Value → Tri
row_membership columns list row = any_of (map (λ key. row_equality columns key row) list)

-- LIKE is unknown at NULL, and no integer is like a pattern.
abbrev pub likeness : List ℕ → Value → Tri
likeness pattern Null = N
likeness pattern (Int n) = F
likeness pattern (Text text) = tri_of (is_like pattern text)
