-- Positions of a part against the constants of a condition. A region is the positions between two neighbouring cuts, so it is known by any position in it.
use Rattle.std.specs.Prelude.{ℕ, ◌+◌, Bool, true, not, ◌&&◌, ◌||◌, if◌then◌else◌, List, [], ◌∷◌}
use Rattle.std.specs.List.{list_any}
use Rattle.std.specs.declared.cmp.Ordering.{Ordering}
use Rattle.std.specs.declared.cmp.Ordering.TheVariants.{Less, Equal, Greater}
use Rattle.std.specs.Ordering.{is_eq, is_le, is_ge}
use Rattle.rx_value.specs.declared.values.Value.{Value}
use Rattle.rx_value.specs.declared.values.Value.TheVariants.{Null}
use Rattle.rx_value.specs.declared.order.End.{End}
use Rattle.rx_value.specs.Order.{is_at_most, below, above}
use Rattle.rx_cond.specs.declared.conds.Tri.{Tri}
use Rattle.rx_cond.specs.declared.conds.Tri.TheVariants.{T, F, N}
use Rattle.rx_cond.specs.declared.conds.Op.{Op}
use Rattle.rx_cond.specs.declared.conds.Op.TheVariants.{Eq, SafeEq, Lt, Le, Gt, Ge, Ne}
use Rattle.rx_cond.specs.Tri.{tri_of}
use Rattle.rx_cond.specs.Test.{holds, is_null_value}

-- how a position stands to a value: before its point, at it, or behind it
abbrev pub place : End → Value → Ordering
place p v = if is_at_most (above v) p then Greater else if is_at_most (below v) p then Equal else Less

-- the position is at the value's point
abbrev pub is_at : End → Value → Bool
is_at p v = is_eq (place p v)

-- the position is at the point of a value that isn't NULL
abbrev pub is_at_some : End → Value → Bool
is_at_some p v = not (is_null_value v) && is_at p v

-- the truth of a comparison of a whole part with a constant, at a position
abbrev pub comparison_at : Op → End → Value → Tri
comparison_at SafeEq p v = tri_of (is_at p v)
comparison_at op p v = if is_at p Null || is_null_value v then N else tri_of (holds op (place p v))

-- the truth of IN over a whole part, at a position
abbrev pub membership_at : End → List Value → Tri
membership_at p list = if list_any (is_at_some p) list then T else if is_at p Null || list_any is_null_value list then N else F

-- Where values were cut, one at the cut constant may have been less or greater: both sides keep that point.
abbrev pub cut_true : Op → Ordering → Bool
cut_true Eq order = is_eq order
cut_true SafeEq order = is_eq order
cut_true Ne order = true
cut_true Lt order = is_le order
cut_true Le order = is_le order
cut_true Gt order = is_ge order
cut_true Ge order = is_ge order

-- the same for false
abbrev pub cut_false : Op → Ordering → Bool
cut_false Eq order = true
cut_false SafeEq order = true
cut_false Ne order = is_eq order
cut_false Lt order = is_ge order
cut_false Le order = is_ge order
cut_false Gt order = is_le order
cut_false Ge order = is_le order

-- the comparison with its sides exchanged
abbrev pub turned : Op → Op
turned Eq = Eq
turned SafeEq = SafeEq
turned Ne = Ne
turned Lt = Gt
turned Le = Ge
turned Gt = Lt
turned Ge = Le

-- bytes with the last one raised by one
abbrev pub raised : List ℕ → List ℕ
raised [] = []
raised (b ∷ []) = (b + 1) ∷ []
raised (b ∷ c ∷ bs) = b ∷ raised (c ∷ bs)
