-- A list's truth is the fold of its items' truths.
use Rattle.std.specs.Prelude.{◌≡◌, ℕ, List, [], ◌∷◌, false, refl}
use Rattle.std.specs.List.{list_any}
use Rattle.std.proofs.Common.{arith}
use Rattle.rx_value.specs.declared.values.Value.{Value}
use Rattle.rx_value.specs.declared.values.Value.TheVariants.{Null}
use Rattle.rx_cond.specs.Test.{equals, membership, row_equality}
use Rattle.rx_cond.specs.declared.conds.Tri.{Tri}
use Rattle.rx_cond.specs.declared.conds.Tri.TheVariants.{T, N}
use Rattle.rx_cond.specs.Tri.{three_and, three_or, all_of, any_of}

pub all_of-cons : (t : Tri) (ts : List Tri) → three_and t (all_of ts) ≡ all_of (t ∷ ts)
all_of-cons t ts = grind arith

pub any_of-cons : (t : Tri) (ts : List Tri) → three_or t (any_of ts) ≡ any_of (t ∷ ts)
any_of-cons t ts = grind arith

-- no element equals NULL
pub nothing_equals_null : (list : List Value) → list_any (equals Null) list ≡ false
nothing_equals_null [] = refl
nothing_equals_null (v ∷ vs) = nothing_equals_null vs

-- IN of NULL is unknown
pub membership_of_null : (value : Value) (list : List Value) → value ≡ Null → membership value list ≡ N
membership_of_null value list e = rw e (rw (nothing_equals_null list) refl)

-- a key without values equals anything
pub equality_with_no_key : (columns : List ℕ) (key row : List Value) → key ≡ [] → row_equality columns key row ≡ T
equality_with_no_key [] key row e = refl
equality_with_no_key (column ∷ columns) key row e = rw e refl
