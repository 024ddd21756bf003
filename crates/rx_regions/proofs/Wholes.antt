-- Tests of a whole part at the point of its value have the truth that they have at the row.
use Rattle.std.proofs.Common.{◌≡◌, Bool, true, false, if◌then◌else◌, ◌||◌, List, refl, ap, ap₂, sym, ◌∙◌}
use mathlib.Core.Path.{fun_ext}
use Rattle.std.specs.List.{list_any}
use Rattle.std.specs.declared.cmp.Ordering.{Ordering}
use Rattle.std.specs.declared.cmp.Ordering.TheVariants.{Less, Equal, Greater}
use Rattle.std.specs.Ordering.{ordering_reverse, is_eq}
use Rattle.rx_value.specs.declared.values.Value.{Value}
use Rattle.rx_value.specs.declared.values.Value.TheVariants.{Null, Int, Text}
use Rattle.rx_value.specs.Order.{value_cmp, below}
use Rattle.rx_value.proofs.Ends.{value_cmp_total}
use Rattle.rx_cond.specs.declared.conds.Op.{Op}
use Rattle.rx_cond.specs.declared.conds.Op.TheVariants.{Eq, SafeEq}
use Rattle.rx_cond.specs.declared.conds.Tri.TheVariants.{T, F, N}
use Rattle.rx_cond.specs.Tri.{tri_of, is_true}
use Rattle.rx_cond.specs.Test.{holds, comparison, equals, membership, is_null_value}
use Rattle.rx_regions.specs.Places.{is_at_some, comparison_at, membership_at, turned}
use Rattle.rx_regions.proofs.Points.{place_below, is_at_below, is_at_null}

-- a comparison
pub comparison_there : (op : Op) (w v : Value) → comparison_at op (below w) v ≡ comparison op w v
comparison_there SafeEq w v = ap tri_of (is_at_below w v)
comparison_there op Null v = refl
comparison_there op (Int m) Null = refl
comparison_there op (Text s) Null = refl
comparison_there op (Int m) (Int n) = ap (λ o. tri_of (holds op o)) (place_below (Int m) (Int n))
comparison_there op (Int m) (Text t) = ap (λ o. tri_of (holds op o)) (place_below (Int m) (Text t))
comparison_there op (Text s) (Int n) = ap (λ o. tri_of (holds op o)) (place_below (Text s) (Int n))
comparison_there op (Text s) (Text t) = ap (λ o. tri_of (holds op o)) (place_below (Text s) (Text t))

true_of : (b : Bool) → is_true (tri_of b) ≡ b
true_of true = refl
true_of false = refl

-- an element of a list
pub equals_there : (w v : Value) → is_at_some (below w) v ≡ equals w v
equals_there Null Null = refl
equals_there Null (Int n) = refl
equals_there Null (Text t) = refl
equals_there (Int m) Null = refl
equals_there (Text s) Null = refl
equals_there (Int m) (Int n) = is_at_below (Int m) (Int n) ∙ sym (true_of (is_eq (value_cmp (Int m) (Int n))))
equals_there (Int m) (Text t) = refl
equals_there (Text s) (Int n) = refl
equals_there (Text s) (Text t) = is_at_below (Text s) (Text t) ∙ sym (true_of (is_eq (value_cmp (Text s) (Text t))))

-- IN
pub membership_there : (w : Value) (list : List Value) → membership_at (below w) list ≡ membership w list
membership_there w list =
    ap₂ (λ found none. if found then T else if none || list_any is_null_value list then N else F)
    (ap (λ test. list_any test list) (fun_ext (λ v. equals_there w v))) (is_at_null w)

turned_by : (op : Op) (o : Ordering) → holds op (ordering_reverse o) ≡ holds (turned op) o
turned_by Eq Less = refl
turned_by op Less = refl
turned_by Eq Equal = refl
turned_by op Equal = refl
turned_by Eq Greater = refl
turned_by op Greater = refl

turned_cmp : (op : Op) (v w : Value) → tri_of (holds op (value_cmp v w)) ≡ tri_of (holds (turned op) (value_cmp w v))
turned_cmp op v w = ap (λ o. tri_of (holds op o)) (value_cmp_total.antisymm v w) ∙ ap tri_of (turned_by op (value_cmp w v))

-- a comparison with its sides exchanged
pub turned_there : (op : Op) (v w : Value) → comparison op v w ≡ comparison (turned op) w v
turned_there SafeEq v w = turned_cmp SafeEq v w
turned_there op Null Null = refl
turned_there op Null (Int n) = refl
turned_there op Null (Text t) = refl
turned_there op (Int m) Null = refl
turned_there op (Text s) Null = refl
turned_there op (Int m) (Int n) = turned_cmp op (Int m) (Int n)
turned_there op (Int m) (Text t) = turned_cmp op (Int m) (Text t)
turned_there op (Text s) (Int n) = turned_cmp op (Text s) (Int n)
turned_there op (Text s) (Text t) = turned_cmp op (Text s) (Text t)
