-- What a map has of a list after a look-up, or after a new list was put into it.
use Rattle.std.proofs.Common.{◌≡◌, ℕ, Bool, true, false, cond, List, Some, None, unwrap_or, refl, sym, ap, ◌∙◌}
use Rattle.std.specs.Ordering.{is_eq}
use Rattle.std.specs.Map.{lookup}
use Rattle.std.specs.BTreeMap.{BTreeMap, get, Updates}
use Rattle.std.specs.Cmp.{Equal-is}
use Rattle.rx_value.specs.declared.values.Value.{Value}
use Rattle.rx_group.specs.Classes.{values_cmp, same_values}
use Rattle.rx_group.specs.Numbers.{Notes}
use Rattle.rx_group.specs.OrderLaws.{values_total}

get_alike : (m : BTreeMap (List Value) ℕ) (a b : List Value) → same_values a b ≡ true → get values_cmp m a ≡ get values_cmp m b
get_alike m a b e = ap (λ test. lookup test m.entries) (λ i k. ap is_eq (values_total.congr a b k ((Equal-is (values_cmp a b)).0 e)) i)

pub known : (m : BTreeMap (List Value) ℕ) (key : List Value) (next number : ℕ) → Some number ≡ get values_cmp m key → Notes m m key next number
known m key next number is = record {
  number_is = ap (λ o. unwrap_or o next) is;
  noted = λ q. by_test q (same_values key q) refl;
}
  where
    by_test : (q : List Value) (b : Bool) → same_values key q ≡ b → get values_cmp m q ≡ cond b (Some number) (get values_cmp m q)
    by_test q true e = sym (is ∙ get_alike m key q e)
    by_test q false e = refl

pub fresh : (old new : BTreeMap (List Value) ℕ) (key : List Value) (next : ℕ) → None ≡ get values_cmp old key → Updates values_cmp old new key (Some next) → Notes old new key next next
fresh old new key next none updates = record {
  number_is = ap (λ o. unwrap_or o next) none;
  noted = λ q. updates.0 q;
}
