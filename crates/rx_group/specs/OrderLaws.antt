-- The order of lists of values is total.
use Rattle.std.proofs.Common.{◌≡◌, true, false, refl, ap, sym, true≢false}
use Rattle.std.specs.Prelude.{Some}
use Rattle.std.specs.declared.cmp.Ordering.TheVariants.{Less}
use Rattle.std.specs.Ordering.{ordering_reverse, is_lt}
use Rattle.std.specs.Cmp.{IsTotalOrder, IsEquivalence, IsPartialOrder, partial_equiv_from_equiv, IsPartialEquivalence}
use Rattle.std.specs.Cmp as laws
use Rattle.std.proofs.lemmas.Cmp.{nat_list_cmp_total, int_cmp_total, lists_total, eq_by_cmp_equiv}
use Rattle.rx_value.specs.declared.values.Value.{Value}
use Rattle.rx_value.specs.declared.values.Value.TheVariants.{Null, Int, Text}
use Rattle.rx_value.specs.Order.{value_cmp}
use Rattle.rx_value.proofs.Equal.{value_cmp-equal}
use Rattle.rx_group.specs.Classes.{values_cmp, same_values}

antisymmetric : (x y : Value) → value_cmp x y ≡ ordering_reverse (value_cmp y x)
antisymmetric Null Null = refl
antisymmetric Null (Int n) = refl
antisymmetric Null (Text t) = refl
antisymmetric (Int m) Null = refl
antisymmetric (Int m) (Int n) = int_cmp_total.antisymm m n
antisymmetric (Int m) (Text t) = refl
antisymmetric (Text s) Null = refl
antisymmetric (Text s) (Int n) = refl
antisymmetric (Text s) (Text t) = nat_list_cmp_total.antisymm s t

-- true isn't false
no : {A : Type 0} → false ≡ true → A
no e = absurd (true≢false (sym e))

transitive : (x y z : Value) → value_cmp x y ≡ Less → value_cmp y z ≡ Less → value_cmp x z ≡ Less
transitive Null Null z p q = no (ap is_lt p)
transitive Null (Int n) Null p q = no (ap is_lt q)
transitive Null (Int n) (Int k) p q = refl
transitive Null (Int n) (Text u) p q = refl
transitive Null (Text t) Null p q = no (ap is_lt q)
transitive Null (Text t) (Int k) p q = refl
transitive Null (Text t) (Text u) p q = refl
transitive (Int m) Null z p q = no (ap is_lt p)
transitive (Int m) (Int n) Null p q = no (ap is_lt q)
transitive (Int m) (Int n) (Int k) p q = int_cmp_total.trans m n k p q
transitive (Int m) (Int n) (Text u) p q = refl
transitive (Int m) (Text t) Null p q = no (ap is_lt q)
transitive (Int m) (Text t) (Int k) p q = no (ap is_lt q)
transitive (Int m) (Text t) (Text u) p q = refl
transitive (Text s) Null z p q = no (ap is_lt p)
transitive (Text s) (Int n) z p q = no (ap is_lt p)
transitive (Text s) (Text t) Null p q = no (ap is_lt q)
transitive (Text s) (Text t) (Int k) p q = no (ap is_lt q)
transitive (Text s) (Text t) (Text u) p q = nat_list_cmp_total.trans s t u p q

pub value_cmp_total : IsTotalOrder value_cmp
value_cmp_total = record {
  antisymm = antisymmetric;
  trans = transitive;
  congr = λ x y z e. ap (λ (v : Value). value_cmp v z) (value_cmp-equal x y e);
}

pub values_total : IsTotalOrder values_cmp
values_total = lists_total value_cmp_total

pub values_equiv : IsEquivalence same_values
values_equiv = eq_by_cmp_equiv values_total

pub values_per : IsPartialEquivalence same_values
values_per = partial_equiv_from_equiv values_equiv

pub values_po : IsPartialOrder same_values (λ x y. Some (values_cmp x y))
values_po = laws.po values_total (λ x y. refl)
