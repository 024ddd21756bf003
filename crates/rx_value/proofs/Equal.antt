-- The order of values answers Equal at equal values alone.
use Rattle.std.proofs.Common.{◌≡◌, ℤ, ◌<ℤ◌, refl, ap, sym}
use Rattle.std.specs.declared.cmp.Ordering.{Ordering}
use Rattle.std.specs.declared.cmp.Ordering.TheVariants.{Less, Equal, Greater}
use Rattle.std.specs.Ordering.{int_cmp, nat_cmp, MatchOrdering, ordering_reverse}
use Rattle.std.specs.Cmp.{int_ranks, int_cmp_is}
use Rattle.std.specs.Cmp.Lexicographic.{slice_cmp}
use Rattle.std.proofs.lemmas.Map.Lookups.{exact_bytes}
use Rattle.std.proofs.lemmas.Cmp.{nat_list_cmp_total}
use Rattle.rx_value.specs.declared.values.Value.{Value}
use Rattle.rx_value.specs.declared.values.Value.TheVariants.{Null, Int, Text}
use Rattle.rx_value.specs.Order.{value_cmp}

same_int : (m n : ℤ) (o : Ordering) → MatchOrdering o (m <ℤ n) (m ≡ n) (n <ℤ m) → o ≡ Equal → m ≡ n
same_int m n Less h e = absurd (cc e)
same_int m n Equal h e = h
same_int m n Greater h e = absurd (cc e)

pub value_cmp-equal : (u v : Value) → value_cmp u v ≡ Equal → u ≡ v
value_cmp-equal Null Null e = refl
value_cmp-equal Null (Int n) e = absurd (cc e)
value_cmp-equal Null (Text t) e = absurd (cc e)
value_cmp-equal (Int m) Null e = absurd (cc e)
value_cmp-equal (Int m) (Int n) e = ap Int (same_int m n (int_cmp m n) (int_ranks m n) e)
value_cmp-equal (Int m) (Text t) e = absurd (cc e)
value_cmp-equal (Text s) Null e = absurd (cc e)
value_cmp-equal (Text s) (Int n) e = absurd (cc e)
value_cmp-equal (Text s) (Text t) e = ap Text (exact_bytes s t e)

unmoved : (o : Ordering) → o ≡ ordering_reverse o → o ≡ Equal
unmoved Less e = absurd (cc e)
unmoved Equal e = refl
unmoved Greater e = absurd (cc e)

pub value_cmp-same : (v : Value) → value_cmp v v ≡ Equal
value_cmp-same Null = refl
value_cmp-same (Int n) = sym (int_cmp_is n n Equal refl)
value_cmp-same (Text t) = unmoved (slice_cmp nat_cmp t t) (nat_list_cmp_total.antisymm t t)
