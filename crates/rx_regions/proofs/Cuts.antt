-- Tests of a part that is cut can have at the point of the cut value the truth that they have at the row.
use Rattle.std.proofs.Common.{◌≡◌, ℕ, Bool, true, false, not, ◌||◌, if◌then◌else◌, List, [], ◌∷◌, Option, Some, None, refl, ap, sym, ◌∙◌, subst}
use Rattle.std.specs.Prelude.{encode_utf8_all}
use Rattle.std.specs.Fmt.{take_chars}
use Rattle.std.specs.Str.{IsUtf8}
use Rattle.std.specs.List.{list_any}
use Rattle.std.specs.declared.cmp.Ordering.{Ordering}
use Rattle.std.specs.declared.cmp.Ordering.TheVariants.{Less, Equal, Greater}
use Rattle.std.specs.Ordering.{int_cmp, is_eq}
use Rattle.rx_value.specs.declared.values.Value.{Value}
use Rattle.rx_value.specs.declared.values.Value.TheVariants.{Null, Int, Text}
use Rattle.rx_value.specs.Order.{value_cmp, below}
use Rattle.rx_value.specs.Keys.{cut_value}
use Rattle.rx_value.proofs.Equal.{value_cmp-equal}
use Rattle.rx_cond.specs.declared.conds.Op.{Op}
use Rattle.rx_cond.specs.declared.conds.Op.TheVariants.{Eq, SafeEq}
use Rattle.rx_cond.specs.declared.conds.Tri.TheVariants.{T, F, N}
use Rattle.rx_cond.specs.Tri.{tri_of, is_true}
use Rattle.rx_cond.specs.Test.{holds, comparison, equals, membership, is_null_value}
use Rattle.rx_regions.specs.Places.{place, is_at, is_at_some, cut_true, cut_false}
use Rattle.rx_regions.specs.Cans.{is_so, compares, lists}
use Rattle.rx_regions.specs.Texts.{IsUtf8Value}
use Rattle.rx_regions.proofs.Points.{place_below, is_at_same, is_at_null}
use Rattle.rx_regions.proofs.Wholes.{comparison_there, membership_there}
use Rattle.rx_regions.proofs.Utf8.{keeps, keeps_same, Kept, texts_kept}

texts_cut : (n : ℕ) (s t : List ℕ) → IsUtf8 s → IsUtf8 t → Kept n s t
texts_cut n s t (cs, (fit, is)) (ds, (fits, it)) =
    subst (λ x. Kept n x t) is (subst (λ y. Kept n (encode_utf8_all cs) y) it (texts_kept n cs ds))

-- the order of values is kept where both are cut
cut_kept : (n : ℕ) (w v : Value) → IsUtf8Value w → IsUtf8Value v → keeps (value_cmp w v) (value_cmp (cut_value (Some n) w) (cut_value (Some n) v)) ≡ true
cut_kept n Null Null f g = refl
cut_kept n Null (Int k) f g = refl
cut_kept n Null (Text t) f g = refl
cut_kept n (Int m) Null f g = refl
cut_kept n (Int m) (Int k) f g = keeps_same (int_cmp m k)
cut_kept n (Int m) (Text t) f g = refl
cut_kept n (Text s) Null f g = refl
cut_kept n (Text s) (Int k) f g = refl
cut_kept n (Text s) (Text t) f g = texts_cut n s t f g

true_table : (op : Op) (o p : Ordering) → (not (keeps o p) || (not (is_so true (tri_of (holds op o))) || cut_true op p)) ≡ true
true_table Eq Less Less = refl
true_table op Less Less = refl
true_table Eq Less Equal = refl
true_table op Less Equal = refl
true_table Eq Less Greater = refl
true_table op Less Greater = refl
true_table Eq Equal Less = refl
true_table op Equal Less = refl
true_table Eq Equal Equal = refl
true_table op Equal Equal = refl
true_table Eq Equal Greater = refl
true_table op Equal Greater = refl
true_table Eq Greater Less = refl
true_table op Greater Less = refl
true_table Eq Greater Equal = refl
true_table op Greater Equal = refl
true_table Eq Greater Greater = refl
true_table op Greater Greater = refl

false_table : (op : Op) (o p : Ordering) → (not (keeps o p) || (not (is_so false (tri_of (holds op o))) || cut_false op p)) ≡ true
false_table Eq Less Less = refl
false_table op Less Less = refl
false_table Eq Less Equal = refl
false_table op Less Equal = refl
false_table Eq Less Greater = refl
false_table op Less Greater = refl
false_table Eq Equal Less = refl
false_table op Equal Less = refl
false_table Eq Equal Equal = refl
false_table op Equal Equal = refl
false_table Eq Equal Greater = refl
false_table op Equal Greater = refl
false_table Eq Greater Less = refl
false_table op Greater Less = refl
false_table Eq Greater Equal = refl
false_table op Greater Equal = refl
false_table Eq Greater Greater = refl
false_table op Greater Greater = refl

follows : (a b c : Bool) → (not a || (not b || c)) ≡ true → a ≡ true → b ≡ true → c ≡ true
follows true true c h e f = h
follows true false c h e f = absurd (cc f)
follows false b c h e f = absurd (cc e)

-- what the point of a cut value has to answer, by what the row has answered
module _ (op : Op) (n : ℕ) (w v : Value) (f : IsUtf8Value w) (g : IsUtf8Value v) where
  there_true : is_so true (tri_of (holds op (value_cmp w v))) ≡ true → cut_true op (place (below (cut_value (Some n) w)) (cut_value (Some n) v)) ≡ true
  there_true h =
      ap (cut_true op) (place_below (cut_value (Some n) w) (cut_value (Some n) v))
      ∙ follows _ _ _ (true_table op (value_cmp w v) (value_cmp (cut_value (Some n) w) (cut_value (Some n) v))) (cut_kept n w v f g) h

  there_false : is_so false (tri_of (holds op (value_cmp w v))) ≡ true → cut_false op (place (below (cut_value (Some n) w)) (cut_value (Some n) v)) ≡ true
  there_false h =
      ap (cut_false op) (place_below (cut_value (Some n) w) (cut_value (Some n) v))
      ∙ follows _ _ _ (false_table op (value_cmp w v) (value_cmp (cut_value (Some n) w) (cut_value (Some n) v))) (cut_kept n w v f g) h

true_shows : (op : Op) (n : ℕ) (w v : Value) → IsUtf8Value w → IsUtf8Value v → is_so true (comparison op w v) ≡ true → compares true op v (Some n) (below (cut_value (Some n) w)) ≡ true
true_shows SafeEq n Null Null f g h = refl
true_shows op n Null Null f g h = absurd (cc h)
true_shows SafeEq n Null (Int k) f g h = absurd (cc h)
true_shows op n Null (Int k) f g h = absurd (cc h)
true_shows SafeEq n Null (Text t) f g h = absurd (cc h)
true_shows op n Null (Text t) f g h = absurd (cc h)
true_shows SafeEq n (Int m) Null f g h = absurd (cc h)
true_shows op n (Int m) Null f g h = absurd (cc h)
true_shows SafeEq n (Text s) Null f g h = absurd (cc h)
true_shows op n (Text s) Null f g h = absurd (cc h)
true_shows SafeEq n (Int m) (Int k) f g h = there_true SafeEq n (Int m) (Int k) f g h
true_shows op n (Int m) (Int k) f g h = there_true op n (Int m) (Int k) f g h
true_shows SafeEq n (Int m) (Text t) f g h = there_true SafeEq n (Int m) (Text t) f g h
true_shows op n (Int m) (Text t) f g h = there_true op n (Int m) (Text t) f g h
true_shows SafeEq n (Text s) (Int k) f g h = there_true SafeEq n (Text s) (Int k) f g h
true_shows op n (Text s) (Int k) f g h = there_true op n (Text s) (Int k) f g h
true_shows SafeEq n (Text s) (Text t) f g h = there_true SafeEq n (Text s) (Text t) f g h
true_shows op n (Text s) (Text t) f g h = there_true op n (Text s) (Text t) f g h

false_shows : (op : Op) (n : ℕ) (w v : Value) → IsUtf8Value w → IsUtf8Value v → is_so false (comparison op w v) ≡ true → compares false op v (Some n) (below (cut_value (Some n) w)) ≡ true
false_shows SafeEq n Null Null f g h = absurd (cc h)
false_shows op n Null Null f g h = absurd (cc h)
false_shows SafeEq n (Int m) Null f g h = refl
false_shows op n (Int m) Null f g h = absurd (cc h)
false_shows SafeEq n (Text s) Null f g h = refl
false_shows op n (Text s) Null f g h = absurd (cc h)
false_shows SafeEq n w (Int k) f g h = refl
false_shows SafeEq n w (Text t) f g h = refl
false_shows op n Null (Int k) f g h = absurd (cc h)
false_shows op n Null (Text t) f g h = absurd (cc h)
false_shows op n (Int m) (Int k) f g h = there_false op n (Int m) (Int k) f g h
false_shows op n (Int m) (Text t) f g h = there_false op n (Int m) (Text t) f g h
false_shows op n (Text s) (Int k) f g h = there_false op n (Text s) (Int k) f g h
false_shows op n (Text s) (Text t) f g h = there_false op n (Text s) (Text t) f g h

-- a comparison of a part with a constant
pub comparison_shows : (sign : Bool) (op : Op) (n : Option ℕ) (w v : Value) → ((k : ℕ) → n ≡ Some k → IsUtf8Value w × IsUtf8Value v) → is_so sign (comparison op w v) ≡ true → compares sign op v n (below (cut_value n w)) ≡ true
comparison_shows sign op None w v texts h = ap (is_so sign) (comparison_there op w v) ∙ h
comparison_shows true op (Some n) w v texts h = let (f, g) = texts n refl in true_shows op n w v f g h
comparison_shows false op (Some n) w v texts h = let (f, g) = texts n refl in false_shows op n w v f g h

-- IS NULL
pub null_shows : (sign : Bool) (n : Option ℕ) (w : Value) → is_so sign (tri_of (is_null_value w)) ≡ true → compares sign SafeEq Null n (below (cut_value n w)) ≡ true
null_shows sign None w h = ap (λ b. is_so sign (tri_of b)) (is_at_null w) ∙ h
null_shows true (Some n) Null h = h
null_shows true (Some n) (Int m) h = h
null_shows true (Some n) (Text t) h = h
null_shows false (Some n) Null h = h
null_shows false (Some n) (Int m) h = h
null_shows false (Some n) (Text t) h = h

same_by : (w v : Value) (b : Bool) → is_eq (value_cmp w v) ≡ b → is_true (tri_of b) ≡ true → w ≡ v
same_by w v true e h = value_cmp-equal w v (equal (value_cmp w v) e)
  where
    equal : (o : Ordering) → is_eq o ≡ true → o ≡ Equal
    equal Less e = absurd (cc e)
    equal Equal e = refl
    equal Greater e = absurd (cc e)
same_by w v false e h = absurd (cc h)

-- values that are equal, and not NULL, are the same value
equal_values : (w v : Value) → equals w v ≡ true → w ≡ v
equal_values Null v h = absurd (cc h)
equal_values (Int m) Null h = absurd (cc h)
equal_values (Text s) Null h = absurd (cc h)
equal_values (Int m) (Int k) h = same_by (Int m) (Int k) (is_eq (value_cmp (Int m) (Int k))) refl h
equal_values (Int m) (Text t) h = absurd (cc h)
equal_values (Text s) (Int k) h = absurd (cc h)
equal_values (Text s) (Text t) h = same_by (Text s) (Text t) (is_eq (value_cmp (Text s) (Text t))) refl h

equals_null : (w : Value) → equals w Null ≡ true → ⊥
equals_null Null h = absurd (cc h)
equals_null (Int m) h = absurd (cc h)
equals_null (Text s) h = absurd (cc h)

at_itself : (n : Option ℕ) (v : Value) → (equals v v ≡ true) → is_at_some (below (cut_value n v)) (cut_value n v) ≡ true
at_itself n Null h = absurd (cc h)
at_itself None (Int m) h = is_at_same (Int m)
at_itself (Some n) (Int m) h = is_at_same (Int m)
at_itself None (Text t) h = is_at_same (Text t)
at_itself (Some n) (Text t) h = is_at_same (Text (take_chars n t))

-- a value that equals an element is at the element's point, both cut
pub element_shows : (n : Option ℕ) (w v : Value) → equals w v ≡ true → is_at_some (below (cut_value n w)) (cut_value n v) ≡ true
element_shows n w v h =
    let same = equal_values w v h in
    subst (λ x. is_at_some (below (cut_value n x)) (cut_value n v) ≡ true) (sym same) (at_itself n v (subst (λ x. equals x v ≡ true) same h))

any_shows : (f g : Value → Bool) → ((v : Value) → f v ≡ true → g v ≡ true) → (list : List Value) → list_any f list ≡ true → list_any g list ≡ true
any_shows f g each [] h = h
any_shows f g each (v ∷ list) h = elim (f v) as (λ b. f v ≡ b → (b || list_any f list) ≡ true → (g v || list_any g list) ≡ true) [
  | true ↦ λ e k. ap (λ b. b || list_any g list) (each v e)
  | false ↦ λ e k. or_right (g v) (list_any g list) (any_shows f g each list k)
] refl h
  where
    or_right : (a b : Bool) → b ≡ true → (a || b) ≡ true
    or_right true b e = refl
    or_right false b e = e

not_null_cut : (n : ℕ) (w : Value) → is_null_value w ≡ false → is_at (below (cut_value (Some n) w)) Null ≡ false
not_null_cut n Null h = absurd (cc h)
not_null_cut n (Int m) h = refl
not_null_cut n (Text t) h = refl

in_true : (found null : Bool) → is_so true (if found then T else if null then N else F) ≡ true → found ≡ true
in_true true null h = refl
in_true false true h = absurd (cc h)
in_true false false h = absurd (cc h)

in_false : (found a b : Bool) → is_so false (if found then T else if a || b then N else F) ≡ true → (a ≡ false) × (b ≡ false)
in_false true a b h = absurd (cc h)
in_false false true b h = absurd (cc h)
in_false false false true h = absurd (cc h)
in_false false false false h = (refl, refl)

-- IN
pub membership_shows : (sign : Bool) (n : Option ℕ) (w : Value) (list : List Value) → is_so sign (membership w list) ≡ true → lists sign list n (below (cut_value n w)) ≡ true
membership_shows sign None w list h = ap (is_so sign) (membership_there w list) ∙ h
membership_shows true (Some n) w list h =
    any_shows (equals w) (λ v. is_at_some (below (cut_value (Some n) w)) (cut_value (Some n) v)) (element_shows (Some n) w) list
    (in_true (list_any (equals w) list) (is_null_value w || list_any is_null_value list) h)
membership_shows false (Some n) w list h =
    let (some, none) = in_false (list_any (equals w) list) (is_null_value w) (list_any is_null_value list) h in
    let away = not_null_cut n w some in
    rw (none, away) refl
