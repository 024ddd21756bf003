-- What a comparison with a constant says of the regions of that constant.
use Rattle.std.proofs.Common.{arith, ◌≡◌, ◌&&◌, ◌||◌, ℕ, Bool, true, false, not, List, [], ◌∷◌, Option, Some, None, refl, ap, sym, ◌∙◌, subst}
use Rattle.std.specs.Prelude.{if◌then◌else◌}
use Rattle.std.proofs.Math.Bool.{or-false, and-true}
use Rattle.std.specs.Ordering.{is_eq}
use Rattle.std.specs.declared.cmp.Ordering.{Ordering}
use Rattle.std.specs.declared.cmp.Ordering.TheVariants.{Less, Equal, Greater}
use Rattle.rx_value.specs.declared.values.Value.{Value}
use Rattle.rx_value.specs.declared.values.Value.TheVariants.{Null, Int, Text}
use Rattle.rx_value.specs.declared.order.End.{End}
use Rattle.rx_value.specs.declared.order.End.TheVariants.{Last}
use Rattle.rx_value.specs.declared.order.Span.{Span}
use Rattle.rx_value.specs.Order.{is_at_most, below, above}
use Rattle.rx_value.specs.Spans.{IsAtMost}
use Rattle.rx_value.specs.Keys.{cut_value, point_span}
use Rattle.rx_value.proofs.Ends.{at_most-trans, below-at_most, least_end}
use Rattle.rx_tree.specs.Member.{IsPosition}
use Rattle.rx_tree.specs.Points.{AreSpans, is_inside_any}
use Rattle.rx_cond.specs.declared.conds.Op.{Op}
use Rattle.rx_cond.specs.declared.conds.Op.TheVariants.{SafeEq}
use Rattle.rx_cond.specs.Test.{is_null_value}
use Rattle.rx_regions.specs.Places.{place, is_at, comparison_at}
use Rattle.rx_regions.specs.Cans.{is_so, compares}
use Rattle.rx_single.specs.declared.regions.Flags.{Flags}
use Rattle.rx_single.specs.Single.{AreSpansOf, pick, says, null_can, order_can, flags_of, listed}
use Rattle.rx_single.proofs.Saying.{null_below, point_is_span}

not_above : (a z : Bool) → is_eq (if a then Greater else if z then Equal else Less) ≡ true → a ≡ false
not_above true z e = absurd (cc e)
not_above false z e = refl

less_by : (b c : Bool) → b ≡ false → c ≡ false → (if c then Greater else if b then Equal else Less) ≡ Less
less_by b c e f = rw (e, f) refl

not_so : (a b : Bool) → (a ≡ true → b ≡ true) → b ≡ false → a ≡ false
not_so true b f e = absurd (cc (f refl, e))
not_so false b f e = refl

-- NULL lies below each value
pub null_is_less : (v : Value) (p : End) → is_null_value v ≡ false → is_at p Null ≡ true → place p v ≡ Less
null_is_less v p some at =
    let low : IsAtMost (above Null) (below v) = below-at_most (above Null) (below v) (null_below v some) in
    let high : IsAtMost (below v) (above v) = below-at_most (below v) (above v) (point_is_span v) in
    let a : is_at_most (above Null) p ≡ false = not_above (is_at_most (above Null) p) (is_at_most (below Null) p) at in
    let b : is_at_most (below v) p ≡ false = not_so (is_at_most (below v) p) (is_at_most (above Null) p) (λ h. at_most-trans (above Null) (below v) p low h) a in
    less_by (is_at_most (below v) p) (is_at_most (above v) p) b (not_so (is_at_most (above v) p) (is_at_most (below v) p) (λ h. at_most-trans (below v) (above v) p high h) b)

whole_by : (sign : Bool) (op : Op) (p : End) (v : Value) → is_null_value v ≡ false → (is_at p Null ≡ true → place p v ≡ Less)
    → is_so sign (comparison_at op p v) ≡ (if is_at p Null then null_can sign op else order_can sign op None (place p v))
whole_by sign op p v some less = grind arith

cut_by : (sign : Bool) (op : Op) (n : ℕ) (p : End) (v : Value) → is_null_value v ≡ false
    → compares sign op v (Some n) p ≡ (if is_at p Null then null_can sign op else order_can sign op (Some n) (place p (cut_value (Some n) v)))
cut_by sign op n p v some = grind arith

picked : (sign : Bool) (op : Op) (chars : Option ℕ) (order : Ordering) → order_can sign op chars order ≡ pick (flags_of sign op chars) order
picked sign op chars Less = refl
picked sign op chars Equal = refl
picked sign op chars Greater = refl

compares_by : (sign : Bool) (op : Op) (chars : Option ℕ) (p : End) (v : Value) → is_null_value v ≡ false
    → compares sign op v chars p ≡ (if is_at p Null then null_can sign op else order_can sign op chars (place p (cut_value chars v)))
compares_by sign op None p v some = whole_by sign op p v some (null_is_less v p some)
compares_by sign op (Some n) p v some = cut_by sign op n p v some

-- a comparison with a value says what its flags say
pub compares_says : (sign : Bool) (op : Op) (chars : Option ℕ) (p : End) (v : Value) → is_null_value v ≡ false
    → says (flags_of sign op chars) (cut_value chars v) p ≡ compares sign op v chars p
compares_says sign op chars p v some =
    sym (compares_by sign op chars p v some
    ∙ ap (λ x. if is_at p Null then null_can sign op else x) (picked sign op chars (place p (cut_value chars v))))

-- a cut value is NULL exactly where the value is
pub cut_some : (chars : Option ℕ) (v : Value) → is_null_value (cut_value chars v) ≡ is_null_value v
cut_some None v = refl
cut_some (Some n) Null = refl
cut_some (Some n) (Int m) = refl
cut_some (Some n) (Text t) = refl

pub same_test : (n : Bool) (spans : List Span) (f g : End → Bool) → ((p : End) → IsPosition n p → f p ≡ g p) → AreSpansOf n spans f → AreSpansOf n spans g
same_test n spans f g same of_f = record { apart = of_f.apart; positions = λ p at. of_f.positions p at ∙ same p at }

pub comparison_said : (n : Bool) (spans : List Span) (sign : Bool) (op : Op) (chars : Option ℕ) (v w : Value) (f : Flags)
    → is_null_value v ≡ false → w ≡ cut_value chars v → f ≡ flags_of sign op chars → AreSpansOf n spans (says f w) → AreSpansOf n spans (compares sign op v chars)
comparison_said n spans sign op chars v w f some cut flags said =
    same_test n spans (says f w) (compares sign op v chars)
    (λ p at. ap (λ x. says x w p) flags ∙ ap (λ x. says (flags_of sign op chars) x p) cut ∙ compares_says sign op chars p v some) said

-- a position is at NULL where it isn't above it
at_null_by : (a z : Bool) → z ≡ true → is_eq (if a then Greater else if z then Equal else Less) ≡ not a
at_null_by true z e = refl
at_null_by false z e = rw e refl

pub at_null : (p : End) → is_at p Null ≡ not (is_at_most (above Null) p)
at_null p = at_null_by (is_at_most (above Null) p) (is_at_most (below Null) p) (least_end p)

null_sign : (sign : Bool) (chars : Option ℕ) (p : End) → compares sign SafeEq Null chars p ≡ (if sign then is_at p Null else not (is_at p Null))
null_sign sign None p = grind arith
null_sign sign (Some n) p = refl

only_null_holds : (n : Bool) (p : End) → IsPosition n p → is_inside_any (listed n (point_span Null) []) p ≡ is_at p Null
only_null_holds true p at = ap (λ x. (x && not (is_at_most (above Null) p)) || false) (least_end p) ∙ or-false (not (is_at_most (above Null) p)) ∙ sym (at_null p)
only_null_holds false p at = sym (at_null p ∙ ap not at.from)

not-not : (a : Bool) → not (not a) ≡ a
not-not true = refl
not-not false = refl

pub but_null_holds : (n : Bool) (p : End) → IsPosition n p → is_inside_any (record { lo = above Null; hi = Last } ∷ []) p ≡ not (is_at p Null)
but_null_holds n p at =
    or-false (is_at_most (above Null) p && not (is_at_most Last p))
    ∙ ap (λ x. is_at_most (above Null) p && not x) at.cut
    ∙ and-true (is_at_most (above Null) p)
    ∙ sym (ap not (at_null p) ∙ not-not (is_at_most (above Null) p))

null_apart : (n : Bool) → AreSpans n (listed n (point_span Null) [])
null_apart true = (refl, refl, tt)
null_apart false = tt

pub rest_apart : (n : Bool) → AreSpans n (record { lo = above Null; hi = Last } ∷ [])
rest_apart true = (refl, refl, tt)
rest_apart false = (refl, refl, tt)

-- NULL alone, for a comparison that can be true there alone
pub only_null : (n sign : Bool) (op : Op) (chars : Option ℕ) (spans : List Span) → op ≡ SafeEq → sign ≡ true → spans ≡ listed n (point_span Null) [] → AreSpansOf n spans (compares sign op Null chars)
only_null n sign op chars spans safe so is =
    subst (λ (x : Op). AreSpansOf n spans (compares sign x Null chars)) (sym safe)
    (subst (λ (x : Bool). AreSpansOf n spans (compares x SafeEq Null chars)) (sym so)
    (subst (λ (x : List Span). AreSpansOf n x (compares true SafeEq Null chars)) (sym is)
    (record { apart = null_apart n; positions = λ p at. only_null_holds n p at ∙ sym (null_sign true chars p) })))

-- all but NULL, for one that can be false there
pub but_null : (n sign : Bool) (op : Op) (chars : Option ℕ) (spans : List Span) → op ≡ SafeEq → sign ≡ false → spans ≡ record { lo = above Null; hi = Last } ∷ [] → AreSpansOf n spans (compares sign op Null chars)
but_null n sign op chars spans safe so is =
    subst (λ (x : Op). AreSpansOf n spans (compares sign x Null chars)) (sym safe)
    (subst (λ (x : Bool). AreSpansOf n spans (compares x SafeEq Null chars)) (sym so)
    (subst (λ (x : List Span). AreSpansOf n x (compares false SafeEq Null chars)) (sym is)
    (record { apart = rest_apart n; positions = λ p at. but_null_holds n p at ∙ sym (null_sign false chars p) })))

never_by : (sign : Bool) (op : Op) (chars : Option ℕ) (p : End) → (op ≡ SafeEq → ⊥) → compares sign op Null chars p ≡ false
never_by sign op chars p other = grind arith

-- no position, for any other
pub never : (n sign : Bool) (op : Op) (chars : Option ℕ) (spans : List Span) → (op ≡ SafeEq → ⊥) → spans ≡ [] → AreSpansOf n spans (compares sign op Null chars)
never n sign op chars spans other is =
    subst (λ (x : List Span). AreSpansOf n x (compares sign op Null chars)) (sym is)
    (record { apart = tt; positions = λ p at. sym (never_by sign op chars p other) })
