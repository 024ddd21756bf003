-- The literal prefix of a LIKE pattern, and the span of what begins with it.
use Rattle.std.proofs.Common.{arith, ◌≡◌, ◌||◌, ◌+◌, ◌-◌, ◌<◌, ◌/◌, ◌%◌, cond, ℕ, zero, suc, Bool, true, false, List, [], ◌∷◌, ◌++◌, length, Option, refl, ap, ap₂, sym, ◌∙◌, subst, get_or, slice_set, ltb}
use Rattle.std.specs.Prelude.{◌==◌, if◌then◌else◌, encode_utf8, encode_utf8_all}
use Rattle.std.specs.Str.{chars, is_utf8, IsUtf8, all_scalars}
use Rattle.std.specs.Ordering.{nat_cmp, ordering_then}
use Rattle.std.specs.Cmp.{nat_cmp_is}
use Rattle.std.specs.Cmp.Lexicographic.{slice_cmp}
use Rattle.std.specs.declared.cmp.Ordering.TheVariants.{Equal, Greater}
use Rattle.std.proofs.Math.Bool.{or-false}
use borrow.Author.Tests.{ltb-true}
use Rattle.std.proofs.lemmas.Str.{IsUtf8-from_is_utf8, scalars-chars}
use Rattle.rx_value.specs.declared.values.Value.{Value}
use Rattle.rx_value.specs.declared.values.Value.TheVariants.{Null, Text}
use Rattle.rx_value.specs.declared.order.End.{End}
use Rattle.rx_value.specs.declared.order.Span.{Span}
use Rattle.rx_value.specs.Order.{below, above}
use Rattle.rx_value.specs.Spans.{IsAtMost, IsBelow, is_inside, first_end}
use Rattle.rx_value.specs.Keys.{cut_value, point_span}
use Rattle.rx_value.proofs.Ends.{below-at_most, least_end}
use Rattle.rx_tree.specs.Member.{IsPosition}
use Rattle.rx_like.specs.Pattern.{tokens, tokens_of, escaped, literal_front, literal_prefix, is_plain}
use Rattle.rx_cond.specs.Test.{is_null_value}
use Rattle.rx_regions.specs.Places.{is_at, raised}
use Rattle.rx_regions.specs.Cans.{is_from, fills, begins}
use Rattle.rx_single.specs.Single.{AreSpansOf}
use Rattle.rx_single.proofs.Saying.{null_below, point_is_span}
use Rattle.rx_single.proofs.Comparisons.{cut_some}
use Rattle.rx_single.proofs.Points.{in_point}

-- the characters before the first wildcard are characters, as those of the pattern are
mutual
  front_scalars : (cs : List ℕ) → all_scalars cs ≡ true → all_scalars (literal_front (tokens_of cs)) ≡ true
  front_scalars [] fit = refl
  front_scalars (c ∷ cs) fit = grind (arith, front_scalars cs, escaped_scalars cs)

  escaped_scalars : (cs : List ℕ) → all_scalars cs ≡ true → all_scalars (literal_front (escaped cs)) ≡ true
  escaped_scalars [] fit = refl
  escaped_scalars (c ∷ cs) fit = grind (arith, front_scalars cs)

prefix_text_by : (pattern : List ℕ) (x : Bool) → is_utf8 pattern ≡ x → IsUtf8 (if x then encode_utf8_all (literal_front (tokens pattern)) else [])
prefix_text_by pattern true text =
    (literal_front (tokens pattern), (front_scalars (chars pattern) (scalars-chars pattern (IsUtf8-from_is_utf8 pattern text)), refl))
prefix_text_by pattern false text = ([], (refl, refl))

-- a literal prefix is UTF-8
pub prefix_text : (pattern : List ℕ) → IsUtf8 (literal_prefix pattern)
prefix_text pattern = prefix_text_by pattern (is_utf8 pattern) refl

-- the last of these bytes, where there is one, is below 255
abbrev CanRise : List ℕ → Type 0
CanRise [] = Unit {0}
CanRise (b ∷ []) = b < 255
CanRise (b ∷ c ∷ bs) = CanRise (c ∷ bs)

can_rise_by : (c : ℕ) (x y z : Bool) → ltb c 128 ≡ x
    → CanRise (cond x (c ∷ []) (cond y ((192 + c / 64) ∷ (128 + c % 64) ∷ []) (cond z ((224 + c / 4096) ∷ (128 + (c / 64) % 64) ∷ (128 + c % 64) ∷ []) ((240 + c / 262144) ∷ (128 + (c / 4096) % 64) ∷ (128 + (c / 64) % 64) ∷ (128 + c % 64) ∷ []))))
can_rise_by c true y z e = omega (arith, ltb-true c 128 e)
can_rise_by c false true z e = omega arith
can_rise_by c false false true e = omega arith
can_rise_by c false false false e = omega arith

can_rise_char : (c : ℕ) → CanRise (encode_utf8 c)
unfolding lib.Utf8.encode
can_rise_char c = can_rise_by c (ltb c 128) (ltb c 2048) (ltb c 65536) refl

can_rise_append : (xs ys : List ℕ) → CanRise xs → CanRise ys → CanRise (xs ++ ys)
can_rise_append [] ys one other = other
can_rise_append (b ∷ []) [] one other = one
can_rise_append (b ∷ []) (c ∷ cs) one other = other
can_rise_append (b ∷ c ∷ bs) ys one other = can_rise_append (c ∷ bs) ys one other

can_rise_text : (cs : List ℕ) → CanRise (encode_utf8_all cs)
can_rise_text [] = tt
can_rise_text (c ∷ cs) = can_rise_append (encode_utf8 c) (encode_utf8_all cs) (can_rise_char c) (can_rise_text cs)

last_below : (bs : List ℕ) → CanRise bs → get_or bs (length bs - 1) 0 < 255
last_below [] can = omega arith
last_below (b ∷ []) can = can
last_below (b ∷ c ∷ bs) can = let one : length (b ∷ c ∷ bs) - 1 ≡ suc (length (c ∷ bs) - 1) = omega arith in rw one (last_below (c ∷ bs) can)

prefix_by : (pattern : List ℕ) (x : Bool) → CanRise (if x then encode_utf8_all (literal_front (tokens pattern)) else [])
prefix_by pattern true = can_rise_text (literal_front (tokens pattern))
prefix_by pattern false = tt

-- the last byte of a literal prefix is below 255
pub prefix_can_rise : (pattern : List ℕ) → get_or (literal_prefix pattern) (length (literal_prefix pattern) - 1) 0 < 255
prefix_can_rise pattern = last_below (literal_prefix pattern) (prefix_by pattern (is_utf8 pattern))

higher : (b : ℕ) → nat_cmp (b + 1) b ≡ Greater
higher b = sym (nat_cmp_is (b + 1) b Greater (omega arith))

same_byte : (b : ℕ) → nat_cmp b b ≡ Equal
same_byte b = sym (nat_cmp_is b b Equal refl)

-- raised bytes come behind
raised_behind : (b : ℕ) (bs : List ℕ) → slice_cmp nat_cmp (raised (b ∷ bs)) (b ∷ bs) ≡ Greater
raised_behind b [] = ap (λ o. ordering_then o Equal) (higher b)
raised_behind b (c ∷ bs) = ap₂ ordering_then (same_byte b) (raised_behind c bs)

range_is_span : (b : ℕ) (bs : List ℕ) → IsBelow (below (Text (b ∷ bs))) (below (Text (raised (b ∷ bs))))
range_is_span b bs = ap (λ o. elim (ordering_then o Equal) [ Greater ↦ false | _ ↦ true ]) (raised_behind b bs)

alone_by : (n : Bool) (s : Span) (test : End → Bool) → IsAtMost (first_end n) s.lo → IsBelow s.lo s.hi → ((p : End) → IsPosition n p → is_inside s p ≡ test p) → AreSpansOf n (s ∷ []) test
alone_by n s test low span holds = record { apart = (low, span, tt); positions = λ p at. or-false (is_inside s p) ∙ holds p at }

low_some : (n : Bool) (v : Value) → is_null_value v ≡ false → IsAtMost (first_end n) (below v)
low_some true v some = least_end (below v)
low_some false v some = below-at_most (above Null) (below v) (null_below v some)

begins_point : (pattern : List ℕ) (chars : Option ℕ) (p : End) → (is_plain pattern || fills chars (literal_prefix pattern)) ≡ true → is_at p (cut_value chars (Text (literal_prefix pattern))) ≡ begins pattern chars p
begins_point pattern chars p all = rw all refl

-- where the prefix is all that the part tells, its point
pub pattern_point : (n : Bool) (pattern : List ℕ) (chars : Option ℕ) (prefix : List ℕ) (spans : List Span) (x : Bool) → prefix ≡ literal_prefix pattern → x ≡ is_plain pattern
    → (x || fills chars prefix) ≡ true → spans ≡ point_span (cut_value chars (Text prefix)) ∷ [] → AreSpansOf n spans (begins pattern chars)
pattern_point n pattern chars prefix spans x front plain all is =
    let v = cut_value chars (Text (literal_prefix pattern)) in
    let known = sym (ap₂ (λ a b. a || fills chars b) plain front) ∙ all in
    subst (λ (y : List Span). AreSpansOf n y (begins pattern chars)) (sym (is ∙ ap (λ y. point_span (cut_value chars (Text y)) ∷ []) front))
    (alone_by n (point_span v) (begins pattern chars) (low_some n v (cut_some chars (Text (literal_prefix pattern)))) (point_is_span v)
    (λ p at. in_point p v ∙ begins_point pattern chars p known))

pub raised_set : (bs : List ℕ) (n x : ℕ) → n + 1 ≡ length bs → x ≡ get_or bs n x → slice_set bs n (x + 1) ≡ raised bs
raised_set [] n x len at = absurd (omega (arith, len))
raised_set (b ∷ []) zero x len at = ap (λ y. (y + 1) ∷ []) at
raised_set (b ∷ []) (suc n) x len at = absurd (omega (arith, len))
raised_set (b ∷ c ∷ bs) zero x len at = absurd (omega (arith, len))
raised_set (b ∷ c ∷ bs) (suc n) x len at = ap (λ y. b ∷ y) (raised_set (c ∷ bs) n x (omega (arith, len)) at)

begins_from : (pattern : List ℕ) (chars : Option ℕ) (b : ℕ) (bs : List ℕ) (p : End) → (is_plain pattern || fills chars (literal_prefix pattern)) ≡ false → literal_prefix pattern ≡ b ∷ bs
    → begins pattern chars p ≡ is_from (b ∷ bs) p
begins_from pattern chars b bs p part some = rw part (rw some refl)

range_by : (n : Bool) (pattern : List ℕ) (chars : Option ℕ) (prefix : List ℕ) → prefix ≡ literal_prefix pattern → (is_plain pattern || fills chars (literal_prefix pattern)) ≡ false → (prefix ≡ [] → ⊥)
    → AreSpansOf n (record { lo = below (Text prefix); hi = below (Text (raised prefix)) } ∷ []) (begins pattern chars)
range_by n pattern chars [] front part some = absurd (some refl)
range_by n pattern chars (b ∷ bs) front part some =
    alone_by n (record { lo = below (Text (b ∷ bs)); hi = below (Text (raised (b ∷ bs))) }) (begins pattern chars) (low_some n (Text (b ∷ bs)) refl) (range_is_span b bs)
    (λ p at. sym (begins_from pattern chars b bs p part (sym front)))

-- where the part tells more than the prefix, from the prefix on up to the raised one
pub pattern_range : (n : Bool) (pattern : List ℕ) (chars : Option ℕ) (prefix : List ℕ) (spans : List Span) (x : Bool) → prefix ≡ literal_prefix pattern → x ≡ is_plain pattern
    → (x || fills chars prefix) ≡ false → (prefix ≡ [] → ⊥) → spans ≡ record { lo = below (Text prefix); hi = below (Text (raised prefix)) } ∷ [] → AreSpansOf n spans (begins pattern chars)
pattern_range n pattern chars prefix spans x front plain part some is =
    subst (λ (y : List Span). AreSpansOf n y (begins pattern chars)) (sym is)
    (range_by n pattern chars prefix front (sym (ap₂ (λ a b. a || fills chars b) plain front) ∙ part) some)

pub first_so : (x y : Bool) → x ≡ true → (x || y) ≡ true
first_so true y e = refl
first_so false y e = absurd (cc e)

pub second_so : (x y : Bool) → y ≡ true → (x || y) ≡ true
second_so true y e = refl
second_so false y e = e

pub neither : (x y : Bool) → x ≡ false → y ≡ false → (x || y) ≡ false
neither true y e f = absurd (cc e)
neither false y e f = f

pub some_bytes : (bs : List ℕ) (n : ℕ) → length bs ≡ n → (n == 0) ≡ false → bs ≡ [] → ⊥
some_bytes [] n len some none = absurd (cc (len, some))
some_bytes (b ∷ bs) n len some none = absurd (cc none)
