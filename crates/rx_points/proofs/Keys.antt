-- Lent items by their keys, in lists that grow.
use Rattle.std.proofs.Common.{◌≡◌, ℕ, Bool, true, false, List, [], ◌∷◌, ◌++◌, length, Option, Some, arith, refl, ap, ap₂, sym, ◌∙◌, subst}
use Rattle.slab.specs.Slab.{Slab}
use Rattle.rx_value.specs.declared.order.Span.{Span}
use Rattle.rx_value.specs.Order.{is_at_most}
use Rattle.rx_level.specs.declared.nodes.Node.{Node}
use Rattle.rx_level.specs.declared.building.Bounds.{Bounds}
use Rattle.rx_level.specs.Step.{Lent}
use Rattle.rx_level.specs.Between.{AreLent, span_at, span_between, spans_between}
use Rattle.rx_points.specs.Keys.{spans_at, AreLentKeys}
use Rattle.rx_points.specs.Merging.{IsTaken}
use Rattle.rx_points.proofs.Steps.{Closing}

pub keys_append : (s : Slab Node) (xs ys : List ℕ) → spans_at s (xs ++ ys) ≡ spans_at s xs ++ spans_at s ys
keys_append s [] ys = refl
keys_append s (x ∷ xs) ys = ap (λ r. span_at s x ∷ r) (keys_append s xs ys)

pub lent_keys : (s : Slab Node) (xs ys : List ℕ) → AreLentKeys s xs → AreLentKeys s ys → AreLentKeys s (xs ++ ys)
lent_keys s [] ys one two = two
lent_keys s (x ∷ xs) ys one two = (one.0, lent_keys s xs ys one.1 two)

pub one_more : (s : Slab Node) (k : ℕ) (root : Option ℕ) (old new : List ℕ) → root ≡ Some k → Lent s [] root → new ≡ old ++ k ∷ [] → AreLentKeys s old → AreLentKeys s new
one_more s k root old new is lent made all = subst (AreLentKeys s) (sym made) (lent_keys s old (k ∷ []) all (subst (Lent s []) is lent, tt))

-- what two lower ends say, read of two items
pub lower : (s t a b : Span) (x y : Bool) → a ≡ s → b ≡ t → x ≡ is_at_most a.lo b.lo → x ≡ y → is_at_most s.lo t.lo ≡ y
lower s t a b x y one other is e = sym (ap₂ (λ u v. is_at_most u.lo v.lo) one other) ∙ sym is ∙ e

-- and a lower and an upper one
pub touching : (s t a b : Span) (x y : Bool) → a ≡ s → b ≡ t → x ≡ is_at_most a.lo b.hi → x ≡ y → is_at_most s.lo t.hi ≡ y
touching s t a b x y one other is e = sym (ap₂ (λ u v. is_at_most u.lo v.hi) one other) ∙ sym is ∙ e

-- the last span stands behind the others
pub put_behind : (x : Bool) (last next s : Span) (before after : List Span) → x ≡ false → s ≡ next → after ≡ before ++ last ∷ [] → IsTaken x last next s before after
put_behind true last next s before after e is put = absurd (cc e)
put_behind false last next s before after e is put = (is, put)

-- the items of a step through two lists are lent
pub record AllLent (s : Slab Node) (last : Bounds) (ones others : List ℕ) (united : List Bounds) : Type 0 where
  pub low : Lent s [] (Some last.first)
  pub high : Lent s [] (Some last.last)
  pub first : AreLentKeys s ones
  pub second : AreLentKeys s others
  pub done : AreLent s united

-- what has been gone through of two lists
pub record Passed (s : Slab Node) (start : Bounds) (a b : List ℕ) (before : List Bounds) (last : Bounds) (ones others : List ℕ) (united : List Bounds) : Type 0 where
  pub closing : Closing (span_between s start) (spans_at s a) (spans_at s b) (spans_between s before) (span_between s last) (spans_at s ones) (spans_at s others) (spans_between s united)
  pub lent : AllLent s last ones others united

pub length_between : (s : Slab Node) (xs : List Bounds) → length (spans_between s xs) ≡ length xs
length_between s [] = refl
length_between s (x ∷ xs) = omega (arith, length_between s xs)
