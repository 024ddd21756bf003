-- A span without a child put into a level of which it touches no item.
use Rattle.std.proofs.Common.{◌≡◌, inl, inr, Option, Some, IfSome, ◌<◌, ◌≤◌, ◌+◌, ◌-◌, ◌*◌, max, true, ℕ, arith, ap, sym, ◌∙◌, subst}
use Rattle.std.proofs.lemmas.Bool.{cases_lt}
use Rattle.rx_value.specs.declared.order.End.{End}
use Rattle.rx_value.specs.declared.order.Span.{Span}
use Rattle.rx_value.specs.Order.{is_at_most}
use Rattle.rx_value.specs.Spans.{IsAtMost, IsBelow}
use Rattle.rx_value.proofs.Ends.{at_most-same, below-at_most}
use Rattle.rx_tree.specs.Tree.{Level}
use Rattle.rx_tree.specs.Tree.Level.{end, item}
use Rattle.rx_tree.specs.Join.{join_level}
use Rattle.rx_tree.specs.Cuts.{after, AreInOrder}
use Rattle.rx_level.specs.Tree.{IsNear, IsHeight}
use Rattle.rx_level.proofs.Steps.{join_assoc}
use Rattle.rx_or.specs.Cover.{IsLaid, covered}
use Rattle.rx_or.proofs.Reaching.{none_before, none_after, apart_before, apart_after, beyond_before, beyond_after}

below_apart : (a b : End) → IsBelow a b → a ≡ b → ⊥
below_apart a b below same =
    let self : is_at_most b a ≡ true = subst (λ (x : End). is_at_most b x ≡ true) (sym same) (at_most-same b) in
    cc (below, self)

-- a level without items
pub laid_none : (s : Span) (l whole : Level) → l ≡ end → whole ≡ item s end end → IsLaid s l whole
laid_none s l whole none is = subst (λ (x : Level). IsLaid s x whole) (sym none) (record { front = end; back = end; first = none_before s.lo; second = none_after s.hi; is = is })

-- a span before the topmost item
pub laid_before : (s t : Span) (l c r front all whole : Level) → AreInOrder (join_level l (item t c r)) → all ≡ join_level l (item t c r) → IsAtMost s.lo t.lo × IsBelow s.hi t.lo → IsLaid s l front → whole ≡ join_level front (item t c r) → IsLaid s all whole
laid_before s t l c r front all whole order is place laid joined = subst (λ (x : Level). IsLaid s x whole) (sym is) (record {
  front = laid.front;
  back = join_level laid.back (item t c r);
  first = beyond_before s.lo l t c r laid.front s.lo order place.0 laid.first;
  second = apart_after s.hi l t c r laid.back s.hi order (below-at_most s.hi t.lo place.1) (λ touch none. below_apart s.hi t.lo place.1 touch) laid.second;
  is = joined ∙ ap (λ y. join_level y (item t c r)) laid.is ∙ join_assoc laid.front (item s end laid.back) (item t c r);
})

-- a span behind the topmost item
pub laid_behind : (s t : Span) (l c r back all whole : Level) → AreInOrder (join_level l (item t c r)) → all ≡ join_level l (item t c r) → IsBelow t.hi s.lo × IsAtMost t.hi s.hi → IsLaid s r back → whole ≡ join_level l (item t c back) → IsLaid s all whole
laid_behind s t l c r back all whole order is place laid joined = subst (λ (x : Level). IsLaid s x whole) (sym is) (record {
  front = join_level l (item t c laid.front);
  back = laid.back;
  first = apart_before s.lo l t c r laid.front s.lo order (below-at_most t.hi s.lo place.0) (λ touch none. below_apart t.hi s.lo place.0 touch) laid.first;
  second = beyond_after s.hi l t c r laid.back s.hi order place.1 laid.second;
  is = joined ∙ ap (λ y. join_level l (item t c y)) laid.is ∙ sym (join_assoc l (item t c laid.front) (item s end laid.back));
})

-- what is laid covers
pub laid_covered : (s : Span) (l whole : Level) → IsLaid s l whole → whole ≡ covered s l
laid_covered s l whole laid = laid.is ∙ ap (join_level laid.front) (sym (laid.second.joins s.lo)) ∙ sym (laid.first.joins s.hi (after s.hi l))

-- heights and the number of items where a side has grown by one at most
pub grown_low : (t l r x w : ℕ) → t ≡ 1 + max l r → IsNear l r → l ≤ x → x ≤ l + 1 → IsHeight x r w → t ≤ w
grown_low t l r x w e near low high is = elim (cases_lt (r + 1) x) [
  | inl h ↦ grind (arith, e, near.0, low, high, is.0, h)
  | inr h ↦ let top : w ≡ 1 + max x r = is.2 (h, omega (arith, near.1, low)) in grind (arith, e, low, top)
]

pub grown_high : (t l r x w : ℕ) → t ≡ 1 + max l r → x ≤ l + 1 → IsHeight x r w → w ≤ t + 1
grown_high t l r x w e high is = grind (arith, e, high, is.1)

pub grown_live : (t l r x n0 n1 n2 : ℕ) → t ≡ 1 + max l r → IsNear l r → l ≤ x → x ≤ l + 1 → n1 ≤ n0 + 7 * l + 1 → n2 ≤ n1 + 3 * ((x - r) + (r - x)) + 1 → n2 ≤ n0 + 7 * t + 1
grown_live t l r x n0 n1 n2 e near low high one two = let side : l < t = grind (arith, e) in omega (arith, side, near.0, near.1, low, high, one, two)

pub grown_low_behind : (t l r x w : ℕ) → t ≡ 1 + max l r → IsNear l r → r ≤ x → x ≤ r + 1 → IsHeight l x w → t ≤ w
grown_low_behind t l r x w e near low high is = elim (cases_lt (l + 1) x) [
  | inl h ↦ grind (arith, e, near.1, low, high, is.0, h)
  | inr h ↦ let top : w ≡ 1 + max l x = is.2 (omega (arith, near.0, low), h) in grind (arith, e, low, top)
]

pub grown_high_behind : (t l r x w : ℕ) → t ≡ 1 + max l r → x ≤ r + 1 → IsHeight l x w → w ≤ t + 1
grown_high_behind t l r x w e high is = grind (arith, e, high, is.1)

pub grown_live_behind : (t l r x n0 n1 n2 : ℕ) → t ≡ 1 + max l r → IsNear l r → r ≤ x → x ≤ r + 1 → n1 ≤ n0 + 7 * r + 1 → n2 ≤ n1 + 3 * ((l - x) + (x - l)) + 1 → n2 ≤ n0 + 7 * t + 1
grown_live_behind t l r x n0 n1 n2 e near low high one two = let side : r < t = grind (arith, e) in omega (arith, side, near.0, near.1, low, high, one, two)

-- what is said of an option that is some
pub told_some : {X : Type 0} (P : X → Type 0) (o : Option X) (x : X) → o ≡ Some x → IfSome o P → P x
told_some P o x is told = subst (λ q. IfSome q P) is told
