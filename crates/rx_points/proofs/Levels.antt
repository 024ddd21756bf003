-- Levels of items without children, and the lists of their spans.
use Rattle.std.proofs.Common.{◌≡◌, ◌<◌, ◌≤◌, ◌||◌, ℕ, Bool, List, [], ◌∷◌, ◌++◌, append_assoc, append-nil, length, Option, None, arith, refl, ap, ap₂, sym, ◌∙◌, subst}
use Rattle.std.proofs.Math.Bool.{and-true}
use Rattle.slab.specs.Slab.{Slab}
use Rattle.rx_value.specs.declared.order.End.{End}
use Rattle.rx_value.specs.declared.order.Span.{Span}
use Rattle.rx_value.specs.declared.values.Value.TheVariants.{Null}
use Rattle.rx_value.specs.Order.{below}
use Rattle.rx_value.specs.Spans.{IsAtMost, IsBelow, is_inside, first_end}
use Rattle.rx_value.proofs.Ends.{at_most-same, at_most-trans, below-at_most, below-irrefl, least_end}
use Rattle.rx_level.specs.declared.nodes.Node.{Node}
use Rattle.rx_level.specs.Step.{level_of}
use Rattle.rx_tree.specs.Tree.{Level, level_size}
use Rattle.rx_tree.specs.Tree.Level.{end, item}
use Rattle.rx_tree.specs.Join.{join_level, length_of}
use Rattle.rx_tree.specs.Member.{level_holds}
use Rattle.rx_tree.specs.Canonical.{BeginsFrom, Differs, ArePlaced}
use Rattle.rx_tree.specs.Points.{AreApart, is_inside_any, items_of}
use Rattle.rx_tree.specs.Union.{either}
use Rattle.rx_tree.proofs.Sets.{end_not_all}
use Rattle.rx_tree.proofs.Unions.{either_is}
use Rattle.rx_points.specs.Spans.{AreRising, AreApartFrom, AreUnited, ArePoints, HaveNoChild, spans_of}
use Rattle.rx_points.proofs.Lists.{rising_from}

spans_join : (l m : Level) → spans_of (join_level l m) ≡ spans_of l ++ spans_of m
spans_join end m = refl
spans_join (item s c rest) m = ap (λ x. s ∷ x) (spans_join rest m)

-- the spans of a level, those of its topmost item's sides before and behind
pub spans_added : (g l c r : Level) (s t : Span) (old one two new : List Span) → g ≡ join_level l (item s c r) → t ≡ s → one ≡ old ++ spans_of l → two ≡ one ++ t ∷ [] → new ≡ two ++ spans_of r → new ≡ old ++ spans_of g
spans_added g l c r s t old one two new is same first second third =
    third
    ∙ ap (λ x. x ++ spans_of r) (second ∙ ap₂ (λ x y. x ++ y ∷ []) first same)
    ∙ append_assoc (old ++ spans_of l) (s ∷ []) (spans_of r)
    ∙ append_assoc old (spans_of l) (s ∷ spans_of r)
    ∙ ap (λ x. old ++ x) (sym (spans_join l (item s c r)) ∙ ap spans_of (sym is))

pub spans_none : (s : Slab Node) (r : Option ℕ) (old : List Span) → r ≡ None → old ≡ old ++ spans_of (level_of s r)
spans_none s r old e = sym (ap (λ x. old ++ spans_of (level_of s x)) e ∙ append-nil old)

left_low : (l : Level) (s : Span) (c r : Level) → length_of l < length_of (join_level l (item s c r))
left_low end s c r = omega arith
left_low (item t d l) s c r = let low = left_low l s c r in omega (arith, low)

pub fewer_left : (g l : Level) (s : Span) (c r : Level) → g ≡ join_level l (item s c r) → length_of l < length_of g
fewer_left g l s c r e = subst (λ (x : Level). length_of l < length_of x) (sym e) (left_low l s c r)

right_low : (l : Level) (s : Span) (c r : Level) → length_of r < length_of (join_level l (item s c r))
right_low end s c r = omega arith
right_low (item t d l) s c r = let low = right_low l s c r in omega (arith, low)

pub fewer_right : (g l : Level) (s : Span) (c r : Level) → g ≡ join_level l (item s c r) → length_of r < length_of g
fewer_right g l s c r e = subst (λ (x : Level). length_of r < length_of x) (sym e) (right_low l s c r)

length_low : (l : Level) → length_of l ≤ level_size l
length_low end = omega arith
length_low (item s c rest) = let low = length_low rest in omega (arith, low)

no_size : (c : Level) → level_size c ≡ 0 → c ≡ end
no_size end e = refl
no_size (item s c rest) e = absurd (omega (arith, e))

-- a level that has no more items than the level itself has none below
pub no_child : (l : Level) → level_size l ≡ length_of l → HaveNoChild l
no_child end e = tt
no_child (item s c rest) e = let low = length_low rest in (no_size c (omega (arith, e, low)), no_child rest (omega (arith, e, low)))

level_rising : (n : Bool) (ns : List Bool) (e : End) (l : Level) → BeginsFrom e l → ArePlaced (n ∷ ns) l → AreRising e (spans_of l)
level_rising n ns e end begins placed = tt
level_rising n ns e (item s c rest) begins placed =
    (begins, placed.0.span, rising_from s.lo s.hi (spans_of rest) (below-at_most s.lo s.hi placed.0.span) (level_rising n ns s.hi rest placed.0.rises placed.3))

from_first : (n : Bool) (ns : List Bool) (l : Level) → ArePlaced (n ∷ ns) l → BeginsFrom (first_end n) l
from_first n ns end placed = tt
from_first n ns (item s c rest) placed = placed.0.from

from_least : (l : Level) → BeginsFrom (below Null) l
from_least end = tt
from_least (item s c rest) = least_end s.lo

-- the spans of a level in its places rise
pub placed_rising : (parts : List Bool) (l : Level) → ArePlaced parts l → AreRising (below Null) (spans_of l)
placed_rising [] end placed = tt
placed_rising [] (item s c rest) placed = absurd placed
placed_rising (n ∷ ns) l placed = level_rising n ns (below Null) l (from_least l) placed

begins : (e : End) (spans : List Span) → AreApart e spans → BeginsFrom e (items_of spans)
begins e [] apart = tt
begins e (s ∷ rest) apart = below-at_most e s.lo apart.0

differs : (s : Span) (spans : List Span) → AreApart s.hi spans → Differs s end (items_of spans)
differs s [] apart = tt
differs s (t ∷ rest) apart = λ touch same. below-irrefl t.lo (subst (λ (e : End). IsBelow e t.lo) touch apart.0)

apart_rest : (e : End) (spans : List Span) → AreApart e spans → AreApartFrom e spans
apart_rest e [] apart = tt
apart_rest e (s ∷ rest) apart = (below-at_most e s.lo apart.0, apart.1, apart.2)

-- items for spans that don't touch are in their places
apart_placed : (n : Bool) (ns : List Bool) (e : End) (spans : List Span) → IsAtMost (first_end n) e → AreApartFrom e spans → ArePlaced (n ∷ ns) (items_of spans)
apart_placed n ns e [] from apart = tt
apart_placed n ns e (s ∷ rest) from apart =
    let lower = at_most-trans (first_end n) e s.lo from apart.0 in
    let upper = at_most-trans (first_end n) s.lo s.hi lower (below-at_most s.lo s.hi apart.1) in
    (record { span = apart.1; from = lower; rises = begins s.hi rest apart.2; differs = differs s rest apart.2 }, end_not_all ns, tt, apart_placed n ns s.hi rest upper (apart_rest s.hi rest apart.2))

items_hold : (spans : List Span) (p : End) (ps : List End) → level_holds (items_of spans) (p ∷ ps) ≡ is_inside_any spans p
items_hold [] p ps = refl
items_hold (s ∷ rest) p ps = ap₂ (λ x y. x || y) (and-true (is_inside s p)) (items_hold rest p ps)

-- a level of items without children is that of its spans
bare_items : (l : Level) → HaveNoChild l → l ≡ items_of (spans_of l)
bare_items end none = refl
bare_items (item s c rest) none = ap₂ (item s) none.0 (bare_items rest none.1)

bare_hold : (l : Level) (p : End) (ps : List End) → HaveNoChild l → level_holds l (p ∷ ps) ≡ is_inside_any (spans_of l) p
bare_hold l p ps none = ap (λ x. level_holds x (p ∷ ps)) (bare_items l none) ∙ items_hold (spans_of l) p ps

pub items_size : (spans : List Span) → level_size (items_of spans) ≡ length spans
items_size [] = refl
items_size (s ∷ rest) = omega (arith, items_size rest)

-- the items of what two levels' spans cover are those of either
pub united_level : (parts : List Bool) (a b : Level) (u : List Span) → ArePoints a b → ArePlaced parts a → ArePlaced parts b → AreUnited (spans_of a) (spans_of b) u → items_of u ≡ either parts a b
united_level [] end b u points first second united = absurd (omega (arith, points.some))
united_level [] (item s c rest) b u points first second united = absurd first
united_level (n ∷ ns) a b u points first second united =
    let apart = united.apart (first_end n) (level_rising n ns (first_end n) a (from_first n ns a first) first) (level_rising n ns (first_end n) b (from_first n ns b second) second) in
    either_is n ns a b (items_of u) first second
    (record {
      placed = apart_placed n ns (first_end n) u (at_most-same (first_end n)) apart;
      holds = λ p ps tuple.
          items_hold u p ps ∙ united.positions p ∙ sym (ap₂ (λ x y. x || y) (bare_hold a p ps points.first) (bare_hold b p ps points.second));
    })
