-- Levels that are met with the part of another that they can reach.
use Rattle.std.proofs.Common.{◌≡◌, ◌≤◌, ◌+◌, Bool, List, [], ◌∷◌, refl, ap, ap₂, sym, ◌∙◌, subst, arith}
use Rattle.rx_value.specs.declared.order.End.{End}
use Rattle.rx_value.specs.declared.order.Span.{Span}
use Rattle.rx_value.specs.Spans.{IsAtMost}
use Rattle.rx_value.proofs.Ends.{at_most-trans, below-at_most}
use Rattle.rx_tree.specs.Tree.{Level, level_size}
use Rattle.rx_tree.specs.Tree.Level.{end, item}
use Rattle.rx_tree.specs.Canonical.{BeginsFrom, ArePlaced}
use Rattle.rx_tree.specs.Cuts.{AreInOrder}
use Rattle.rx_tree.specs.Join.{join_level}
use Rattle.rx_tree.specs.Weld.{EndsBy, glue}
use Rattle.rx_tree.specs.Meet.{across, both}
use Rattle.rx_tree.proofs.Joining.{size-join, across-join}
use Rattle.rx_tree.proofs.Order.{left_begins, left_differs, right_order}
use Rattle.rx_tree.proofs.Welding.{begins_later}
use Rattle.rx_tree.proofs.Sides.{placed_order}
use Rattle.rx_level.proofs.Steps.{join-end, join_assoc}
use Rattle.rx_weld.proofs.Seamless.{glue_nothing}
use Rattle.rx_and.specs.Fellows.{AreFellows}
use Rattle.rx_and.specs.Narrow.{IsFront, IsBack}
use Rattle.rx_and.proofs.Pieces.{across_are_apart}
use Rattle.rx_and.proofs.Reached.{across_below, across_above, ends_by}

pub front_all : (e : End) (l : Level) → IsFront e l l
front_all e l = record { rest = end; is = sym (join-end l); begins = tt }

pub back_all : (e : End) (l : Level) → IsBack e l l
back_all e l = record { rest = end; is = refl; ends = tt }

begins_joined : (e : End) (a : Level) (t : Span) (d r : Level) → BeginsFrom e a → IsAtMost e t.lo → BeginsFrom e (join_level a (item t d r))
begins_joined e end t d r begins low = low
begins_joined e (item u c rest) t d r begins low = begins

-- the front of what stands before an item that begins at the end or later
pub front_left : (e : End) (f whole l : Level) (t : Span) (d r : Level) → whole ≡ join_level l (item t d r) → IsAtMost e t.lo → IsFront e f l → IsFront e f whole
front_left e f whole l t d r opened low front = record {
  rest = join_level front.rest (item t d r);
  is = opened ∙ ap (λ x. join_level x (item t d r)) front.is ∙ join_assoc f front.rest (item t d r);
  begins = begins_joined e front.rest t d r front.begins low;
}

ends_later : (e f : End) (l : Level) → IsAtMost e f → EndsBy e l → EndsBy f l
ends_later e f end low ends = tt
ends_later e f (item t d rest) low ends = (at_most-trans t.hi e f ends.0 low, ends_later e f rest low ends.1)

ends_joined : (e : End) (a b : Level) → EndsBy e a → EndsBy e b → EndsBy e (join_level a b)
ends_joined e end b first second = second
ends_joined e (item t d rest) b first second = (first.0, ends_joined e rest b first.1 second)

-- the back of what stands behind an item that ends at the end or before
pub back_right : (e : End) (b whole l : Level) (t : Span) (d r : Level) → whole ≡ join_level l (item t d r) → AreInOrder whole → IsAtMost t.hi e → IsBack e b r → IsBack e b whole
back_right e b whole l t d r opened order low back =
    let all = subst AreInOrder opened order in
    let on = right_order l t d r all in
    record {
      rest = join_level l (item t d back.rest);
      is = opened ∙ ap (λ x. join_level l (item t d x)) back.is ∙ sym (join_assoc l (item t d back.rest) b);
      ends = ends_joined e l (item t d back.rest) (ends_later t.lo e l (at_most-trans t.lo t.hi e (below-at_most t.lo t.hi on.0) low) (ends_by l t d r all)) (low, back.ends);
    }

right_part : (a b : Level) → AreInOrder (join_level a b) → AreInOrder b
right_part end b order = order
right_part (item s c rest) b order = right_part rest b order.3

glue_none : (x y : Level) → y ≡ end → glue x end ≡ x → glue x y ≡ x
glue_none x y none is = ap (glue x) none ∙ is

front_across : (f : Level → Level) (c : Level) (s : Span) (e : End) (a r : Level) → AreInOrder (join_level a r) → BeginsFrom e r → IsAtMost s.hi e → across f c s (join_level a r) ≡ across f c s a
front_across f c s e a r order begins low =
    across-join f c s a r
    ∙ glue_none (across f c s a) (across f c s r) (across_above f c s e r (right_part a r order) begins low) (glue_nothing (across f c s a) (across_are_apart f c s a))

back_across : (f : Level → Level) (c : Level) (s : Span) (e : End) (r b : Level) → EndsBy e r → IsAtMost e s.lo → across f c s (join_level r b) ≡ across f c s b
back_across f c s e r b ends low = across-join f c s r b ∙ ap (λ x. glue x (across f c s b)) (across_below f c s e r ends low)

both_front_by : (e : End) (l a r : Level) → AreInOrder (join_level a r) → BeginsFrom e r → EndsBy e l → both l (join_level a r) ≡ both l a
both_front_by e end a r order begins ends = refl
both_front_by e (item s c rest) a r order begins ends = ap₂ glue (front_across (both c) c s e a r order begins ends.0) (both_front_by e rest a r order begins ends.1)

both_back_by : (e : End) (l r b : Level) → AreInOrder l → BeginsFrom e l → EndsBy e r → both l (join_level r b) ≡ both l b
both_back_by e end r b order begins ends = refl
both_back_by e (item s c rest) r b order begins ends =
    ap₂ glue (back_across (both c) c s e r b ends begins) (both_back_by e rest r b order.3 (begins_later e s.hi rest (at_most-trans e s.lo s.hi begins (below-at_most s.lo s.hi order.0)) order.1) ends)

placed_right : (ns : List Bool) (a b : Level) → ArePlaced ns (join_level a b) → ArePlaced ns b
placed_right ns end b placed = placed
placed_right [] (item s c rest) b placed = absurd placed
placed_right (n ∷ ns) (item s c rest) b placed = placed_right (n ∷ ns) rest b placed.3

placed_left : (ns : List Bool) (a b : Level) → ArePlaced ns (join_level a b) → ArePlaced ns a
placed_left ns end b placed = tt
placed_left [] (item s c rest) b placed = absurd placed
placed_left (n ∷ ns) (item s c rest) b placed = (
  record { span = placed.0.span; from = placed.0.from; rises = left_begins s.hi rest b placed.0.rises; differs = left_differs s c rest b placed.0.differs },
  placed.1,
  placed.2,
  placed_left (n ∷ ns) rest b placed.3,
)

pub order_of : (ns : List Bool) (l : Level) → ArePlaced ns l → AreInOrder l
order_of ns end placed = tt
order_of [] (item s c rest) placed = absurd placed
order_of (n ∷ ns) (item s c rest) placed = placed_order n ns (item s c rest) placed

-- What a side of a level has in common with another level it has in common with a part of that.
pub record Side (side h part : Level) : Type 0 where
  pub fellows : AreFellows side part
  pub same : both side part ≡ both side h
  pub few : level_size part ≤ level_size h

pub front_side : (whole l : Level) (s t : Span) (d r h f : Level) → s ≡ t → whole ≡ join_level l (item t d r) → AreFellows whole h → IsFront s.lo f h → Side l h f
front_side whole l s t d r h f is opened both_placed given =
    let front : IsFront t.lo f h = subst (λ (x : Span). IsFront x.lo f h) is given in
    let ns = both_placed.parts in
    let all = subst (ArePlaced ns) opened both_placed.first in
    let other = subst (ArePlaced ns) front.is both_placed.second in
    let size : level_size h ≡ level_size f + level_size front.rest = ap level_size front.is ∙ size-join f front.rest in
    record {
      fellows = record { parts = ns; first = placed_left ns l (item t d r) all; second = placed_left ns f front.rest other };
      same = sym (ap (both l) front.is ∙ both_front_by t.lo l f front.rest (order_of ns (join_level f front.rest) other) front.begins (ends_by l t d r (order_of ns (join_level l (item t d r)) all)));
      few = omega (arith, size);
    }

pub back_side : (whole l : Level) (s t : Span) (d r h b : Level) → s ≡ t → whole ≡ join_level l (item t d r) → AreFellows whole h → IsBack s.hi b h → Side r h b
back_side whole l s t d r h b is opened both_placed given =
    let back : IsBack t.hi b h = subst (λ (x : Span). IsBack x.hi b h) is given in
    let ns = both_placed.parts in
    let all = subst (ArePlaced ns) opened both_placed.first in
    let other = subst (ArePlaced ns) back.is both_placed.second in
    let on = right_order l t d r (order_of ns (join_level l (item t d r)) all) in
    let size : level_size h ≡ level_size back.rest + level_size b = ap level_size back.is ∙ size-join back.rest b in
    record {
      fellows = record { parts = ns; first = placed_right ns (join_level l (item t d end)) r (subst (ArePlaced ns) (sym (join_assoc l (item t d end) r)) all); second = placed_right ns back.rest b other };
      same = sym (ap (both r) back.is ∙ both_back_by t.hi r back.rest b on.3 on.1 back.ends);
      few = omega (arith, size);
    }
