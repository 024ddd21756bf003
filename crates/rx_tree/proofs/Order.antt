-- Items in order, on either side of one of them.
use Rattle.std.proofs.Common.{◌≡◌, Bool, true, false, cond, refl, ap}
use Rattle.rx_value.specs.declared.order.End.{End}
use Rattle.rx_value.specs.declared.order.Span.{Span}
use Rattle.rx_value.specs.Order.{is_at_most}
use Rattle.rx_value.specs.Spans.{IsAtMost, IsBelow}
use Rattle.rx_value.proofs.Ends.{at_most-trans, below-at_most, at_most-below}
use Rattle.rx_tree.specs.Tree.{Level}
use Rattle.rx_tree.specs.Tree.Level.{end, item}
use Rattle.rx_tree.specs.Canonical.{BeginsFrom, Differs}
use Rattle.rx_tree.specs.Join.{join_level}
use Rattle.rx_tree.specs.Cuts.{before, after, AreInOrder}

-- an end before the first of some items is before a later one
pub first_low : (e : End) (l : Level) (i : Span) (d r : Level) → AreInOrder (join_level l (item i d r)) → BeginsFrom e (join_level l (item i d r)) → IsAtMost e i.lo
first_low e end i d r order from = from
first_low e (item u c l) i d r order from =
    at_most-trans e u.lo i.lo from (at_most-trans u.lo u.hi i.lo (below-at_most u.lo u.hi order.0) (first_low u.hi l i d r order.3 order.1))

pub right_order : (l : Level) (i : Span) (d r : Level) → AreInOrder (join_level l (item i d r)) → AreInOrder (item i d r)
right_order end i d r order = order
right_order (item u c l) i d r order = right_order l i d r order.3

pub left_begins : (e : End) (l m : Level) → BeginsFrom e (join_level l m) → BeginsFrom e l
left_begins e end m from = tt
left_begins e (item u c l) m from = from

pub left_differs : (s : Span) (c l m : Level) → Differs s c (join_level l m) → Differs s c l
left_differs s c end m differs = tt
left_differs s c (item u e l) m differs = differs

pub left_order : (l m : Level) → AreInOrder (join_level l m) → AreInOrder l
left_order end m order = tt
left_order (item u c l) m order = (order.0, left_begins u.hi l m order.1, left_differs u c l m order.2, left_order l m order.3)

-- an item of a level, with another upper end
abbrev pub till : Span → End → Span
till i hi = record { lo = i.lo; hi = hi }

-- Before an end that an item doesn't pass: the items up to it, and of the others what is before the end.
pub before_keep : (e : End) (l : Level) (i : Span) (d r : Level) → AreInOrder (join_level l (item i d r)) → IsAtMost i.hi e → before e (join_level l (item i d r)) ≡ join_level l (item i d (before e r))
before_keep e end i d r order low = rw low refl
before_keep e (item u c l) i d r order low =
    let up : is_at_most u.hi e ≡ true = at_most-trans u.hi i.lo e (first_low u.hi l i d r order.3 order.1) (at_most-trans i.lo i.hi e (below-at_most i.lo i.hi (right_order l i d r order.3).0) low) in
    rw up (ap (item u c) (before_keep e l i d r order.3 low))

-- Before an end at or below an item: what is before the end of the items up to that one.
pub before_drop : (e : End) (l : Level) (i : Span) (d r : Level) → AreInOrder (join_level l (item i d r)) → IsAtMost e i.lo → before e (join_level l (item i d r)) ≡ before e l
before_drop e end i d r order low =
    let up : is_at_most i.hi e ≡ false = at_most-below e i.lo i.hi low order.0 in
    rw (up, low) refl
before_drop e (item u c l) i d r order low =
    ap (λ x. cond (is_at_most u.hi e) (item u c x) (cond (is_at_most e u.lo) end (item (record { lo = u.lo; hi = e }) c end))) (before_drop e l i d r order.3 low)

-- Before an end within an item: the items up to it, and its part.
pub before_cut : (e : End) (l : Level) (i : Span) (d r : Level) → AreInOrder (join_level l (item i d r)) → IsBelow i.lo e → IsBelow e i.hi → before e (join_level l (item i d r)) ≡ join_level l (item (till i e) d end)
before_cut e end i d r order low high = rw (high, low) refl
before_cut e (item u c l) i d r order low high =
    let up : is_at_most u.hi e ≡ true = at_most-trans u.hi i.lo e (first_low u.hi l i d r order.3 order.1) (below-at_most i.lo e low) in
    rw up (ap (item u c) (before_cut e l i d r order.3 low high))

-- no item is before an end at or below the first
pub nothing_before : (e : End) (r : Level) → AreInOrder r → BeginsFrom e r → before e r ≡ end
nothing_before e end order from = refl
nothing_before e (item i d r) order from = before_drop e end i d r order from

-- Behind an end that an item doesn't pass: what is behind it of the items that follow.
pub after_drop : (e : End) (l : Level) (i : Span) (d r : Level) → AreInOrder (join_level l (item i d r)) → IsAtMost i.hi e → after e (join_level l (item i d r)) ≡ after e r
after_drop e end i d r order low = rw low refl
after_drop e (item u c l) i d r order low =
    let up : is_at_most u.hi e ≡ true = at_most-trans u.hi i.lo e (first_low u.hi l i d r order.3 order.1) (at_most-trans i.lo i.hi e (below-at_most i.lo i.hi (right_order l i d r order.3).0) low) in
    rw up (after_drop e l i d r order.3 low)

-- Behind an end that isn't below an item but is below its upper end: the item from there on, and those that follow.
pub after_cut : (e : End) (l : Level) (i : Span) (d r : Level) → AreInOrder (join_level l (item i d r)) → IsAtMost i.lo e → IsBelow e i.hi → after e (join_level l (item i d r)) ≡ cond (is_at_most e i.lo) (item i d r) (item (record { lo = e; hi = i.hi }) d r)
after_cut e end i d r order low high = rw high refl
after_cut e (item u c l) i d r order low high =
    let up : is_at_most u.hi e ≡ true = at_most-trans u.hi i.lo e (first_low u.hi l i d r order.3 order.1) low in
    rw up (after_cut e l i d r order.3 low high)

join_by : (e : End) (u : Span) (c x y l m : Level) (a b : Bool) → x ≡ join_level y m → cond a x (cond b (item u c (join_level l m)) (item (record { lo = e; hi = u.hi }) c (join_level l m))) ≡ join_level (cond a y (cond b (item u c l) (item (record { lo = e; hi = u.hi }) c l))) m
join_by e u c x y l m true b is = is
join_by e u c x y l m false true is = refl
join_by e u c x y l m false false is = refl

-- Behind an end at or below an item: what is behind the end of the items up to that one, the item, and those that follow.
pub after_keep : (e : End) (l : Level) (i : Span) (d r : Level) → AreInOrder (join_level l (item i d r)) → IsAtMost e i.lo → after e (join_level l (item i d r)) ≡ join_level (after e l) (item i d r)
after_keep e end i d r order low =
    let up : is_at_most i.hi e ≡ false = at_most-below e i.lo i.hi low order.0 in
    rw (up, low) refl
after_keep e (item u c l) i d r order low =
    join_by e u c (after e (join_level l (item i d r))) (after e l) l (item i d r) (is_at_most u.hi e) (is_at_most e u.lo) (after_keep e l i d r order.3 low)
