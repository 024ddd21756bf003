-- Either of two levels: the only level in place that holds what they do, which begins and ends where they do.
use Rattle.std.proofs.Common.{◌≡◌, ◌||◌, Bool, true, false, cond, List, [], ◌∷◌, Some, None, refl, ap, sym, ◌∙◌}
use Rattle.std.proofs.Math.Bool.{or_comm}
use Rattle.std.specs.declared.cmp.Ordering.{Ordering}
use Rattle.std.specs.declared.cmp.Ordering.TheVariants.{Less, Equal, Greater}
use Rattle.rx_value.specs.declared.order.End.{End}
use Rattle.rx_value.specs.declared.order.Span.{Span}
use Rattle.rx_value.specs.Order.{end_cmp, is_at_most}
use Rattle.rx_value.specs.Spans.{IsAtMost, IsBelow, IsSpan, later, earlier}
use Rattle.rx_value.proofs.Ends.{at_most-same, at_most-trans, at_most-from_equal, below-at_most}
use Rattle.rx_value.proofs.Meeting.{earlier_at_most}
use Rattle.rx_tree.specs.Tree.{Level}
use Rattle.rx_tree.specs.Tree.Level.{end, item}
use Rattle.rx_tree.specs.Member.{IsTuple, level_holds}
use Rattle.rx_tree.specs.Canonical.{BeginsFrom, ArePlaced}
use Rattle.rx_tree.specs.Meet.{piece_of, put_piece}
use Rattle.rx_tree.specs.Weld.{weld, EndsBy}
use Rattle.rx_tree.specs.Union.{piece_between, overlaid, lay, either_child, either}
use Rattle.rx_tree.specs.Cuts.{AreInOrder}
use Rattle.rx_tree.proofs.Welding.{weld_ends, begins_later}
use Rattle.rx_tree.proofs.Layers.{IsNew, AreLaid, lay_law, lay_all_law}
use Rattle.rx_tree.proofs.Either.{either_law}
use Rattle.rx_tree.proofs.Sides.{placed_order}
use Rattle.rx_tree.proofs.Unique.{same_levels}

-- either of two levels in place is in place, and holds what one of them does
pub either_laid : (n : Bool) (ns : List Bool) (a b : Level) → ArePlaced (n ∷ ns) a → ArePlaced (n ∷ ns) b → AreLaid n ns a b (either (n ∷ ns) a b)
either_laid n ns a b first second = lay_all_law (either_child ns) n ns a b (either_law ns) first second

held_same : (n : Bool) (ns : List Bool) (a b u v : Level) → AreLaid n ns a b u → AreLaid n ns a b v → (ps : List End) → IsTuple (n ∷ ns) ps → level_holds u ps ≡ level_holds v ps
held_same n ns a b u v one other [] tuple = absurd tuple
held_same n ns a b u v one other (p ∷ ps) tuple = one.holds p ps tuple.1 ∙ sym (other.holds p ps tuple.1)

-- and a level in place that holds what one of two does is what either gives
pub either_is : (n : Bool) (ns : List Bool) (a b u : Level) → ArePlaced (n ∷ ns) a → ArePlaced (n ∷ ns) b → AreLaid n ns a b u → u ≡ either (n ∷ ns) a b
either_is n ns a b u first second laid =
    let law = either_laid n ns a b first second in
    same_levels (n ∷ ns) u (either (n ∷ ns) a b) laid.placed law.placed (held_same n ns a b u (either (n ∷ ns) a b) laid law)

or_itself : (x : Bool) → x ≡ (x || x)
or_itself true = refl
or_itself false = refl

-- a level and itself give that level
pub either_itself : (parts : List Bool) (a : Level) → ArePlaced parts a → a ≡ either parts a a
either_itself [] end placed = refl
either_itself [] (item s c rest) placed = absurd placed
either_itself (n ∷ ns) a placed = either_is n ns a a a placed placed (record { placed = placed; holds = λ p ps tuple. or_itself (level_holds a (p ∷ ps)) })

-- and so do a level without items and another
pub either_none : (parts : List Bool) (b : Level) → ArePlaced parts b → b ≡ either parts end b
either_none [] end placed = refl
either_none [] (item s c rest) placed = absurd placed
either_none (n ∷ ns) b placed = refl

-- it is the same which of two levels comes first
pub either_turn : (parts : List Bool) (a b : Level) → ArePlaced parts a → ArePlaced parts b → either parts a b ≡ either parts b a
either_turn [] a b first second = refl
either_turn (n ∷ ns) a b first second =
    let law = either_laid n ns a b first second in
    either_is n ns b a (either (n ∷ ns) a b) second first
    (record { placed = law.placed; holds = λ p ps tuple. law.holds p ps tuple ∙ or_comm (level_holds a (p ∷ ps)) (level_holds b (p ∷ ps)) })

pub either_begins : (n : Bool) (ns : List Bool) (e : End) (a b : Level) → ArePlaced (n ∷ ns) a → ArePlaced (n ∷ ns) b → BeginsFrom e a → BeginsFrom e b → BeginsFrom e (either (n ∷ ns) a b)
either_begins n ns e end b first second from other = other
either_begins n ns e (item s c rest) b first second from other =
    let after = either_laid n ns rest b first.3 second in
    let new : IsNew n ns s c = record { span = first.0.span; from = first.0.from; child = record { placed = first.2; not_all = first.1 } } in
    (lay_law (either_child ns) n ns c (either (n ∷ ns) rest b) (either_law ns) after.placed s new).begins e from
    (either_begins n ns e rest b first.3 second (begins_later e s.hi rest (at_most-trans e s.lo s.hi from (below-at_most s.lo s.hi first.0.span)) first.0.rises) other)

greater_span : (a b : End) → end_cmp a b ≡ Greater → IsBelow b a
greater_span a b e = ap (λ o. elim o [ Greater ↦ false | _ ↦ true ]) e

earlier_first : (a b : End) → IsAtMost (earlier a b) a
earlier_first a b = earlier_at_most a b a ∙ ap (λ x. x || is_at_most b a) (at_most-same a)

-- the items of a level with what an item has from an end on laid over them
abbrev left_over : (Level → Level → Level) → Span → Level → End → Level → Level
left_over f s c e rest = elim (end_cmp s.hi e) [ Greater ↦ lay f (record { lo = e; hi = s.hi }) c rest | _ ↦ rest ]

put_ends : (e lo hi : End) (c rest : Level) (o : Ordering) → IsAtMost hi e → EndsBy e rest → EndsBy e (put_piece (piece_of (elim o [ Less ↦ Some (record { lo = lo; hi = hi }) | _ ↦ None ]) (Some c)) rest)
put_ends e lo hi c rest Less up by = weld_ends e (record { lo = lo; hi = hi }) c rest up by
put_ends e lo hi c rest Equal up by = by
put_ends e lo hi c rest Greater up by = by

between_ends : (e lo hi : End) (c rest : Level) → IsAtMost hi e → EndsBy e rest → EndsBy e (piece_between lo hi c rest)
between_ends e lo hi c rest up by = put_ends e lo hi c rest (end_cmp lo hi) up by

over_ends : (f : Level → Level → Level) (e : End) (s : Span) (c : Level) (t : Span) (d left : Level) → IsSpan s → IsSpan t → IsAtMost s.hi e → IsAtMost t.hi e → EndsBy e left → EndsBy e (overlaid f s c t d left)
over_ends f e s c t d left first second up high by =
    between_ends e s.lo t.lo c _ (at_most-trans t.lo t.hi e (below-at_most t.lo t.hi second) high)
    (between_ends e t.lo s.lo d _ (at_most-trans s.lo s.hi e (below-at_most s.lo s.hi first) up)
    (between_ends e (later s.lo t.lo) (earlier s.hi t.hi) (f c d) _ (at_most-trans (earlier s.hi t.hi) s.hi e (earlier_first s.hi t.hi) up)
    (between_ends e s.hi t.hi d left high by)))

left_ends : (f : Level → Level → Level) (e : End) (s : Span) (c : Level) (low : End) (rest : Level) (o : Ordering) → end_cmp s.hi low ≡ o → EndsBy e rest → ((u : Span) → IsSpan u → u.hi ≡ s.hi → EndsBy e (lay f u c rest))
    → EndsBy e (elim o [ Greater ↦ lay f (record { lo = low; hi = s.hi }) c rest | _ ↦ rest ])
left_ends f e s c low rest Less is by laid = by
left_ends f e s c low rest Equal is by laid = by
left_ends f e s c low rest Greater is by laid = laid (record { lo = low; hi = s.hi }) (greater_span s.hi low is) refl

ends_by : (f : Level → Level → Level) (e : End) (s : Span) (c : Level) (t : Span) (d rest laid left : Level) (a b : Bool) → IsSpan s → IsSpan t → IsAtMost s.hi e → EndsBy e (item t d rest) → EndsBy e laid → EndsBy e left
    → EndsBy e (cond a (weld t d laid) (cond b (weld s c (item t d rest)) (overlaid f s c t d left)))
ends_by f e s c t d rest laid left true b first second up by after over = weld_ends e t d laid by.0 after
ends_by f e s c t d rest laid left false true first second up by after over = weld_ends e s c (item t d rest) up by
ends_by f e s c t d rest laid left false false first second up by after over = over_ends f e s c t d left first second up by.0 over

-- what comes of laying an item over others ends where they all do
pub lay_ends : (f : Level → Level → Level) (e : End) (c l : Level) (s : Span) → AreInOrder l → IsSpan s → IsAtMost s.hi e → EndsBy e l → EndsBy e (lay f s c l)
lay_ends f e c end s order span up by = (up, tt)
lay_ends f e c (item t d rest) s order span up by =
    ends_by f e s c t d rest (lay f s c rest) (left_over f s c t.hi rest) (is_at_most t.hi s.lo) (is_at_most s.hi t.lo) span order.0 up by
    (lay_ends f e c rest s order.3 span up by.1)
    (left_ends f e s c t.hi rest (end_cmp s.hi t.hi) refl by.1 (λ u is at. lay_ends f e c rest u order.3 is (at_most-trans u.hi s.hi e (at_most-from_equal u.hi s.hi at) up) by.1))

pub either_ends : (n : Bool) (ns : List Bool) (e : End) (a b : Level) → ArePlaced (n ∷ ns) a → ArePlaced (n ∷ ns) b → EndsBy e a → EndsBy e b → EndsBy e (either (n ∷ ns) a b)
either_ends n ns e end b first second by other = other
either_ends n ns e (item s c rest) b first second by other =
    let after = either_laid n ns rest b first.3 second in
    lay_ends (either_child ns) e c (either (n ∷ ns) rest b) s (placed_order n ns (either (n ∷ ns) rest b) after.placed) first.0.span by.0 (either_ends n ns e rest b first.3 second by.1 other)
