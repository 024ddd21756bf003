-- A span without a child laid over a level: items stay in place, and what the span or the level holds is held.
use Rattle.std.proofs.Common.{◌≡◌, ◌&&◌, ◌||◌, Bool, true, false, not, List, [], ◌∷◌, refl, ap, ap₂, sym, ◌∙◌}
use Rattle.rx_value.specs.declared.order.End.{End}
use Rattle.rx_value.specs.declared.order.Span.{Span}
use Rattle.rx_value.specs.Order.{is_at_most}
use Rattle.rx_value.specs.Spans.{is_inside}
use Rattle.rx_value.proofs.Ends.{at_most-same, at_most-trans, below-at_most}
use Rattle.rx_tree.specs.Tree.{Level}
use Rattle.rx_tree.specs.Tree.Level.{end}
use Rattle.rx_tree.specs.Member.{IsTuple, level_holds}
use Rattle.rx_tree.specs.Canonical.{ArePlaced}
use Rattle.rx_tree.specs.Weld.{weld}
use Rattle.rx_tree.specs.Union.{lay, either_child}
use Rattle.rx_tree.specs.Cuts.{before, after}
use Rattle.rx_tree.proofs.Welding.{Fits, Follows, weld_placed, weld_begins, weld_holds, glue_placed, glue_holds}
use Rattle.rx_tree.proofs.Layers.{IsNew, lay_law}
use Rattle.rx_tree.proofs.Either.{either_law}
use Rattle.rx_tree.proofs.Unique.{same_levels}
use Rattle.rx_tree.proofs.Sides.{before_placed, before_ends, before_holds, after_placed, after_begins, after_holds}
use Rattle.rx_or.specs.Cover.{covered}

-- a is the lower end's test and x the upper end's
three_parts : (h a x : Bool) → (x ≡ true → a ≡ true) → ((h && not a) || (((a && not x) && true) || (h && x))) ≡ (((a && not x) && true) || h)
three_parts true true true from = refl
three_parts true true false from = refl
three_parts true false true from = absurd (cc (from refl))
three_parts true false false from = refl
three_parts false true true from = refl
three_parts false true false from = refl
three_parts false false true from = refl
three_parts false false false from = refl

covered_fits : (n : Bool) (ns : List Bool) (s : Span) (l : Level) → ArePlaced (n ∷ ns) l → IsNew n ns s end → Fits n ns s end (after s.hi l)
covered_fits n ns s l placed new = record {
  span = new.span;
  from = new.from;
  rises = after_begins s.hi l;
  not_all = new.child.not_all;
  child = tt;
  after = after_placed n ns s.hi l placed;
}

covered_follows : (n : Bool) (ns : List Bool) (s : Span) (l : Level) → ArePlaced (n ∷ ns) l → IsNew n ns s end → Follows n ns s.lo (before s.lo l) (weld s end (after s.hi l))
covered_follows n ns s l placed new = record {
  first = before_placed n ns s.lo l placed;
  second = weld_placed n ns s end (after s.hi l) (covered_fits n ns s l placed new);
  ends = before_ends s.lo l;
  begins = weld_begins s.lo s end (after s.hi l) (at_most-same s.lo);
}

covered_holds : (n : Bool) (ns : List Bool) (s : Span) (l : Level) (p : End) (ps : List End) → ArePlaced (n ∷ ns) l → IsNew n ns s end → level_holds (covered s l) (p ∷ ps) ≡ ((is_inside s p && true) || level_holds l (p ∷ ps))
covered_holds n ns s l p ps placed new =
    glue_holds n ns s.lo (before s.lo l) (weld s end (after s.hi l)) p ps (covered_follows n ns s l placed new)
    ∙ ap₂ (λ x y. x || y) (before_holds n ns s.lo l p ps placed)
    (weld_holds n ns s end (after s.hi l) p ps (covered_fits n ns s l placed new) ∙ ap (λ y. (is_inside s p && true) || y) (after_holds n ns s.hi l p ps placed))
    ∙ three_parts (level_holds l (p ∷ ps)) (is_at_most s.lo p) (is_at_most s.hi p) (λ h. at_most-trans s.lo s.hi p (below-at_most s.lo s.hi new.span) h)

covered_same : (n : Bool) (ns : List Bool) (s : Span) (l : Level) (ps : List End) → ArePlaced (n ∷ ns) l → IsNew n ns s end → IsTuple (n ∷ ns) ps → level_holds (covered s l) ps ≡ level_holds (lay (either_child ns) s end l) ps
covered_same n ns s l [] placed new tuple = absurd tuple
covered_same n ns s l (p ∷ ps) placed new tuple =
    covered_holds n ns s l p ps placed new ∙ sym ((lay_law (either_child ns) n ns end l (either_law ns) placed s new).holds p ps tuple.1)

-- a span without a child laid over a level in place gives what laying the item gives
pub covered_lay : (n : Bool) (ns : List Bool) (s : Span) (l : Level) → ArePlaced (n ∷ ns) l → IsNew n ns s end → covered s l ≡ lay (either_child ns) s end l
covered_lay n ns s l placed new =
    same_levels (n ∷ ns) (covered s l) (lay (either_child ns) s end l)
    (glue_placed n ns s.lo (before s.lo l) (weld s end (after s.hi l)) (covered_follows n ns s l placed new))
    (lay_law (either_child ns) n ns end l (either_law ns) placed s new).placed
    (λ ps tuple. covered_same n ns s l ps placed new tuple)
