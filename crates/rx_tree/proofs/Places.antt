-- What a level whose items are in their places holds at a position.
use Rattle.std.proofs.Common.{◌≡◌, Bool, true, false, List, [], ◌∷◌, refl}
use Rattle.rx_value.specs.declared.order.End.{End}
use Rattle.rx_value.specs.declared.order.End.TheVariants.{Last}
use Rattle.rx_value.specs.declared.order.Span.{Span}
use Rattle.rx_value.specs.Spans.{IsAtMost, IsBelow, first_end}
use Rattle.rx_value.proofs.Meeting.{inside, outside_below, outside_above}
use Rattle.rx_value.proofs.Ends.{at_most-same, at_most-trans, below-at_most, below-at_most-trans, below-trans, below-cut}
use Rattle.std.proofs.Math.Bool.{or-false}
use Rattle.rx_tree.specs.Tree.{Level}
use Rattle.rx_tree.specs.Tree.Level.{end, item}
use Rattle.rx_tree.specs.Member.{IsPosition, IsTuple, level_holds, child_holds}
use Rattle.rx_tree.specs.Canonical.{BeginsFrom, IsPlaced, ArePlaced}

pub first_cut : (n : Bool) → IsPosition n (first_end n)
first_cut true = record { from = refl; cut = refl }
first_cut false = record { from = refl; cut = refl }

-- the first positions of all parts
abbrev pub firsts : List Bool → List End
firsts [] = []
firsts (n ∷ ns) = first_end n ∷ firsts ns

pub firsts_fit : (ns : List Bool) → IsTuple ns (firsts ns)
firsts_fit [] = tt
firsts_fit (n ∷ ns) = (first_cut n, firsts_fit ns)

-- nothing is held below the first item
pub nothing_before : (n : Bool) (ns : List Bool) (l : Level) (e p : End) (ps : List End) → ArePlaced (n ∷ ns) l → BeginsFrom e l → IsBelow p e → level_holds l (p ∷ ps) ≡ false
nothing_before n ns end e p ps placed begins low = refl
nothing_before n ns (item s c rest) e p ps placed begins low =
    let before : IsBelow p s.lo = below-at_most-trans p e s.lo low begins in
    let after : IsBelow p s.hi = below-trans p s.lo s.hi before placed.0.span in
    rw (outside_below s p before) (nothing_before n ns rest s.hi p ps placed.3 placed.0.rises after)

-- inside the first item's span the child alone decides
pub held_inside : (n : Bool) (ns : List Bool) (s : Span) (c rest : Level) (p : End) (ps : List End) → ArePlaced (n ∷ ns) (item s c rest) → IsAtMost s.lo p → IsBelow p s.hi → level_holds (item s c rest) (p ∷ ps) ≡ child_holds c ps
held_inside n ns s c rest p ps placed from to =
    rw (inside s p from to, nothing_before n ns rest s.hi p ps placed.3 placed.0.rises to) (or-false (child_holds c ps))

-- at the first item's lower end
pub held_at_lower : (n : Bool) (ns : List Bool) (s : Span) (c rest : Level) (ps : List End) → ArePlaced (n ∷ ns) (item s c rest) → level_holds (item s c rest) (s.lo ∷ ps) ≡ child_holds c ps
held_at_lower n ns s c rest ps placed = held_inside n ns s c rest s.lo ps placed (at_most-same s.lo) placed.0.span

-- from the first item's upper end on the items after it decide
pub held_after : (s : Span) (c rest : Level) (p : End) (ps : List End) → IsAtMost s.hi p → level_holds (item s c rest) (p ∷ ps) ≡ level_holds rest (p ∷ ps)
held_after s c rest p ps e = rw (outside_above s p e) refl

-- the lower end of an item is a position of its part
pub lower_position : (n : Bool) (s : Span) (c rest : Level) → IsPlaced n s c rest → IsPosition n s.lo
lower_position n s c rest placed = record { from = placed.from; cut = below-cut s.lo s.hi placed.span }

-- the upper end of an item, where it is a cut, is a position of its part
pub upper_position : (n : Bool) (s : Span) (c rest : Level) → IsPlaced n s c rest → IsBelow s.hi Last → IsPosition n s.hi
upper_position n s c rest placed cut = record {
  from = at_most-trans (first_end n) s.lo s.hi placed.from (below-at_most s.lo s.hi placed.span);
  cut = cut;
}
