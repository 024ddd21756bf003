-- What a span has in common with the sides of an item of a level.
use Rattle.std.proofs.Common.{◌≡◌, Bool, true, false, cond, ◌≤◌, ℕ, List, [], Option, None, arith, refl, ap, sym, ◌∙◌, subst}
use Rattle.slab.specs.Slab.{Slab}
use Rattle.rx_value.specs.declared.order.End.{End}
use Rattle.rx_value.specs.declared.order.Span.{Span}
use Rattle.rx_value.specs.Order.{is_at_most}
use Rattle.rx_value.specs.Spans.{IsAtMost, meet_span}
use Rattle.rx_value.proofs.Ends.{at_most-trans, below-at_most}
use Rattle.rx_tree.specs.Tree.{Level, level_size}
use Rattle.rx_tree.specs.Tree.Level.{end, item}
use Rattle.rx_tree.specs.Canonical.{BeginsFrom, ArePlaced}
use Rattle.rx_tree.specs.Cuts.{AreInOrder}
use Rattle.rx_tree.specs.Join.{join_level}
use Rattle.rx_tree.specs.Weld.{EndsBy}
use Rattle.rx_tree.specs.Meet.{piece_of, put_piece, meet_child, across}
use Rattle.rx_tree.proofs.Order.{first_low, right_order}
use Rattle.rx_level.specs.declared.nodes.Node.{Node}
use Rattle.rx_level.specs.Step.{Lent, level_of}
use Rattle.rx_cut.proofs.Clipped.{none_below, none_above}

-- the items before one end where it begins or before
pub ends_by : (l : Level) (t : Span) (d r : Level) → AreInOrder (join_level l (item t d r)) → EndsBy t.lo l
ends_by end t d r order = tt
ends_by (item u c rest) t d r order = (first_low u.hi rest t d r order.3 order.1, ends_by rest t d r order.3)

-- a span has nothing in common with items that end where it begins or before
pub across_below : (f : Level → Level) (c : Level) (s : Span) (e : End) (h : Level) → EndsBy e h → IsAtMost e s.lo → across f c s h ≡ end
across_below f c s e end ends low = refl
across_below f c s e (item t d rest) ends low =
    ap (λ m. put_piece (piece_of m (meet_child f c d)) (across f c s rest)) (none_below s t (meet_span s t) refl (at_most-trans t.hi e s.lo ends.0 low))
    ∙ across_below f c s e rest ends.1 low

-- nor with items that begin where it ends or later
pub across_above : (f : Level → Level) (c : Level) (s : Span) (e : End) (h : Level) → AreInOrder h → BeginsFrom e h → IsAtMost s.hi e → across f c s h ≡ end
across_above f c s e end order begins low = refl
across_above f c s e (item t d rest) order begins low =
    let up : IsAtMost s.hi t.lo = at_most-trans s.hi e t.lo low begins in
    ap (λ m. put_piece (piece_of m (meet_child f c d)) (across f c s rest)) (none_above s t (meet_span s t) refl up)
    ∙ across_above f c s t.hi rest order.3 order.1 (at_most-trans s.hi t.lo t.hi up (below-at_most t.lo t.hi order.0))

-- What is kept of a side of a level has all in common with a span that the side has.
pub record Keeps (a : Slab Node) (s : Span) (side kept : Option ℕ) : Type 0 where
  pub lent : Lent a [] kept
  pub placed : (ns : List Bool) → ArePlaced ns (level_of a side) → ArePlaced ns (level_of a kept)
  pub few : level_size (level_of a kept) ≤ level_size (level_of a side)
  pub same : (f : Level → Level) (c : Level) → across f c s (level_of a kept) ≡ across f c s (level_of a side)

keeps_by : (a : Slab Node) (s : Span) (side : Option ℕ) (skipped : Bool) → Lent a [] side
    → (skipped ≡ true → (f : Level → Level) (c : Level) → across f c s (level_of a side) ≡ end) → Keeps a s side (cond skipped None side)
keeps_by a s side true lent nothing = record { lent = tt; placed = λ ns p. tt; few = omega arith; same = λ f c. sym (nothing refl f c) }
keeps_by a s side false lent nothing = record { lent = lent; placed = λ ns p. p; few = omega arith; same = λ f c. refl }

pub keeps_before : (a : Slab Node) (s t : Span) (root child l r kept : Option ℕ) → level_of a root ≡ join_level (level_of a l) (item t (level_of a child) (level_of a r)) → AreInOrder (level_of a root) → Lent a [] l
    → kept ≡ cond (is_at_most t.lo s.lo) None l → Keeps a s l kept
keeps_before a s t root child l r kept opened order lent is =
    let ends = ends_by (level_of a l) t (level_of a child) (level_of a r) (subst AreInOrder opened order) in
    subst (Keeps a s l) (sym is) (keeps_by a s l (is_at_most t.lo s.lo) lent (λ low f c. across_below f c s t.lo (level_of a l) ends low))

pub keeps_after : (a : Slab Node) (s t : Span) (root child l r kept : Option ℕ) → level_of a root ≡ join_level (level_of a l) (item t (level_of a child) (level_of a r)) → AreInOrder (level_of a root) → Lent a [] r
    → kept ≡ cond (is_at_most s.hi t.hi) None r → Keeps a s r kept
keeps_after a s t root child l r kept opened order lent is =
    let on = right_order (level_of a l) t (level_of a child) (level_of a r) (subst AreInOrder opened order) in
    subst (Keeps a s r) (sym is) (keeps_by a s r (is_at_most s.hi t.hi) lent (λ low f c. across_above f c s t.hi (level_of a r) on.3 on.1 low))
