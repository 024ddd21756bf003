-- Levels in their places over the same parts: what they have in common, and their parts.
use Rattle.std.proofs.Common.{◌≡◌, ◌&&◌, Bool, true, false, ℕ, List, [], ◌∷◌, Option, Some, None, refl, ap, sym, ◌∙◌, subst}
use Rattle.slab.specs.Slab.{Slab}
use Rattle.rx_value.specs.declared.order.Span.{Span}
use Rattle.rx_value.specs.Spans.{IsSpan}
use Rattle.rx_tree.specs.Tree.{Level}
use Rattle.rx_tree.specs.Tree.Level.{end, item}
use Rattle.rx_tree.specs.Member.{level_holds}
use Rattle.rx_tree.specs.Canonical.{ArePlaced, IsCanonicalLevel}
use Rattle.rx_tree.specs.Join.{join_level}
use Rattle.rx_tree.specs.Meet.{across, both}
use Rattle.rx_tree.proofs.Joining.{parted}
use Rattle.rx_tree.proofs.Intersection.{both_law}
use Rattle.rx_tree.proofs.Unique.{same_levels}
use Rattle.rx_level.specs.declared.nodes.Node.{Node}
use Rattle.rx_level.specs.Step.{level_of}
use Rattle.rx_tree.specs.Cuts.{AreInOrder}
use Rattle.rx_tree.proofs.Sides.{placed_order}
use Rattle.rx_cut.specs.Clip.{clipped}
use Rattle.rx_cut.proofs.Clipped.{across_clipped}
use Rattle.rx_and.specs.Fellows.{AreFellows, MayHangBelow}
use Rattle.rx_weld.proofs.Seamless.{glue_nothing}
use Rattle.rx_and.proofs.Narrowed.{order_of}
use Rattle.rx_and.proofs.Pieces.{across_are_apart}
use Rattle.rx_cut.proofs.Staying.{Stays}

and_turn : (a b : Bool) → (a && b) ≡ (b && a)
and_turn true true = refl
and_turn true false = refl
and_turn false true = refl
and_turn false false = refl

and_same : (a : Bool) → (a && a) ≡ a
and_same true = refl
and_same false = refl

-- it is the same which of two levels is met with the other
pub both_turn : (a b : Level) → AreFellows a b → both b a ≡ both a b
both_turn a b f =
    let one = both_law f.parts a f.first in
    let other = both_law f.parts b f.second in
    same_levels f.parts (both b a) (both a b) (other.placed a f.first) (one.placed b f.second)
    (λ ps fits. other.holds a ps f.first ∙ and_turn (level_holds b ps) (level_holds a ps) ∙ sym (one.holds b ps f.second))

-- a level has itself in common with itself
pub both_itself : (ns : List Bool) (a : Level) → ArePlaced ns a → both a a ≡ a
both_itself ns a placed =
    let law = both_law ns a placed in
    same_levels ns (both a a) a (law.placed a placed) placed (λ ps fits. law.holds a ps placed ∙ and_same (level_holds a ps))

pub both_one : (a b : Level) → a ≡ b → AreFellows a b → a ≡ both a b
both_one a b same f = sym (both_itself f.parts a f.first) ∙ ap (both a) same

pub turned : (a b : Level) → AreFellows a b → AreFellows b a
turned a b f = record { parts = f.parts; first = f.second; second = f.first }

-- what a level is made of, beside another
pub record Split (l : Level) (s : Span) (c r h : Level) : Type 0 where
  pub span : IsSpan s
  pub child : MayHangBelow c h
  pub left : AreFellows l h
  pub right : AreFellows r h

not_placed : (l : Level) (s : Span) (c r : Level) → ArePlaced [] (join_level l (item s c r)) → ⊥
not_placed end s c r placed = placed
not_placed (item t d l) s c r placed = placed

split_by : (ns : List Bool) (l : Level) (s : Span) (c r h : Level) → ArePlaced ns (join_level l (item s c r)) → ArePlaced ns h → Split l s c r h
split_by [] l s c r h placed other = absurd (not_placed l s c r placed)
split_by (n ∷ ns) l s c r h placed other =
    let p = parted n ns l s c r placed in
    record {
      span = p.on.0.span;
      child = record { nullable = n; parts = ns; below = p.on.2; placed = other };
      left = record { parts = n ∷ ns; first = p.left; second = other };
      right = record { parts = n ∷ ns; first = p.on.3; second = other };
    }

pub split : (whole l : Level) (s : Span) (c r h : Level) → whole ≡ join_level l (item s c r) → AreFellows whole h → Split l s c r h
split whole l s c r h opened f = split_by f.parts l s c r h (subst (ArePlaced f.parts) opened f.first) f.second

-- and what is below one of its items
pub record SplitBelow (c l : Level) (d r : Level) : Type 0 where
  pub child : AreFellows c d
  pub left : MayHangBelow c l
  pub right : MayHangBelow c r

pub split_below : (c whole l : Level) (s : Span) (d r : Level) → whole ≡ join_level l (item s d r) → MayHangBelow c whole → SplitBelow c l d r
split_below c whole l s d r opened f =
    let p = parted f.nullable f.parts l s d r (subst (ArePlaced (f.nullable ∷ f.parts)) opened f.placed) in
    record {
      child = record { parts = f.parts; first = f.below; second = p.on.2 };
      left = record { nullable = f.nullable; parts = f.parts; below = f.below; placed = p.left };
      right = record { nullable = f.nullable; parts = f.parts; below = f.below; placed = p.on.3 };
    }

-- the same in a later store
pub fellows_later : (a b : Slab Node) (g h : Option ℕ) → Stays a b g → Stays a b h → AreFellows (level_of a g) (level_of a h) → AreFellows (level_of b g) (level_of b h)
fellows_later a b g h one other f = record { parts = f.parts; first = subst (ArePlaced f.parts) (sym one.level) f.first; second = subst (ArePlaced f.parts) (sym other.level) f.second }

-- and of what is kept of a side
pub hangs_later : (a b : Slab Node) (c side kept : Option ℕ) → ((ns : List Bool) → ArePlaced ns (level_of a side) → ArePlaced ns (level_of a kept)) → Stays a b c → Stays a b kept → MayHangBelow (level_of a c) (level_of a side)
    → MayHangBelow (level_of b c) (level_of b kept)
hangs_later a b c side kept stands one other f = record {
  nullable = f.nullable;
  parts = f.parts;
  below = subst (ArePlaced f.parts) (sym one.level) f.below;
  placed = subst (ArePlaced (f.nullable ∷ f.parts)) (sym other.level) (stands (f.nullable ∷ f.parts) f.placed);
}

pub hung_order : (c h : Level) → MayHangBelow c h → AreInOrder h
hung_order c h f = placed_order f.nullable f.parts h f.placed

-- what an item without a child has in common with a level is what the level has within its span
pub bare_met : (a : Slab Node) (child h : Option ℕ) (s : Span) → child ≡ None → IsSpan s → MayHangBelow (level_of a child) (level_of a h)
    → clipped s (level_of a h) ≡ across (both (level_of a child)) (level_of a child) s (level_of a h)
bare_met a child h s none span f =
    sym (across_clipped (both (level_of a child)) s (level_of a h) span (hung_order (level_of a child) (level_of a h) f))
    ∙ ap (λ x. across (both (level_of a child)) x s (level_of a h)) (ap (level_of a) (sym none))

-- two handles of one level: what both have in common is the level
pub met_itself : (parts : List Bool) (s : Slab Node) (g h : ℕ) → g ≡ h → IsCanonicalLevel parts (level_of s (Some g)) → level_of s (Some g) ≡ both (level_of s (Some g)) (level_of s (Some h))
met_itself parts s g h same canonical =
    sym (both_itself parts (level_of s (Some g)) canonical.placed) ∙ ap (λ x. both (level_of s (Some g)) (level_of s (Some x))) same

-- an item without a child, as a level, has in common with a level what that has within its span
bare_first : (s : Span) (h : Level) → IsSpan s → AreInOrder h → clipped s h ≡ both (item s end end) h
bare_first s h span order = sym (across_clipped (both end) s h span order) ∙ sym (glue_nothing (across (both end) end s h) (across_are_apart (both end) end s h))

-- the span of a level of one item without a child
pub bare_span_is : (parts : List Bool) (l : Level) (s : Span) → l ≡ item s end end → ArePlaced parts l → IsSpan s
bare_span_is parts l s is placed = (order_of parts (item s end end) (subst (ArePlaced parts) is placed)).0

pub first_bare : (g h : Level) (s : Span) → AreFellows g h → g ≡ item s end end → clipped s h ≡ both g h
first_bare g h s f is = bare_first s h (bare_span_is f.parts g s is f.first) (order_of f.parts h f.second) ∙ ap (λ x. both x h) (sym is)

pub second_bare : (g h : Level) (s : Span) → AreFellows g h → h ≡ item s end end → clipped s g ≡ both g h
second_bare g h s f is = first_bare h g s (turned g h f) is ∙ both_turn g h f
