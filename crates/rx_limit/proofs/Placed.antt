-- Levels glued, and one item put between two levels, over stores that follow one another.
use Rattle.std.proofs.Common.{◌≡◌, ◌≤◌, ℕ, [], ◌∷◌, Option, Some, arith, refl, ap, sym, ◌∙◌}
use Rattle.rx_value.specs.declared.order.Span.{Span}
use Rattle.rx_level.specs.declared.nodes.Node.{Node}
use Rattle.rx_level.specs.declared.trees.Item.{Item}
use Rattle.rx_tree.specs.Tree.{Level}
use Rattle.rx_tree.specs.Tree.Level.{end, item}
use Rattle.rx_tree.specs.Join.{join_level, length_of}
use Rattle.rx_tree.specs.Weld.{glue}
use Rattle.rx_level.specs.Store.{leads, owed}
use Rattle.rx_level.specs.Step.{Owns, Step, level_of, between}
use Rattle.rx_level.proofs.Turning.{kept_root}
use Rattle.rx_tree.proofs.Joining.{length-join}
use Rattle.rx_weld.specs.Seamless.{IsSeamless}
use Rattle.rx_weld.specs.Seam.{IsSeam}
use Rattle.rx_weld.proofs.Seams.{glue_joined, seam_first}
use Rattle.rx_tree.proofs.Welding.{glue_assoc}
use Rattle.slab.specs.Slab.{Slab}

-- a level of one item that is taken apart at an item
lone : (w l : Level) (s : Span) (c r : Level) → w ≡ join_level l (item s c r) → length_of w ≡ 1 → w ≡ item s c end
lone w end s c end opened one = opened
lone w end s c (item t d rest) opened one = absurd (omega (arith, one, ap length_of opened))
lone w (item u e more) s c r opened one = absurd (omega (arith, one, ap length_of opened, length-join more (item s c r)))

-- a level of one item that is opened and put between two others
pub placed : (a b d e f : Slab Node) (left right before after whole : Option ℕ) (key : ℕ) (top : Item)
    → Owns a (left ∷ Some key ∷ right ∷ [])
    → length_of (level_of a (Some key)) ≡ 1
    → Step a b (Some key ∷ []) (top.child ∷ before ∷ after ∷ [])
    → level_of a (Some key) ≡ between b before top after
    → Step b d (before ∷ []) []
    → Step d e (after ∷ []) []
    → level_of f whole ≡ between e left top right
    → level_of f whole ≡ join_level (level_of a left) (join_level (level_of a (Some key)) (level_of a right))
placed a b d e f left right before after whole key top owns one first opened second third level =
    let kept : (r : Option ℕ) → ((m : ℕ) → leads m r ≤ owed m (left ∷ right ∷ [])) → level_of e r ≡ level_of a r = (λ r fits.
    (kept_root d e _ _ third r (λ m. omega (arith, fits m, first.held m, second.held m, owns.owned m))).level
    ∙ (kept_root b d _ _ second r (λ m. omega (arith, fits m, first.held m, owns.owned m))).level
    ∙ (kept_root a b _ _ first r (λ m. omega (arith, fits m, owns.owned m))).level) in
    let child : level_of e top.child ≡ level_of b top.child =
    (kept_root d e _ _ third top.child (λ m. omega (arith, first.held m, second.held m, owns.owned m))).level
    ∙ (kept_root b d _ _ second top.child (λ m. omega (arith, first.held m, owns.owned m))).level in
    let alone : level_of a (Some key) ≡ item top.span (level_of b top.child) end = lone (level_of a (Some key)) (level_of b before) top.span (level_of b top.child) (level_of b after) opened one in
    level
    ∙ (rw (kept left (λ m. omega arith), kept right (λ m. omega arith), child) refl)
    ∙ ap (λ x. join_level (level_of a left) (join_level x (level_of a right))) (sym alone)

-- one item between two levels that it has no seam with is glued by joining the three
three_joined : (l m r : Level) → IsSeamless l → IsSeamless m → length_of m ≡ 1 → (IsSeam l m → ⊥) → (IsSeam m r → ⊥) → glue l (glue m r) ≡ join_level l (join_level m r)
three_joined l end r apart middle one first next = absurd (omega (arith, one))
three_joined l (item t d rest) r apart middle one first next =
    ap (glue l) (glue_joined (item t d rest) r middle next) ∙ glue_joined l (item t d (join_level rest r)) apart (λ seam. first (seam_first l t d (join_level rest r) rest seam))

-- three levels of which the one in the middle is an item that has no seam with its neighbours
pub three_placed : (s : Slab Node) (left middle right : Option ℕ) (key : ℕ) → middle ≡ Some key → IsSeamless (level_of s left) → IsSeamless (level_of s middle) → length_of (level_of s middle) ≡ 1
    → (IsSeam (level_of s left) (level_of s middle) → ⊥) → (IsSeam (level_of s middle) (level_of s right) → ⊥)
    → join_level (level_of s left) (join_level (level_of s (Some key)) (level_of s right)) ≡ glue (level_of s left) (glue (level_of s middle) (level_of s right))
three_placed s left middle right key is apart apart_middle one first next =
    ap (λ r. join_level (level_of s left) (join_level (level_of s r) (level_of s right))) (sym is)
    ∙ sym (three_joined (level_of s left) (level_of s middle) (level_of s right) apart apart_middle one first next)

-- three levels glued in two steps
pub three_are : (a b : Slab Node) (left middle right front : Option ℕ) → Owns a (left ∷ middle ∷ right ∷ []) → Step a b (left ∷ middle ∷ []) (front ∷ []) → level_of b front ≡ glue (level_of a left) (level_of a middle)
    → glue (level_of b front) (level_of b right) ≡ glue (level_of a left) (glue (level_of a middle) (level_of a right))
three_are a b left middle right front owns step is =
    let back = kept_root a b _ _ step right (λ m. omega (arith, owns.owned m)) in
    (rw (is, back.level) refl) ∙ glue_assoc (level_of a left) (level_of a middle) (level_of a right)
