-- Items put before levels, over stores that follow one another.
use Rattle.std.proofs.Common.{◌≡◌, ◌≤◌, ℕ, Bool, false, IsTrue, List, [], ◌∷◌, Option, Some, None, arith, refl, ap, ap₂, sym, ◌∙◌}
use Rattle.slab.specs.Slab.{Slab}
use Rattle.rx_value.specs.declared.order.Span.{Span}
use Rattle.rx_tree.specs.Tree.Level.{item}
use Rattle.rx_tree.specs.Join.{join_level}
use Rattle.rx_tree.specs.Weld.{span_over, weld}
use Rattle.rx_tree.proofs.Welding.{weld_apart}
use Rattle.rx_level.specs.declared.nodes.Node.{Node}
use Rattle.rx_level.specs.declared.trees.Item.{Item}
use Rattle.rx_level.specs.Store.{leads, owed}
use Rattle.rx_level.specs.Step.{Owns, Step, Lent, level_of, between}
use Rattle.rx_level.proofs.Steps.{held_there}
use Rattle.rx_level.proofs.Lending.{lent_held}
use Rattle.rx_level.proofs.Turning.{kept_root}
use Rattle.rx_weld.proofs.Seamless.{weld_one}

-- a held link is lent
pub owned_lent : (s : Slab Node) (all : List (Option ℕ)) (r : Option ℕ) → Owns s all → ((m : ℕ) → leads m r ≤ owed m all) → Lent s [] r
owned_lent s all r owns fits =
    lent_held s [] r (held_there s r (λ m. omega (arith, fits m, owns.owned m))) (λ m. omega (arith, fits m, owns.owned m))

-- two items that are one, between levels
pub joined_as_one : (a b d : Slab Node) (left right whole : Option ℕ) (x y : Item) (z : Span)
    → z ≡ span_over x.span y.span
    → Owns a (left ∷ x.child ∷ y.child ∷ right ∷ [])
    → Step a b (y.child ∷ []) []
    → x.span.hi ≡ y.span.lo → level_of a x.child ≡ level_of a y.child
    → level_of d whole ≡ join_level (level_of b left) (item z (level_of b x.child) (level_of b right))
    → level_of d whole ≡ join_level (level_of a left) (weld x.span (level_of a x.child) (item y.span (level_of a y.child) (level_of a right)))
joined_as_one a b d left right whole x y z is_z owns one touch same level =
    let front = kept_root a b _ _ one left (λ m. omega (arith, owns.owned m)) in
    let child = kept_root a b _ _ one x.child (λ m. omega (arith, owns.owned m)) in
    let back = kept_root a b _ _ one right (λ m. omega (arith, owns.owned m)) in
    level ∙ (rw (front.level, child.level, back.level, is_z) refl)
    ∙ ap (join_level (level_of a left)) (sym (weld_one x.span y.span (level_of a x.child) (level_of a y.child) (level_of a right) touch same))

-- two items that aren't, before a level
pub melded_two : (a b d : Slab Node) (right back whole : Option ℕ) (x y : Item) (t : Bool)
    → Owns a (x.child ∷ y.child ∷ right ∷ [])
    → (x.span.hi ≡ y.span.lo → level_of a x.child ≡ level_of a y.child → IsTrue t) → t ≡ false
    → Step a b (y.child ∷ None ∷ right ∷ []) (back ∷ [])
    → level_of b back ≡ between a None y right
    → level_of d whole ≡ between b None x back
    → level_of d whole ≡ weld x.span (level_of a x.child) (item y.span (level_of a y.child) (level_of a right))
melded_two a b d right back whole x y t owns test not one behind level =
    let child = kept_root a b _ _ one x.child (λ m. omega (arith, owns.owned m)) in
    let all : level_of d whole ≡ item x.span (level_of a x.child) (item y.span (level_of a y.child) (level_of a right)) = level ∙ (rw (child.level, behind) refl) in
    let apart : x.span.hi ≡ y.span.lo → level_of a x.child ≡ level_of a y.child → ⊥ = λ touch same. absurd (cc (test touch same, not)) in
    all ∙ sym (weld_apart x.span (level_of a x.child) (item y.span (level_of a y.child) (level_of a right)) apart)

-- an item before a level whose first item is taken off
pub welded_front : (a b d : Slab Node) (root rest whole : Option ℕ) (key : ℕ) (x first : Item)
    → root ≡ Some key
    → Owns a (x.child ∷ root ∷ [])
    → Step a b (Some key ∷ []) (first.child ∷ rest ∷ [])
    → level_of a (Some key) ≡ item first.span (level_of b first.child) (level_of b rest)
    → level_of d whole ≡ weld x.span (level_of b x.child) (item first.span (level_of b first.child) (level_of b rest))
    → level_of d whole ≡ weld x.span (level_of a x.child) (level_of a root)
welded_front a b d root rest whole key x first is owns one taken level =
    let key_leads : (m : ℕ) → leads m root ≡ leads m (Some key) = (λ m. ap (leads m) is) in
    let child = kept_root a b _ _ one x.child (λ m. omega (arith, owns.owned m, key_leads m)) in
    let all : level_of a root ≡ item first.span (level_of b first.child) (level_of b rest) = ap (level_of a) is ∙ taken in
    level ∙ ap₂ (weld x.span) child.level (sym all)
