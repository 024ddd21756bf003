-- Levels put one behind the other, over stores that follow one another.
use Rattle.std.proofs.Common.{◌≡◌, ℕ, [], ◌∷◌, Option, Some, None, arith, refl, ap, sym, ◌∙◌, subst}
use Rattle.slab.specs.Slab.{Slab}
use Rattle.rx_tree.specs.Tree.{Level}
use Rattle.rx_tree.specs.Tree.Level.{end, item}
use Rattle.rx_tree.specs.Join.{join_level}
use Rattle.rx_tree.specs.Weld.{weld, glue}
use Rattle.rx_level.specs.declared.nodes.Node.{Node}
use Rattle.rx_level.specs.declared.trees.Item.{Item}
use Rattle.rx_level.specs.Store.{leads}
use Rattle.rx_level.specs.Step.{Owns, Step, level_of, between}
use Rattle.rx_level.proofs.Steps.{join_assoc}
use Rattle.rx_level.proofs.Turning.{kept_root}
use Rattle.rx_weld.specs.Seamless.{IsSeamless}
use Rattle.rx_weld.specs.Seam.{IsSeam}
use Rattle.rx_weld.proofs.Seamless.{glue_last, glue_nothing}
use Rattle.rx_weld.proofs.Seams.{glue_joined, seam_parted}

-- the last item behind the root, once the items before it are joined
pub last_level : (a b d e : Slab Node) (left right before whole : Option ℕ) (key next : ℕ) (top last : Item)
    → right ≡ Some next
    → Owns a (Some key ∷ [])
    → Step a b (Some key ∷ []) (top.child ∷ left ∷ right ∷ [])
    → Step b d (Some next ∷ []) (before ∷ last.child ∷ [])
    → Step d e (top.child ∷ left ∷ before ∷ []) (whole ∷ [])
    → level_of a (Some key) ≡ between b left top right
    → level_of b (Some next) ≡ join_level (level_of d before) (item last.span (level_of d last.child) end)
    → level_of e whole ≡ between d left top before
    → level_of a (Some key) ≡ join_level (level_of e whole) (item last.span (level_of e last.child) end)
last_level a b d e left right before whole key next top last is owns one two three opened taken level =
    let next_leads : (m : ℕ) → leads m right ≡ leads m (Some next) = (λ m. ap (leads m) is) in
    let below = kept_root b d _ _ two top.child (λ m. omega (arith, next_leads m, one.held m, owns.owned m)) in
    let front = kept_root b d _ _ two left (λ m. omega (arith, next_leads m, one.held m, owns.owned m)) in
    let child = kept_root d e _ _ three last.child (λ m. omega (arith, next_leads m, one.held m, two.held m, owns.owned m)) in
    let right_level : level_of b right ≡ join_level (level_of d before) (item last.span (level_of d last.child) end) = ap (level_of b) is ∙ taken in
    let whole_level : level_of e whole ≡ join_level (level_of b left) (item top.span (level_of b top.child) (level_of d before)) = level ∙ (rw (below.level, front.level) refl) in
    opened
    ∙ ap (λ x. join_level (level_of b left) (item top.span (level_of b top.child) x)) right_level
    ∙ sym (join_assoc (level_of b left) (item top.span (level_of b top.child) (level_of d before)) (item last.span (level_of d last.child) end))
    ∙ (rw (whole_level, child.level) refl)

-- two levels with a seam, taken apart there and joined as one
pub glued : (a b d e : Slab Node) (left right before rest whole : Option ℕ) (front back : ℕ) (last first : Item)
    → left ≡ Some front → right ≡ Some back
    → Owns a (left ∷ right ∷ [])
    → IsSeamless (level_of a left)
    → Step a b (Some front ∷ []) (before ∷ last.child ∷ [])
    → Step b d (Some back ∷ []) (first.child ∷ rest ∷ [])
    → level_of a (Some front) ≡ join_level (level_of b before) (item last.span (level_of b last.child) end)
    → level_of b (Some back) ≡ item first.span (level_of d first.child) (level_of d rest)
    → level_of e whole ≡ join_level (level_of d before) (weld last.span (level_of d last.child) (item first.span (level_of d first.child) (level_of d rest)))
    → level_of e whole ≡ glue (level_of a left) (level_of a right)
glued a b d e left right before rest whole front back last first is_left is_right owns apart one two taken_last taken_first level =
    let left_leads : (m : ℕ) → leads m left ≡ leads m (Some front) = (λ m. ap (leads m) is_left) in
    let right_leads : (m : ℕ) → leads m right ≡ leads m (Some back) = (λ m. ap (leads m) is_right) in
    let second = kept_root a b _ _ one right (λ m. omega (arith, left_leads m, owns.owned m)) in
    let init = kept_root b d _ _ two before (λ m. omega (arith, left_leads m, right_leads m, one.held m, owns.owned m)) in
    let child = kept_root b d _ _ two last.child (λ m. omega (arith, left_leads m, right_leads m, one.held m, owns.owned m)) in
    let left_level : level_of a left ≡ join_level (level_of b before) (item last.span (level_of b last.child) end) = ap (level_of a) is_left ∙ taken_last in
    let right_level : level_of a right ≡ item first.span (level_of d first.child) (level_of d rest) = sym second.level ∙ ap (level_of b) is_right ∙ taken_first in
    level
    ∙ (rw (init.level, child.level) refl)
    ∙ ap (λ x. join_level (level_of b before) (weld last.span (level_of b last.child) x)) (sym right_level)
    ∙ sym (glue_last (level_of b before) last.span (level_of b last.child) (level_of a right) (subst IsSeamless left_level apart))
    ∙ ap (λ x. glue x (level_of a right)) (sym left_level)

-- the items at which two levels meet, once they are taken off
pub seam : (a b d : Slab Node) (left right before rest : Option ℕ) (front back : ℕ) (last first : Item)
    → left ≡ Some front → right ≡ Some back
    → Owns a (left ∷ right ∷ [])
    → IsSeam (level_of a (Some front)) (level_of a (Some back))
    → Step a b (Some front ∷ []) (before ∷ last.child ∷ [])
    → Step b d (Some back ∷ []) (first.child ∷ rest ∷ [])
    → level_of a (Some front) ≡ join_level (level_of b before) (item last.span (level_of b last.child) end)
    → level_of b (Some back) ≡ item first.span (level_of d first.child) (level_of d rest)
    → (last.span.hi ≡ first.span.lo) × (level_of d last.child ≡ level_of d first.child)
seam a b d left right before rest front back last first is_left is_right owns meets one two taken_last taken_first =
    let left_leads : (m : ℕ) → leads m left ≡ leads m (Some front) = (λ m. ap (leads m) is_left) in
    let right_leads : (m : ℕ) → leads m right ≡ leads m (Some back) = (λ m. ap (leads m) is_right) in
    let second = kept_root a b _ _ one (Some back) (λ m. omega (arith, left_leads m, right_leads m, owns.owned m)) in
    let child = kept_root b d _ _ two last.child (λ m. omega (arith, left_leads m, right_leads m, one.held m, owns.owned m)) in
    let both = seam_parted (level_of b before) last.span first.span (level_of b last.child) (level_of d first.child) (level_of d rest)
    (subst (λ (x : Level). IsSeam x (item first.span (level_of d first.child) (level_of d rest))) taken_last
    (subst (λ (x : Level). IsSeam (level_of a (Some front)) x) (sym second.level ∙ taken_first) meets)) in
    (both.0, child.level ∙ both.1)

-- a level before one without items
pub glued_alone : (s : Slab Node) (left right : Option ℕ) (front : ℕ) → left ≡ Some front → IsSeamless (level_of s left) → right ≡ None → level_of s (Some front) ≡ glue (level_of s left) (level_of s right)
glued_alone s left right front same apart is = ap (level_of s) (sym same) ∙ sym (glue_nothing (level_of s left) apart) ∙ ap (λ r. glue (level_of s left) (level_of s r)) (sym is)

-- levels that have no seam
pub glued_joined : (s : Slab Node) (left right : Option ℕ) (front back : ℕ) (whole : Level) → left ≡ Some front → right ≡ Some back → IsSeamless (level_of s left) → (IsSeam (level_of s (Some front)) (level_of s (Some back)) → ⊥)
    → whole ≡ join_level (level_of s (Some front)) (level_of s (Some back)) → whole ≡ glue (level_of s left) (level_of s right)
glued_joined s left right front back whole is_left is_right apart none level =
    let first : level_of s left ≡ level_of s (Some front) = ap (level_of s) is_left in
    let second : level_of s right ≡ level_of s (Some back) = ap (level_of s) is_right in
    level
    ∙ sym (glue_joined (level_of s (Some front)) (level_of s (Some back)) (subst IsSeamless first apart) none)
    ∙ (rw (first, second) refl)
