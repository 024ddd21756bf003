-- What two graphs have in common, over the arena's map.
use Rattle.std.proofs.Common.{◌≡◌, ◌&&◌, ◌+◌, ℕ, List, [], ◌∷◌, Option, Some, arith, refl, ap, ap₂, sym, ◌∙◌, subst}
use Rattle.slab.specs.Slab.{Slab, get}
use Rattle.rx_value.specs.declared.order.End.{End}
use Rattle.rx_tree.specs.Tree.{Level, Tree}
use Rattle.rx_tree.specs.Tree.Tree.{items}
use Rattle.rx_tree.specs.Member.{holds}
use Rattle.rx_tree.specs.Canonical.{IsCanonical}
use Rattle.rx_tree.specs.Meet.{both, tree_and, tree_of_items}
use Rattle.rx_tree.proofs.Intersection.{and_canonical, and_holds}
use Rattle.rx_level.specs.declared.nodes.Node.{Node}
use Rattle.rx_level.specs.Store.{leads}
use Rattle.rx_level.specs.Step.{Owns, Step, level_of}
use Rattle.rx_level.proofs.Steps.{held_there}
use Rattle.rx_graph.specs.declared.handles.Root.{Root}
use Rattle.rx_graph.specs.declared.handles.Root.TheVariants.{Items}
use Rattle.rx_graph.specs.Graph.{Graph, Steps, IsHeld, AreCanonical, handle_count, tree_in}
use Rattle.rx_graph.proofs.GraphSteps.{canonical_given}
use Rattle.rx_graph.proofs.Back.{times_first, times_second}
use Rattle.rx_graph.proofs.Amounts.{counted}
use Rattle.rx_and.proofs.Meets.{HasItems, has_items}

-- what two canonical trees have in common is given in their place
pub given_and : (old new : Graph) (g h r : Root) → IsHeld old (g ∷ h ∷ []) → Steps old new (g ∷ h ∷ []) (r ∷ []) → tree_in new r ≡ tree_and (tree_in old g) (tree_in old h) → AreCanonical old → AreCanonical new
given_and old new g h r held step is was =
    canonical_given old new (g ∷ h ∷ []) r step
    (subst (λ (t : Tree). IsCanonical old.nullable t) (sym is)
    (and_canonical old.nullable (tree_in old g) (tree_in old h) (was g (omega (arith, held g, times_first g h))) (was h (omega (arith, held h, times_second g h)))))
    was

pub keys_and : (old new : Graph) (g h r : Root) → IsHeld old (g ∷ h ∷ []) → tree_in new r ≡ tree_and (tree_in old g) (tree_in old h) → AreCanonical old
    → (ps : List End) → holds (tree_in new r) ps ≡ (holds (tree_in old g) ps && holds (tree_in old h) ps)
keys_and old new g h r held is was ps =
    ap (λ t. holds t ps) is
    ∙ and_holds old.nullable (tree_in old g) (tree_in old h) ps (was g (omega (arith, held g, times_first g h))) (was h (omega (arith, held h, times_second g h)))

items_is : (l : Level) → HasItems l → items l ≡ tree_of_items l
items_is l has = rw has.is refl

-- a level with items that is put back is the tree of its root
pub some_tree : (old new : Graph) (mid : Graph) (taken levels : Slab Node) (g h key : ℕ) (o : Option ℕ) (r : Root)
    → taken ≡ old.store → new ≡ record mid { store = levels }
    → Owns taken (Some g ∷ Some h ∷ [])
    → Step taken levels (Some g ∷ Some h ∷ []) (o ∷ []) → o ≡ Some key → r ≡ Items key
    → level_of levels o ≡ both (level_of taken (Some g)) (level_of taken (Some h))
    → tree_in new r ≡ tree_of_items (both (level_of old.store (Some g)) (level_of old.store (Some h)))
some_tree old new mid taken levels g h key o r is_taken is_new owns step is is_root level =
    let o_leads : (m : ℕ) → leads m o ≡ leads m (Some key) = (λ m. ap (leads m) is) in
    let has = has_items levels step.sound key (get levels key) refl (held_there levels (Some key) (λ m. omega (arith, step.held m, owns.owned m, o_leads m))) in
    let stored : new.store ≡ levels = ap (λ x. x.store) is_new in
    ap (tree_in new) is_root
    ∙ ap (λ s. items (level_of s (Some key))) stored
    ∙ items_is (level_of levels (Some key)) has
    ∙ ap tree_of_items (ap (level_of levels) (sym is) ∙ level)
    ∙ ap (λ s. tree_of_items (both (level_of s (Some g)) (level_of s (Some h)))) is_taken

-- and canonical
pub some_canonical : (old : Graph) (taken levels : Slab Node) (g h key : ℕ) (o : Option ℕ) → taken ≡ old.store → o ≡ Some key → IsHeld old (Items g ∷ Items h ∷ []) → Owns taken (Some g ∷ Some h ∷ [])
    → Step taken levels (Some g ∷ Some h ∷ []) (o ∷ [])
    → level_of levels o ≡ both (level_of taken (Some g)) (level_of taken (Some h)) → AreCanonical old → IsCanonical old.nullable (items (level_of levels o))
some_canonical old taken levels g h key o is_taken is held owns step level was =
    let new : Graph = record old { store = levels } in
    let tree = some_tree old new old taken levels g h key o (Items key) is_taken refl owns step is refl level in
    subst (λ (t : Tree). IsCanonical old.nullable t) (sym (ap (λ x. items (level_of levels x)) is ∙ tree))
    (and_canonical old.nullable (tree_in old (Items g)) (tree_in old (Items h))
    (was (Items g) (omega (arith, held (Items g), times_first (Items g) (Items h)))) (was (Items h) (omega (arith, held (Items h), times_second (Items g) (Items h)))))

-- the same of two roots with items
pub given_items_and : (old new : Graph) (g h r : Root) (i j : ℕ) → g ≡ Items i → h ≡ Items j → IsHeld old (g ∷ h ∷ []) → Steps old new (Items i ∷ Items j ∷ []) (r ∷ []) → tree_in new r ≡ tree_and (tree_in old (Items i)) (tree_in old (Items j)) → AreCanonical old → AreCanonical new
given_items_and old new g h r i j is_g is_h held step is was =
    given_and old new (Items i) (Items j) r (subst (λ (x : Root). IsHeld old (Items i ∷ x ∷ [])) is_h (subst (λ (x : Root). IsHeld old (x ∷ h ∷ [])) is_g held)) step is was

pub keys_items_and : (old new : Graph) (g h r : Root) (i j : ℕ) → g ≡ Items i → h ≡ Items j → IsHeld old (g ∷ h ∷ []) → tree_in new r ≡ tree_and (tree_in old (Items i)) (tree_in old (Items j)) → AreCanonical old
    → (ps : List End) → holds (tree_in new r) ps ≡ (holds (tree_in old g) ps && holds (tree_in old h) ps)
keys_items_and old new g h r i j is_g is_h held is was ps =
    keys_and old new g h r held (is ∙ ap₂ (λ x y. tree_and (tree_in old x) (tree_in old y)) (sym is_g) (sym is_h)) was ps

-- one handle is given for two
pub one_for_two : (old new : Graph) (g h r : Root) → Steps old new (g ∷ h ∷ []) (r ∷ []) → handle_count new + 1 ≡ handle_count old
one_for_two old new g h r step = omega (arith, counted old new (g ∷ h ∷ []) (r ∷ []) step)

pub none_for_two : (old new : Graph) (g h : Root) → Steps old new (g ∷ h ∷ []) [] → handle_count new + 2 ≡ handle_count old
none_for_two old new g h step = omega (arith, counted old new (g ∷ h ∷ []) [] step)
