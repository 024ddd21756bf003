-- Levels that were taken out of an arena and are put back leave its trees canonical.
use Rattle.std.proofs.Common.{◌≡◌, ◌+◌, ◌-◌, ◌^◌, ◌<◌, ◌≤◌, ℕ, List, [], ◌∷◌, Option, Some, None, arith, ap, ◌∙◌, subst}
use Rattle.slab.specs.Slab.{Slab}
use Rattle.rx_tree.specs.Tree.Tree.{items}
use Rattle.rx_tree.specs.Canonical.{IsCanonical}
use Rattle.rx_level.specs.declared.nodes.Node.{Node}
use Rattle.rx_level.specs.Store.{total_held, roots_in}
use Rattle.rx_level.specs.Step.{Step, level_of}
use Rattle.rx_level.proofs.Totals.{totals}
use Rattle.rx_graph.specs.declared.handles.Root.{Root}
use Rattle.rx_graph.specs.declared.handles.Root.TheVariants.{Everything, Nothing, Items}
use Rattle.rx_graph.specs.Graph.{Graph, AreCanonical, handle_count, times}
use Rattle.rx_graph.proofs.GraphSteps.{canonical_kept, canonical_given, steps_from}

-- how many handles everything and nothing have says nothing of trees
counts_apart : (g : Graph) (all none : ℕ) → AreCanonical (record g { all = all; none = none }) → AreCanonical g
counts_apart g all none is Everything held = tt
counts_apart g all none is Nothing held = tt
counts_apart g all none is (Items k) held = is (Items k) held

-- after a call that spent two handles and gave one of items
pub back_with : (old mid : Graph) (taken levels : Slab Node) (g h k : ℕ) (o : Option ℕ) → taken ≡ old.store → mid ≡ record old { store = mid.store } → o ≡ Some k
    → Step taken levels (Some g ∷ Some h ∷ []) (o ∷ []) → IsCanonical old.nullable (items (level_of levels o)) → AreCanonical old
    → AreCanonical (record mid { store = levels })
back_with old mid taken levels g h k o is_taken is_mid is_some step is was =
    let moved : Step old.store levels (Some g ∷ Some h ∷ []) (Some k ∷ []) =
    subst (λ (x : Option ℕ). Step old.store levels (Some g ∷ Some h ∷ []) (x ∷ [])) is_some (subst (λ (s : Slab Node). Step s levels (Some g ∷ Some h ∷ []) (o ∷ [])) is_taken step) in
    canonical_given old (record mid { store = levels }) (Items g ∷ Items h ∷ []) (Items k)
    (steps_from old (record mid { store = levels }) (Items g ∷ Items h ∷ []) (Items k ∷ []) (ap (λ x. x.nullable) is_mid) moved (omega (arith, ap (λ x. x.all) is_mid)) (omega (arith, ap (λ x. x.none) is_mid)))
    (subst (λ (x : Option ℕ). IsCanonical old.nullable (items (level_of levels x))) is_some is) was

-- after a call that spent two handles and gave an empty link
pub back_none : (old mid : Graph) (taken levels : Slab Node) (g h : ℕ) (o : Option ℕ) → taken ≡ old.store → mid ≡ record old { store = mid.store } → o ≡ None
    → Step taken levels (Some g ∷ Some h ∷ []) (o ∷ []) → AreCanonical old
    → AreCanonical (record mid { store = levels })
back_none old mid taken levels g h o is_taken is_mid none_at step was =
    let moved : Step old.store levels (Some g ∷ Some h ∷ []) (None ∷ []) =
    subst (λ (x : Option ℕ). Step old.store levels (Some g ∷ Some h ∷ []) (x ∷ [])) none_at (subst (λ (s : Slab Node). Step s levels (Some g ∷ Some h ∷ []) (o ∷ [])) is_taken step) in
    let new : Graph = record mid { store = levels; none = mid.none + 1 } in
    counts_apart (record mid { store = levels }) mid.all (mid.none + 1)
    (canonical_given old new (Items g ∷ Items h ∷ []) Nothing
    (steps_from old new (Items g ∷ Items h ∷ []) (Nothing ∷ []) (ap (λ x. x.nullable) is_mid) moved (omega (arith, ap (λ x. x.all) is_mid)) (omega (arith, ap (λ x. x.none) is_mid)))
    tt was)

-- after a call that spent two handles and gave none
pub back_spent : (old mid : Graph) (taken levels : Slab Node) (g h : ℕ) → taken ≡ old.store → mid ≡ record old { store = mid.store }
    → Step taken levels (Some g ∷ Some h ∷ []) [] → AreCanonical old
    → AreCanonical (record mid { store = levels })
back_spent old mid taken levels g h is_taken is_mid step was =
    canonical_kept old (record mid { store = levels }) (Items g ∷ Items h ∷ [])
    (steps_from old (record mid { store = levels }) (Items g ∷ Items h ∷ []) [] (ap (λ x. x.nullable) is_mid) (subst (λ (s : Slab Node). Step s levels (Some g ∷ Some h ∷ []) []) is_taken step) (omega (arith, ap (λ x. x.all) is_mid)) (omega (arith, ap (λ x. x.none) is_mid)))
    was

-- one link at most is given
pub one_root : (o : Option ℕ) → roots_in (o ∷ []) ≤ 1
one_root None = omega arith
one_root (Some k) = omega arith

-- where two handles are spent and one at most is given there is room for one more
pub few_back : (old mid : Graph) (taken levels : Slab Node) (g h : ℕ) (given : List (Option ℕ)) → handle_count old < 2 ^ 32
    → taken ≡ old.store → mid ≡ record old { store = mid.store }
    → Step taken levels (Some g ∷ Some h ∷ []) given → roots_in given ≤ 1
    → handle_count (record mid { store = levels }) < 2 ^ 32 - 1
few_back old mid taken levels g h given few is_taken is_mid step one =
    let before : total_held taken ≡ total_held old.store = ap total_held is_taken in
    omega (arith, few, ap (λ x. x.all) is_mid, ap (λ x. x.none) is_mid, before, one, totals taken levels (Some g ∷ Some h ∷ []) given (λ m. step.held m))

-- the first of two roots stands in their list, and so does the second
pub times_first : (g h : Root) → 1 ≤ times g (g ∷ h ∷ [])
times_first Everything h = omega arith
times_first Nothing h = omega arith
times_first (Items k) h = grind arith

pub times_second : (g h : Root) → 1 ≤ times h (g ∷ h ∷ [])
times_second g Everything = omega arith
times_second g Nothing = omega arith
times_second g (Items k) = grind arith
