-- What a call says of its handles, as what it does to the list of them.
use Rattle.std.proofs.Common.{◌∙◌, ◌≡◌, ◌++◌, arith, ℕ, List, [], ◌∷◌, refl, ap, sym, subst}
use Rattle.rx_tree.specs.Tree.{Tree}
use Rattle.rx_tree.specs.Meet.{tree_and}
use Rattle.rx_tree.specs.Union.{tree_or}
use Rattle.rx_graph.specs.declared.handles.Root.{Root}
use Rattle.rx_graph.specs.Graph.{Graph, Steps, IsHeld, tree_in}
use Rattle.rx_graph.proofs.GraphSteps.{once}
use Rattle.rx_graph_laws.specs.Operations.{Operation, without, without_two}
use Rattle.rx_graph_laws.specs.Runs.{Does, Gives, Spends, AreRootsAt, IsRootAt, root_at, two_at, with_handles}
use Rattle.rx_graph_laws.proofs.Listing.{times_none}

pub gives : (old new : Graph) (roots spent left : List Root) (r : Root) (t : Tree) → Steps old new spent (r ∷ []) → tree_in new r ≡ t
    → Gives (with_handles old roots) (with_handles new (left ++ r ∷ [])) spent left t
gives old new roots spent left r t step tree = record { given = r; step = step; tree = tree; roots = refl }

pub spends : (old new : Graph) (roots spent left : List Root) → Steps old new spent [] → Spends (with_handles old roots) (with_handles new left) spent left
spends old new roots spent left step = record { step = step; roots = refl }

pub shares : (old new : Graph) (h r : Root) → r ≡ h → IsHeld old (h ∷ []) → Steps old new [] (r ∷ []) → (roots : List Root) (i : ℕ) → IsRootAt i roots h
    → Does (Operation.share i) (with_handles old roots) (with_handles new (roots ++ r ∷ []))
shares old new h r same held step roots i stands =
    let kept : tree_in new h ≡ tree_in old h = step.keeps h (omega (arith, held h, once h, times_none h)) in (
      stands.place,
      gives old new roots [] roots r (tree_in old (root_at i roots)) step (ap (tree_in new) same ∙ kept ∙ ap (tree_in old) (sym stands.root)),
    )

pub releases : (old new : Graph) (h : Root) → Steps old new (h ∷ []) [] → (roots : List Root) (i : ℕ) → IsRootAt i roots h
    → Does (Operation.release i) (with_handles old roots) (with_handles new (without i roots))
releases old new h step roots i stands = (
  stands.place,
  spends old new roots (root_at i roots ∷ []) (without i roots) (subst (λ (x : Root). Steps old new (x ∷ []) []) (sym stands.root) step),
)

module _ (old new : Graph) (g h : Root) where
  two_spent : (given roots : List Root) (i j : ℕ) → AreRootsAt i j roots g h → Steps old new (g ∷ h ∷ []) given → Steps old new (two_at i j roots) given
  two_spent given roots i j stand step =
      subst (λ (x : Root). Steps old new (x ∷ root_at j (without i roots) ∷ []) given) (sym stand.first)
      (subst (λ (y : Root). Steps old new (g ∷ y ∷ []) given) (sym stand.second) step)

  pub meets : (r : Root) → Steps old new (g ∷ h ∷ []) (r ∷ []) → tree_in new r ≡ tree_and (tree_in old g) (tree_in old h) → (roots : List Root) (i j : ℕ)
      → AreRootsAt i j roots g h → Does (Operation.meet i j) (with_handles old roots) (with_handles new (without_two i j roots ++ r ∷ []))
  meets r step tree roots i j stand =
      let x = root_at i roots in
      let y = root_at j (without i roots) in (
        stand.places,
        gives old new roots (two_at i j roots) (without_two i j roots) r (tree_and (tree_in old x) (tree_in old y)) (two_spent (r ∷ []) roots i j stand step)
            (tree ∙ ap (λ z. tree_and (tree_in old z) (tree_in old h)) (sym stand.first) ∙ ap (λ z. tree_and (tree_in old x) (tree_in old z)) (sym stand.second)),
      )

  pub meets_not : Steps old new (g ∷ h ∷ []) [] → (roots : List Root) (i j : ℕ) → AreRootsAt i j roots g h
      → Does (Operation.refused_meet i j) (with_handles old roots) (with_handles new (without_two i j roots))
  meets_not step roots i j stand = (stand.places, spends old new roots (two_at i j roots) (without_two i j roots) (two_spent [] roots i j stand step))

  pub unites : (r : Root) → Steps old new (g ∷ h ∷ []) (r ∷ []) → tree_in new r ≡ tree_or old.nullable (tree_in old g) (tree_in old h) → (roots : List Root)
      (i j : ℕ) → AreRootsAt i j roots g h → Does (Operation.unite i j) (with_handles old roots) (with_handles new (without_two i j roots ++ r ∷ []))
  unites r step tree roots i j stand =
      let x = root_at i roots in
      let y = root_at j (without i roots) in (
        stand.places,
        gives old new roots (two_at i j roots) (without_two i j roots) r (tree_or old.nullable (tree_in old x) (tree_in old y))
            (two_spent (r ∷ []) roots i j stand step)
            (tree ∙ ap (λ z. tree_or old.nullable (tree_in old z) (tree_in old h)) (sym stand.first)
            ∙ ap (λ z. tree_or old.nullable (tree_in old x) (tree_in old z)) (sym stand.second)),
      )

  pub unites_not : Steps old new (g ∷ h ∷ []) [] → (roots : List Root) (i j : ℕ) → AreRootsAt i j roots g h
      → Does (Operation.refused_unite i j) (with_handles old roots) (with_handles new (without_two i j roots))
  unites_not step roots i j stand = (stand.places, spends old new roots (two_at i j roots) (without_two i j roots) (two_spent [] roots i j stand step))
