-- One call keeps that the handles have the trees of the sets.
use Rattle.std.proofs.Common.{◌≡◌, ◌+◌, ◌<◌, ◌++◌, arith, ℕ, zero, suc, Bool, List, [], ◌∷◌, ap, sym, subst}
use Rattle.rx_tree.specs.Tree.{Tree}
use Rattle.rx_graph.specs.declared.handles.Root.{Root}
use Rattle.rx_graph.specs.Graph.{Graph, Steps, held_count, times, tree_in}
use Rattle.rx_graph.proofs.GraphSteps.{canonical_given, canonical_kept, once}
use Rattle.rx_graph_laws.specs.Operations.{KeySet, set_at, without}
use Rattle.rx_graph_laws.specs.Runs.{Held, Gives, Spends, IsPlace, root_at}
use Rattle.rx_graph_laws.specs.Matches.{IsTreeOf, HaveTreesOf, Matches}
use Rattle.rx_graph_laws.proofs.Listing.{times_first, times_none, times_joined}

-- the tree at a place is that of the set there
pub have_at : (parts : List Bool) (g : Graph) (k : ℕ) (roots : List Root) (sets : List KeySet) → IsPlace k roots → HaveTreesOf parts g roots sets
    → IsTreeOf parts (tree_in g (root_at k roots)) (set_at k sets)
have_at parts g k [] sets at have = absurd (omega (arith, at))
have_at parts g k (r ∷ rs) [] at have = absurd have
have_at parts g zero (r ∷ rs) (f ∷ fs) at have = have.0
have_at parts g (suc k) (r ∷ rs) (f ∷ fs) at have = have_at parts g k rs fs (omega (arith, at)) have.1

-- taken out of both lists at the same place
pub have_without : (parts : List Bool) (g : Graph) (k : ℕ) (roots : List Root) (sets : List KeySet) → HaveTreesOf parts g roots sets
    → HaveTreesOf parts g (without k roots) (without k sets)
have_without parts g k [] [] have = tt
have_without parts g k [] (f ∷ fs) have = absurd have
have_without parts g k (r ∷ rs) [] have = absurd have
have_without parts g zero (r ∷ rs) (f ∷ fs) have = have.1
have_without parts g (suc k) (r ∷ rs) (f ∷ fs) have = (have.0, have_without parts g k rs fs have.1)

-- one more at the end of both
have_more : (parts : List Bool) (g : Graph) (root : Root) (f : KeySet) (roots : List Root) (sets : List KeySet) → HaveTreesOf parts g roots sets
    → IsTreeOf parts (tree_in g root) f → HaveTreesOf parts g (roots ++ root ∷ []) (sets ++ f ∷ [])
have_more parts g root f [] [] have is = (is, tt)
have_more parts g root f [] (e ∷ fs) have is = absurd have
have_more parts g root f (r ∷ rs) [] have is = absurd have
have_more parts g root f (r ∷ rs) (e ∷ fs) have is = (have.0, have_more parts g root f rs fs have.1 is)

-- the trees of these roots stay
abbrev StayFor : Graph → Graph → List Root → Type 0
StayFor old new roots = (r : Root) → 0 < times r roots → tree_in new r ≡ tree_in old r

have_kept : (parts : List Bool) (old new : Graph) (roots : List Root) (sets : List KeySet) → StayFor old new roots → HaveTreesOf parts old roots sets
    → HaveTreesOf parts new roots sets
have_kept parts old new [] [] stay have = tt
have_kept parts old new [] (f ∷ fs) stay have = absurd have
have_kept parts old new (r ∷ rs) [] stay have = absurd have
have_kept parts old new (r ∷ rs) (f ∷ fs) stay have = (
  subst (λ (t : Tree). IsTreeOf parts t f) (sym (stay r (omega (arith, once r, times_first r r rs)))) have.0,
  have_kept parts old new rs fs (λ x more. stay x (omega (arith, more, times_first x r rs))) have.1,
)

-- where the listed handles are all that there are, those that are left keep their trees
stay_left : (old new : Graph) (all spent given left : List Root) → ((r : Root) → held_count old r ≡ times r all) → ((r : Root) → times r all ≡ times r spent + times r left)
    → Steps old new spent given → StayFor old new left
stay_left old new all spent given left listed parted step r more = step.keeps r (omega (arith, listed r, parted r, more))

module _ (a b : Held) (spent left : List Root) (sets others : List KeySet) (was : Matches a.graph.nullable a sets)
    (parted : (r : Root) → times r a.roots ≡ times r spent + times r left) (have : HaveTreesOf a.graph.nullable a.graph left others) where
  -- a call that gives none
  pub spends_keeps : Spends a b spent left → Matches a.graph.nullable b others
  spends_keeps call = record {
    parts_stay = call.step.parts;
    all_listed = λ r. omega (arith, call.step.held r, was.all_listed r, parted r, times_none r, ap (λ rs. times r rs) call.roots);
    canonical = canonical_kept a.graph b.graph spent call.step was.canonical;
    trees = subst (λ (rs : List Root). HaveTreesOf a.graph.nullable b.graph rs others) (sym call.roots)
        (have_kept a.graph.nullable a.graph b.graph left others (stay_left a.graph b.graph a.roots spent [] left was.all_listed parted call.step) have);
  }

  -- a call that gives one
  pub gives_keeps : (t : Tree) (f : KeySet) → IsTreeOf a.graph.nullable t f → Gives a b spent left t → Matches a.graph.nullable b (others ++ f ∷ [])
  gives_keeps t f is call =
      let new : IsTreeOf a.graph.nullable (tree_in b.graph call.given) f = subst (λ (u : Tree). IsTreeOf a.graph.nullable u f) (sym call.tree) is in
      record {
        parts_stay = call.step.parts;
        all_listed = λ r. omega (arith, call.step.held r, was.all_listed r, parted r, times_joined r left (call.given ∷ []), ap (λ rs. times r rs) call.roots);
        canonical = canonical_given a.graph b.graph spent call.given call.step new.canonical was.canonical;
        trees = subst (λ (rs : List Root). HaveTreesOf a.graph.nullable b.graph rs (others ++ f ∷ [])) (sym call.roots)
            (have_more a.graph.nullable b.graph call.given f left others
            (have_kept a.graph.nullable a.graph b.graph left others (stay_left a.graph b.graph a.roots spent (call.given ∷ []) left was.all_listed parted call.step) have) new);
      }
