-- An arena whose handles have the trees of sets.
use Rattle.std.specs.Prelude.{◌≡◌, Bool, List, [], ◌∷◌}
use Rattle.rx_value.specs.declared.order.End.{End}
use Rattle.rx_tree.specs.Tree.{Tree}
use Rattle.rx_tree.specs.Member.{IsTuple, holds}
use Rattle.rx_tree.specs.Canonical.{IsCanonical}
use Rattle.rx_graph.specs.declared.handles.Root.{Root}
use Rattle.rx_graph.specs.Graph.{Graph, AreCanonical, held_count, times, tree_in}
use Rattle.rx_graph_laws.specs.Operations.{KeySet}
use Rattle.rx_graph_laws.specs.Runs.{Held}

-- the canonical tree of a set over these parts: it holds exactly the tuples of the set
pub record IsTreeOf (parts : List Bool) (t : Tree) (f : KeySet) : Type 0 where
  pub canonical : IsCanonical parts t
  pub holds_same : (ps : List End) → IsTuple parts ps → holds t ps ≡ f ps

-- Place by place, a root has the canonical tree of the set; there are as many roots as sets.
abbrev pub HaveTreesOf : List Bool → Graph → List Root → List KeySet → Type 0
HaveTreesOf parts g [] [] = Unit {0}
HaveTreesOf parts g [] (f ∷ fs) = ⊥
HaveTreesOf parts g (r ∷ rs) [] = ⊥
HaveTreesOf parts g (r ∷ rs) (f ∷ fs) = IsTreeOf parts (tree_in g r) f × HaveTreesOf parts g rs fs

-- The listed handles are all that there are, each tree is canonical, and place by place it is that of the set.
pub record Matches (parts : List Bool) (a : Held) (sets : List KeySet) : Type 0 where
  pub parts_stay : a.graph.nullable ≡ parts
  pub all_listed : (r : Root) → held_count a.graph r ≡ times r a.roots
  pub canonical : AreCanonical a.graph
  pub trees : HaveTreesOf parts a.graph a.roots sets
