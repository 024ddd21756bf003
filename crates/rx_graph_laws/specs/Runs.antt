-- What calls do to an arena and the list of its handles.
use Rattle.std.specs.Prelude.{◌≡◌, ◌<◌, ◌++◌, ℕ, List, [], ◌∷◌, length, get_or}
use Rattle.rx_tree.specs.Tree.{Tree}
use Rattle.rx_tree.specs.Tree.Tree.{everything, nothing}
use Rattle.rx_tree.specs.Points.{AreSpansAt, point_tree}
use Rattle.rx_tree.specs.Meet.{tree_and}
use Rattle.rx_tree.specs.Union.{tree_or}
use Rattle.rx_graph.specs.declared.handles.Root.{Root}
use Rattle.rx_graph.specs.declared.handles.Root.TheVariants.{Nothing}
use Rattle.rx_graph.specs.Graph.{Graph, Steps, tree_in}
use Rattle.rx_graph_laws.specs.Operations.{Operation, without, without_two}

-- an arena, and the roots of its handles in the order in which they were given
pub record Held : Type 0 where
  pub graph : Graph
  pub roots : List Root

-- an arena with these handles
abbrev pub with_handles : Graph → List Root → Held
with_handles g roots = record { graph = g; roots = roots }

-- an arena before any handle is given
abbrev pub no_handles : Graph → Held
no_handles g = with_handles g []

-- the root at a place
abbrev pub root_at : ℕ → List Root → Root
root_at k roots = get_or roots k Nothing

-- A call spends these handles, leaves these, and gives one of this tree.
pub record Gives (a b : Held) (spent left : List Root) (t : Tree) : Type 0 where
  pub given : Root
  pub step : Steps a.graph b.graph spent (given ∷ [])
  pub tree : tree_in b.graph given ≡ t
  pub roots : b.roots ≡ left ++ given ∷ []

-- A call spends these handles, leaves these, and gives none.
pub record Spends (a b : Held) (spent left : List Root) : Type 0 where
  pub step : Steps a.graph b.graph spent []
  pub roots : b.roots ≡ left

-- there is a handle at this place
abbrev pub IsPlace : ℕ → List Root → Type 0
IsPlace k roots = k < length roots

-- there is a handle at the first place, and one at the second among the others
abbrev pub ArePlaces : ℕ → ℕ → List Root → Type 0
ArePlaces i j roots = IsPlace i roots × IsPlace j (without i roots)

-- the roots at two places, the second among the others
abbrev pub two_at : ℕ → ℕ → List Root → List Root
two_at i j roots = root_at i roots ∷ root_at j (without i roots) ∷ []

-- the tree of the handle at a place of a list
abbrev pub tree_at_place : Held → List Root → ℕ → Tree
tree_at_place a roots k = tree_in a.graph (root_at k roots)

-- What the calls of an arena do, and those for what two graphs have in common and for either.
abbrev pub Does : Operation → Held → Held → Type 0
Does Operation.add_everything a b = Gives a b [] a.roots everything
Does Operation.add_nothing a b = Gives a b [] a.roots nothing
Does (Operation.add_points k spans) a b = AreSpansAt a.graph.nullable k spans × Gives a b [] a.roots (point_tree a.graph.nullable k spans)
Does Operation.refused_points a b = Spends a b [] a.roots
Does (Operation.share i) a b = IsPlace i a.roots × Gives a b [] a.roots (tree_at_place a a.roots i)
Does (Operation.release i) a b = IsPlace i a.roots × Spends a b (root_at i a.roots ∷ []) (without i a.roots)
Does (Operation.meet i j) a b =
    ArePlaces i j a.roots × Gives a b (two_at i j a.roots) (without_two i j a.roots) (tree_and (tree_at_place a a.roots i) (tree_at_place a (without i a.roots) j))
Does (Operation.refused_meet i j) a b = ArePlaces i j a.roots × Spends a b (two_at i j a.roots) (without_two i j a.roots)
Does (Operation.unite i j) a b =
    ArePlaces i j a.roots × Gives a b (two_at i j a.roots) (without_two i j a.roots) (tree_or a.graph.nullable (tree_at_place a a.roots i) (tree_at_place a (without i a.roots) j))
Does (Operation.refused_unite i j) a b = ArePlaces i j a.roots × Spends a b (two_at i j a.roots) (without_two i j a.roots)

-- The calls lead from one arena with its handles to another, one after the other.
abbrev pub Runs : List Operation → Held → Held → Type 0
Runs [] a c = c ≡ a
Runs (o ∷ rest) a c = (b : Held) × Does o a b × Runs rest b c

-- the root stands at a place of the list
pub record IsRootAt (i : ℕ) (roots : List Root) (h : Root) : Type 0 where
  pub place : IsPlace i roots
  pub root : root_at i roots ≡ h

-- the roots stand at two places of the list, the second among the others
pub record AreRootsAt (i j : ℕ) (roots : List Root) (g h : Root) : Type 0 where
  pub places : ArePlaces i j roots
  pub first : root_at i roots ≡ g
  pub second : root_at j (without i roots) ≡ h
