-- What a call gives of an arena, and the parts on which columns stand.
use Rattle.std.specs.Prelude.{ℕ, suc, Bool, true, false, if◌then◌else◌, ◌==◌, List, [], ◌∷◌, Option, Some, None}
use Rattle.std.specs.List.{list_any, list_all, zip}
use Rattle.rx_value.specs.declared.values.Value.{Value}
use Rattle.rx_value.specs.declared.shapes.Part.{Part}
use Rattle.rx_cond.specs.Tree.{Tree, neg, conj, disj}
use Rattle.rx_regions.specs.Cans.{agrees}
use Rattle.rx_graph.specs.declared.handles.Root.{Root}
use Rattle.rx_graph.specs.Graph.{Graph, Steps, tree_in}
use Rattle.rx_sets.specs.Sets.{KeySet, IsTreeOf, both, either}
use Rattle.rx_cond_graph.specs.declared.spots.Spot.{Spot}

-- A call gives one new handle, whose tree is the canonical one of a set, and keeps those of all others.
pub record GivesTreeOf (f : KeySet) (old new : Graph) (given : Root) : Type 0 where
  pub step : Steps old new [] (given ∷ [])
  pub tree : IsTreeOf old.nullable f (tree_in new given)

-- a spot one part further on
abbrev pub further : Option Spot → Option Spot
further None = None
further (Some s) = Some (record { place = suc s.place; nullable = s.nullable; chars = s.chars })

-- the first part that a column is, by its place among the parts, each of which may be NULL or not
abbrev pub spot_in : List Bool → List Part → ℕ → Option Spot
spot_in (n ∷ ns) (q ∷ qs) column = if q.column == column then Some (record { place = 0; nullable = n; chars = q.chars }) else further (spot_in ns qs column)
spot_in _ _ column = None

-- the tuples of both sets, or of either
abbrev pub combined : Bool → KeySet → KeySet → KeySet
combined true f g = both f g
combined false f g = either f g

-- values on these columns agree, place by place
abbrev pub agree_all : List Part → List ℕ → List Value → KeySet
agree_all parts columns key ps = list_all (λ e. agrees parts ps e.0 e.1) (zip columns key)

-- those of one of these lists of values agree
abbrev pub agree_any : List Part → List ℕ → List (List Value) → KeySet
agree_any parts columns list ps = list_any (λ key. agree_all parts columns key ps) list

-- a condition is one test
abbrev pub is_single : Tree → Bool
is_single (neg t) = false
is_single (conj items) = false
is_single (disj items) = false
is_single _ = true
