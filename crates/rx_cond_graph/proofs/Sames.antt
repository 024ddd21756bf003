-- Calls that give the trees of sets of the same tuples.
use Rattle.std.proofs.Common.{◌≡◌, ℕ, Bool, true, List, length, Option, Some, None, sym}
use Rattle.rx_value.specs.declared.shapes.Part.{Part}
use Rattle.rx_value.specs.declared.order.End.{End}
use Rattle.rx_value.specs.declared.order.Span.{Span}
use Rattle.rx_tree.specs.Points.{is_inside_at}
use Rattle.rx_graph.specs.declared.handles.Root.{Root}
use Rattle.rx_graph.specs.Graph.{Graph}
use Rattle.rx_sets.specs.Sets.{KeySet, AreSame}
use Rattle.rx_sets.proofs.Trees.{same_set}
use Rattle.rx_regions.specs.Cans.{at_spot, spot_of}
use Rattle.rx_single.specs.Single.{AreSpansOf}
use Rattle.rx_cond_graph.specs.declared.spots.Spot.{Spot}
use Rattle.rx_cond_graph.specs.Giving.{GivesTreeOf, spot_in}
use Rattle.rx_cond_graph.proofs.Standing.{no_spot, at_its_spot}

pub gives_same : (f g : KeySet) (old new : Graph) (h : Root) → AreSame old.nullable f g → GivesTreeOf f old new h → GivesTreeOf g old new h
gives_same f g old new h same gives = record { step = gives.step; tree = same_set old.nullable f g _ same gives.tree }

-- all keys, where no part is the column
pub gives_all : (qs : List Part) (column : ℕ) (test : Option ℕ → End → Bool) (old new : Graph) (h : Root) → length qs ≡ length old.nullable → spot_in old.nullable qs column ≡ None
    → GivesTreeOf (λ ps. true) old new h → GivesTreeOf (λ ps. at_spot test (spot_of column qs ps)) old new h
gives_all qs column test old new h long none gives =
    gives_same (λ ps. true) (λ ps. at_spot test (spot_of column qs ps)) old new h (λ ps tuple. sym (no_spot old.nullable qs column test long none ps tuple)) gives

-- those of the spans, where a part is
pub gives_spans : (qs : List Part) (column : ℕ) (s : Spot) (spans : List Span) (test : Option ℕ → End → Bool) (old new : Graph) (h : Root) → spot_in old.nullable qs column ≡ Some s
    → AreSpansOf s.nullable spans (test s.chars) → GivesTreeOf (is_inside_at s.place spans) old new h → GivesTreeOf (λ ps. at_spot test (spot_of column qs ps)) old new h
gives_spans qs column s spans test old new h is of gives =
    gives_same (is_inside_at s.place spans) (λ ps. at_spot test (spot_of column qs ps)) old new h (at_its_spot old.nullable qs column s spans test is of).positions gives
