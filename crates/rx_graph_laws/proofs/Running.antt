-- Any list of calls keeps that the handles have the trees of the sets.
use Rattle.std.proofs.Common.{◌∙◌, ◌≡◌, ◌+◌, ◌<◌, ◌++◌, ◌&&◌, ◌||◌, arith, ℕ, Bool, true, false, List, [], ◌∷◌, refl, ap, sym, subst}
use Rattle.rx_tree.specs.Tree.{Tree}
use Rattle.rx_tree.specs.Tree.Tree.{everything, nothing}
use Rattle.rx_tree.specs.Member.{holds}
use Rattle.rx_tree.specs.Points.{AreSpansAt, is_inside_at, point_tree}
use Rattle.rx_tree.specs.Meet.{tree_and}
use Rattle.rx_tree.specs.Union.{tree_or}
use Rattle.rx_value.specs.declared.order.Span.{Span}
use Rattle.rx_tree.proofs.Sets.{point_canonical, point_holds}
use Rattle.rx_tree.proofs.Intersection.{and_canonical, and_holds}
use Rattle.rx_tree.proofs.Either.{or_canonical, or_holds}
use Rattle.rx_tree.proofs.Unique.{same_trees}
use Rattle.rx_level.proofs.Totals.{held_total}
use Rattle.rx_graph.specs.declared.handles.Root.{Root}
use Rattle.rx_graph.specs.declared.handles.Root.TheVariants.{Everything, Nothing, Items}
use Rattle.rx_graph.specs.Graph.{Graph, IsHeld, handle_count, held_count, times, tree_in}
use Rattle.rx_graph_laws.specs.Operations.{KeySet, Operation, played, plays, set_at, in_both, in_either, without, without_two}
use Rattle.rx_graph_laws.specs.Runs.{Held, Gives, Spends, IsPlace, ArePlaces, Does, Runs, IsRootAt, no_handles, root_at, two_at, tree_at_place}
use Rattle.rx_graph_laws.specs.Matches.{IsTreeOf, HaveTreesOf, Matches}
use Rattle.rx_graph_laws.proofs.Listing.{place_of, times_none, times_without, times_two}
use Rattle.rx_graph_laws.proofs.Keeping.{have_at, have_without, spends_keeps, gives_keeps}

all_of : (parts : List Bool) → IsTreeOf parts everything (λ ps. true)
all_of parts = record { canonical = tt; holds_same = λ ps is. refl }

none_of : (parts : List Bool) → IsTreeOf parts nothing (λ ps. false)
none_of parts = record { canonical = tt; holds_same = λ ps is. refl }

points_of : (parts : List Bool) (k : ℕ) (spans : List Span) → AreSpansAt parts k spans → IsTreeOf parts (point_tree parts k spans) (is_inside_at k spans)
points_of parts k spans are = record { canonical = point_canonical parts k spans are; holds_same = λ ps is. point_holds parts k spans ps are is }

both_of : (parts : List Bool) (t u : Tree) (f g : KeySet) → IsTreeOf parts t f → IsTreeOf parts u g → IsTreeOf parts (tree_and t u) (in_both f g)
both_of parts t u f g first second = record {
  canonical = and_canonical parts t u first.canonical second.canonical;
  holds_same = λ ps is. and_holds parts t u ps first.canonical second.canonical
      ∙ ap (λ x. x && holds u ps) (first.holds_same ps is) ∙ ap (λ x. f ps && x) (second.holds_same ps is);
}

either_of : (parts : List Bool) (t u : Tree) (f g : KeySet) → IsTreeOf parts t f → IsTreeOf parts u g → IsTreeOf parts (tree_or parts t u) (in_either f g)
either_of parts t u f g first second = record {
  canonical = or_canonical parts t u first.canonical second.canonical;
  holds_same = λ ps is. or_holds parts t u ps first.canonical second.canonical is
      ∙ ap (λ x. x || holds u ps) (first.holds_same ps is) ∙ ap (λ x. f ps || x) (second.holds_same ps is);
}

pub one_tree : (parts : List Bool) (t u : Tree) (f : KeySet) → IsTreeOf parts t f → IsTreeOf parts u f → t ≡ u
one_tree parts t u f first second =
    same_trees parts t u first.canonical second.canonical (λ ps is. first.holds_same ps is ∙ sym (second.holds_same ps is))

none_spent : (roots : List Root) (r : Root) → times r roots ≡ times r [] + times r roots
none_spent roots r = omega (arith, times_none r)

-- what is left besides two
have_two : (parts : List Bool) (g : Graph) (i j : ℕ) (roots : List Root) (sets : List KeySet) → HaveTreesOf parts g roots sets
    → HaveTreesOf parts g (without_two i j roots) (without_two i j sets)
have_two parts g i j roots sets have = have_without parts g j (without i roots) (without i sets) (have_without parts g i roots sets have)

second_of : (parts : List Bool) (g : Graph) (i j : ℕ) (roots : List Root) (sets : List KeySet) → IsPlace j (without i roots) → HaveTreesOf parts g roots sets
    → IsTreeOf parts (tree_in g (root_at j (without i roots))) (set_at j (without i sets))
second_of parts g i j roots sets at have = have_at parts g j (without i roots) (without i sets) at (have_without parts g i roots sets have)

module _ (a b : Held) (sets : List KeySet) (was : Matches a.graph.nullable a sets) where
  refused_keeps : (i j : ℕ) → ArePlaces i j a.roots → Spends a b (two_at i j a.roots) (without_two i j a.roots) → Matches a.graph.nullable b (without_two i j sets)
  refused_keeps i j at =
      spends_keeps a b (two_at i j a.roots) (without_two i j a.roots) sets (without_two i j sets) was (λ r. times_two r i j a.roots at)
      (have_two a.graph.nullable a.graph i j a.roots sets was.trees)

  two_keeps : (i j : ℕ) (t : Tree) (f : KeySet) → ArePlaces i j a.roots → IsTreeOf a.graph.nullable t f → Gives a b (two_at i j a.roots) (without_two i j a.roots) t
      → Matches a.graph.nullable b (without_two i j sets ++ f ∷ [])
  two_keeps i j t f at is =
      gives_keeps a b (two_at i j a.roots) (without_two i j a.roots) sets (without_two i j sets) was (λ r. times_two r i j a.roots at)
      (have_two a.graph.nullable a.graph i j a.roots sets was.trees) t f is

  added_keeps : (t : Tree) (f : KeySet) → IsTreeOf a.graph.nullable t f → Gives a b [] a.roots t → Matches a.graph.nullable b (sets ++ f ∷ [])
  added_keeps = gives_keeps a b [] a.roots sets sets was (none_spent a.roots) was.trees

  one_keeps : (o : Operation) → Does o a b → Matches a.graph.nullable b (plays o sets)
  one_keeps Operation.add_everything call = added_keeps everything (λ ps. true) (all_of a.graph.nullable) call
  one_keeps Operation.add_nothing call = added_keeps nothing (λ ps. false) (none_of a.graph.nullable) call
  one_keeps (Operation.add_points k spans) call =
      added_keeps (point_tree a.graph.nullable k spans) (is_inside_at k spans) (points_of a.graph.nullable k spans call.0) call.1
  one_keeps Operation.refused_points call = spends_keeps a b [] a.roots sets sets was (none_spent a.roots) was.trees call
  one_keeps (Operation.share i) call =
      added_keeps (tree_at_place a a.roots i) (set_at i sets) (have_at a.graph.nullable a.graph i a.roots sets call.0 was.trees) call.1
  one_keeps (Operation.release i) call =
      spends_keeps a b (root_at i a.roots ∷ []) (without i a.roots) sets (without i sets) was (λ r. times_without r i a.roots call.0)
      (have_without a.graph.nullable a.graph i a.roots sets was.trees) call.1
  one_keeps (Operation.meet i j) call =
      two_keeps i j (tree_and (tree_at_place a a.roots i) (tree_at_place a (without i a.roots) j)) (in_both (set_at i sets) (set_at j (without i sets))) call.0
      (both_of a.graph.nullable (tree_at_place a a.roots i) (tree_at_place a (without i a.roots) j) (set_at i sets) (set_at j (without i sets))
      (have_at a.graph.nullable a.graph i a.roots sets call.0.0 was.trees) (second_of a.graph.nullable a.graph i j a.roots sets call.0.1 was.trees)) call.1
  one_keeps (Operation.refused_meet i j) call = refused_keeps i j call.0 call.1
  one_keeps (Operation.unite i j) call =
      two_keeps i j (tree_or a.graph.nullable (tree_at_place a a.roots i) (tree_at_place a (without i a.roots) j)) (in_either (set_at i sets) (set_at j (without i sets))) call.0
      (either_of a.graph.nullable (tree_at_place a a.roots i) (tree_at_place a (without i a.roots) j) (set_at i sets) (set_at j (without i sets))
      (have_at a.graph.nullable a.graph i a.roots sets call.0.0 was.trees) (second_of a.graph.nullable a.graph i j a.roots sets call.0.1 was.trees)) call.1
  one_keeps (Operation.refused_unite i j) call = refused_keeps i j call.0 call.1

call_keeps : (parts : List Bool) (a b : Held) (sets : List KeySet) (o : Operation) → Matches parts a sets → Does o a b → Matches parts b (plays o sets)
call_keeps parts a b sets o was call =
    subst (λ (ns : List Bool). Matches ns b (plays o sets)) was.parts_stay
    (one_keeps a b sets (subst (λ (ns : List Bool). Matches ns a sets) (sym was.parts_stay) was) o call)

pub all_keep : (parts : List Bool) (a c : Held) (sets : List KeySet) (operations : List Operation) → Matches parts a sets → Runs operations a c
    → Matches parts c (played operations sets)
all_keep parts a c sets [] was runs = subst (λ (h : Held). Matches parts h sets) (sym runs) was
all_keep parts a c sets (o ∷ rest) was (b, call, runs) = all_keep parts b c (plays o sets) rest (call_keeps parts a b sets o was call) runs

none_held : (g : Graph) → handle_count g ≡ 0 → (r : Root) → held_count g r ≡ times r []
none_held g free Everything = omega (arith, free)
none_held g free Nothing = omega (arith, free)
none_held g free (Items k) = omega (arith, free, held_total g.store k)

none_match : (g : Graph) → handle_count g ≡ 0 → Matches g.nullable (no_handles g) []
none_match g free = record {
  parts_stay = refl;
  all_listed = none_held g free;
  canonical = λ r more. absurd (omega (arith, more, none_held g free r, times_none r));
  trees = tt;
}

pub runs_match : (g : Graph) (after : Held) (operations : List Operation) → handle_count g ≡ 0 → Runs operations (no_handles g) after
    → Matches g.nullable after (played operations [])
runs_match g after operations free = all_keep g.nullable (no_handles g) after [] operations (none_match g free)

pub runs_at : (g : Graph) (after : Held) (operations : List Operation) → handle_count g ≡ 0 → Runs operations (no_handles g) after → (k : ℕ)
    → IsPlace k after.roots → IsTreeOf g.nullable (tree_in after.graph (root_at k after.roots)) (set_at k (played operations []))
runs_at g after operations free runs k at =
    have_at g.nullable after.graph k after.roots (played operations []) at (runs_match g after operations free runs).trees

held_has : (parts : List Bool) (g : Graph) (roots : List Root) (sets : List KeySet) (r : Root) → HaveTreesOf parts g roots sets → (k : ℕ) × IsRootAt k roots r
    → (k : ℕ) × IsRootAt k roots r × IsTreeOf parts (tree_in g r) (set_at k sets)
held_has parts g roots sets r have (k, stands) =
    (k, stands, subst (λ (x : Root). IsTreeOf parts (tree_in g x) (set_at k sets)) stands.root (have_at parts g k roots sets stands.place have))

-- each root that is held stands in the list, and has the tree of the set at its place
pub runs_held : (g : Graph) (after : Held) (operations : List Operation) → handle_count g ≡ 0 → Runs operations (no_handles g) after → (r : Root)
    → 0 < held_count after.graph r → (k : ℕ) × IsRootAt k after.roots r × IsTreeOf g.nullable (tree_in after.graph r) (set_at k (played operations []))
runs_held g after operations free runs r more =
    let ended = runs_match g after operations free runs in
    held_has g.nullable after.graph after.roots (played operations []) r ended.trees (place_of r after.roots (omega (arith, more, ended.all_listed r)))

pub one_held : (parts : List Bool) (a : Held) (sets : List KeySet) → Matches parts a sets → (i : ℕ) → IsPlace i a.roots → IsHeld a.graph (root_at i a.roots ∷ [])
one_held parts a sets was i at r = omega (arith, was.all_listed r, times_without r i a.roots at)

pub two_held : (parts : List Bool) (a : Held) (sets : List KeySet) → Matches parts a sets → (i j : ℕ) → ArePlaces i j a.roots → IsHeld a.graph (two_at i j a.roots)
two_held parts a sets was i j at r = omega (arith, was.all_listed r, times_two r i j a.roots at)
