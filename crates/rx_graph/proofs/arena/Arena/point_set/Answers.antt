use Rattle.std.proofs.Common.{arith, ◌≡◌, [], ◌∷◌, ap, subst, rules}
use Rattle.rx_tree.specs.Points.{point_tree}
use Rattle.rx_level.specs.Step.{level_of}
use Rattle.rx_graph.specs.Graph.{AreCanonical, tree_in}
use Rattle.rx_graph.proofs.Amounts.{counted}
use Rattle.rx_graph.proofs.GraphSteps.{canonical_kept, canonical_given}
use Rattle.rx_graph.proofs.ListedRoots.{level_stands, tree_canonical, tree_holds}
use Rattle.rx_graph.proofs.arena.Arena.point_set.Goals as goal

pub returns-then-is_empty-clause-keys : goal.returns-then-is_empty-clause-keys
returns-then-is_empty-clause-keys c =
    let e : tree_in c.nothing.new.self c.nothing.result ≡ point_tree c.args.self.now.nullable c.args.part c.args.spans = search rules in
    tree_holds c.args.self.now.nullable c.args.part c.args.spans _ c.requires.spans e

pub returns-then-is_whole_at-clause-keys : goal.returns-then-is_whole_at-clause-keys
returns-then-is_whole_at-clause-keys c =
    let e : tree_in c.everything.new.self c.everything.result ≡ point_tree c.args.self.now.nullable c.args.part c.args.spans = search rules in
    tree_holds c.args.self.now.nullable c.args.part c.args.spans _ c.requires.spans e

pub returns-in_default-clause-canonical : goal.returns-in_default-clause-canonical
returns-in_default-clause-canonical c = canonical_kept c.args.self.now (record { nullable = c.self.inside.nullable; store = c.level_at-made.new.levels; all = c.self.inside.all; none = c.self.inside.none }) [] (search rules) (subst AreCanonical c.self.view_is c.self.invariant.canonical)

pub invariant_of-self : goal.invariant_of-self
invariant_of-self c = record { canonical = canonical_kept c.args.self.now (record { nullable = c.self.inside.nullable; store = c.level_at-made.new.levels; all = c.self.inside.all; none = c.self.inside.none }) [] (search rules) (subst AreCanonical c.self.view_is c.self.invariant.canonical); few = omega (arith, c.requires.few, counted c.args.self.now (record { nullable = c.self.inside.nullable; store = c.level_at-made.new.levels; all = c.self.inside.all; none = c.self.inside.none }) [] ([]) (search rules)) }

pub returns-in-Some-clause-keys : goal.returns-in-Some-clause-keys
returns-in-Some-clause-keys c =
    let e : tree_in (record { nullable = c.self.inside.nullable; store = c.level_at-made.new.levels; all = c.self.inside.all; none = c.self.inside.none }) c.of.result ≡ point_tree c.args.self.now.nullable c.args.part c.args.spans = search rules in
    tree_holds c.args.self.now.nullable c.args.part c.args.spans _ c.requires.spans e

pub returns-in-Some-clause-canonical : goal.returns-in-Some-clause-canonical
returns-in-Some-clause-canonical c =
    let e : tree_in (record { nullable = c.self.inside.nullable; store = c.level_at-made.new.levels; all = c.self.inside.all; none = c.self.inside.none }) c.of.result ≡ point_tree c.args.self.now.nullable c.args.part c.args.spans = search rules in
    canonical_given c.args.self.now (record { nullable = c.self.inside.nullable; store = c.level_at-made.new.levels; all = c.self.inside.all; none = c.self.inside.none }) [] c.of.result (search rules) (tree_canonical c.args.self.now.nullable c.args.part c.args.spans _ c.requires.spans e) (subst AreCanonical c.self.view_is c.self.invariant.canonical)

pub invariant_of-self-in-Some : goal.invariant_of-self-in-Some
invariant_of-self-in-Some c =
    let e : tree_in (record { nullable = c.self.inside.nullable; store = c.level_at-made.new.levels; all = c.self.inside.all; none = c.self.inside.none }) c.of.result ≡ point_tree c.args.self.now.nullable c.args.part c.args.spans = search rules in
    record { canonical = canonical_given c.args.self.now (record { nullable = c.self.inside.nullable; store = c.level_at-made.new.levels; all = c.self.inside.all; none = c.self.inside.none }) [] c.of.result (search rules) (tree_canonical c.args.self.now.nullable c.args.part c.args.spans _ c.requires.spans e) (subst AreCanonical c.self.view_is c.self.invariant.canonical); few = omega (arith, c.requires.few, counted c.args.self.now (record { nullable = c.self.inside.nullable; store = c.level_at-made.new.levels; all = c.self.inside.all; none = c.self.inside.none }) [] (c.of.result ∷ []) (search rules)) }

pub nothing-requires-in-None : goal.nothing-requires-in-None
nothing-requires-in-None c =
    absurd (level_stands c.args.self.now.nullable c.as_slice-4.result.now c.args.part c.args.spans c.args.spans _ (search rules) (search rules) c.in-Ok.ensures.level (ap (level_of c.level_at-made.new.levels) c.in-None.is) c.requires.spans (search rules))

pub invariant_of-self-in-None : goal.invariant_of-self-in-None
invariant_of-self-in-None c =
    absurd (level_stands c.args.self.now.nullable c.as_slice-4.result.now c.args.part c.args.spans c.args.spans _ (search rules) (search rules) c.in-Ok.ensures.level (ap (level_of c.level_at-made.new.levels) c.in-None.is) c.requires.spans (search rules))

pub returns-in-None-clause-tree : goal.returns-in-None-clause-tree
returns-in-None-clause-tree c =
    absurd (level_stands c.args.self.now.nullable c.as_slice-4.result.now c.args.part c.args.spans c.args.spans _ (search rules) (search rules) c.in-Ok.ensures.level (ap (level_of c.level_at-made.new.levels) c.in-None.is) c.requires.spans (search rules))

pub returns-in-None-clause-keys : goal.returns-in-None-clause-keys
returns-in-None-clause-keys c =
    absurd (level_stands c.args.self.now.nullable c.as_slice-4.result.now c.args.part c.args.spans c.args.spans _ (search rules) (search rules) c.in-Ok.ensures.level (ap (level_of c.level_at-made.new.levels) c.in-None.is) c.requires.spans (search rules))

pub returns-in-None-clause-canonical : goal.returns-in-None-clause-canonical
returns-in-None-clause-canonical c =
    absurd (level_stands c.args.self.now.nullable c.as_slice-4.result.now c.args.part c.args.spans c.args.spans _ (search rules) (search rules) c.in-Ok.ensures.level (ap (level_of c.level_at-made.new.levels) c.in-None.is) c.requires.spans (search rules))

pub returns-in-Some-clause-count : goal.returns-in-Some-clause-count
returns-in-Some-clause-count c = omega (arith, counted c.args.self.now (record { nullable = c.self.inside.nullable; store = c.level_at-made.new.levels; all = c.self.inside.all; none = c.self.inside.none }) [] (c.of.result ∷ []) (search rules))

pub returns-in-None-clause-count : goal.returns-in-None-clause-count
returns-in-None-clause-count c =
    absurd (level_stands c.args.self.now.nullable c.as_slice-4.result.now c.args.part c.args.spans c.args.spans _ (search rules) (search rules) c.in-Ok.ensures.level (ap (level_of c.level_at-made.new.levels) c.in-None.is) c.requires.spans (search rules))

pub returns-in_default-clause-err_count : goal.returns-in_default-clause-err_count
returns-in_default-clause-err_count c =
    omega (arith, counted c.args.self.now (record { nullable = c.self.inside.nullable; store = c.level_at-made.new.levels; all = c.self.inside.all; none = c.self.inside.none }) [] [] (search rules))
