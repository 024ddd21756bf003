use Rattle.std.proofs.lemmas.Result.{IfErr-weaker}
use Rattle.rx_cond.specs.Tree.{tree_of}
use Rattle.rx_regions.specs.Cans.{can_be}
use Rattle.rx_graph.specs.Graph.{tree_in}
use Rattle.rx_sets.proofs.Trees.{not_small}
use Rattle.rx_ranges.specs.Subterms.{IsSmallOn}
use Rattle.rx_ranges.proofs.Under.{under_itself}
use Rattle.rx_cond_graph.proofs.graphs.single_within.Goals as goal

pub returns-clause-over : goal.returns-clause-over
returns-clause-over c =
    let nullable = c.args.arena.now.nullable in
    let parts = c.args.parts.now in
    let tree = tree_of c.args.cond.now in
    IfErr-weaker c.within.result _ _
    (λ fault over is small. not_small nullable c.args.limit (can_be c.args.sign tree parts) (tree_in c.single.new.arena c.in_ok-made.made) c.in_ok-made.ensures.ok.tree over
    (under_itself (IsSmallOn nullable parts c.args.limit) c.args.sign tree small))
    c.within.ensures.over
