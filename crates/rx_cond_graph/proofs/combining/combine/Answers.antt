use Rattle.std.proofs.lemmas.Result.{IfErr-weaker}
use Rattle.rx_graph.specs.Graph.{tree_in}
use Rattle.rx_cond_graph.proofs.Limits.{met_over, united_over}
use Rattle.rx_cond_graph.proofs.combining.combine.Goals as goal

pub returns-then-meets-clause-over : goal.returns-then-meets-clause-over
returns-then-meets-clause-over c =
    let a = c.args.arena.now in
    IfErr-weaker c.and.result _ _ (λ fault over is. met_over a.nullable c.args.limit (tree_in a c.args.g) (tree_in a c.args.h) c.args.meets c.if-meets.true (over is)) c.and.ensures.over

pub returns-clause-over : goal.returns-clause-over
returns-clause-over c =
    let a = c.args.arena.now in
    IfErr-weaker c.or.result _ _ (λ fault over is. united_over a.nullable c.args.limit (tree_in a c.args.g) (tree_in a c.args.h) c.args.meets c.if-meets.false (over is)) c.or.ensures.over
