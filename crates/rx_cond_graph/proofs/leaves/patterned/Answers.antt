use Rattle.rx_regions.specs.Cans.{begins}
use Rattle.rx_cond_graph.proofs.Standing.{at_its_spot, spot_is}
use Rattle.rx_cond_graph.proofs.Sames.{gives_all, gives_spans}
use Rattle.rx_cond_graph.proofs.leaves.patterned.Goals as goal

pub returns-in_default-clause-ok : goal.returns-in_default-clause-ok
returns-in_default-clause-ok c =
    gives_all c.args.parts.now c.args.column (begins c.args.pattern.now) c.args.arena.now c.all_or_none.new.arena c.in_ok-all.all c.requires
    (spot_is c.parts.result.now c.args.arena.now.nullable c.args.parts.now c.args.column _ c.parts.ensures.items c.in_default.ensures.spot) c.in_ok-all.ensures.ok

pub spans_at-requires : goal.spans_at-requires
spans_at-requires c =
    (at_its_spot c.args.arena.now.nullable c.args.parts.now c.args.column c.in-Some.spot c.in-Ok.spans (begins c.args.pattern.now)
    (spot_is c.parts.result.now c.args.arena.now.nullable c.args.parts.now c.args.column _ c.parts.ensures.items c.in-Some.ensures.spot) c.in-Ok.ensures).spans_at

pub returns-clause-ok : goal.returns-clause-ok
returns-clause-ok c =
    gives_spans c.args.parts.now c.args.column c.in-Some.spot c.in-Ok.spans (begins c.args.pattern.now) c.args.arena.now c.spans_at.new.arena c.in_ok-made.made
    (spot_is c.parts.result.now c.args.arena.now.nullable c.args.parts.now c.args.column _ c.parts.ensures.items c.in-Some.ensures.spot) c.in-Ok.ensures c.in_ok-made.ensures.ok
