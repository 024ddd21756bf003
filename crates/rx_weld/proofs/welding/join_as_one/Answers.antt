use Rattle.rx_weld.proofs.Welded.{joined_as_one}
use Rattle.rx_weld.proofs.welding.join_as_one.Goals as goal

pub returns-clause-level : goal.returns-clause-level
returns-clause-level c =
    joined_as_one c.args.levels.now c.free.new.self c.join.new.levels c.args.left c.args.right c.in_ok-whole.whole c.args.a c.args.b c.span_over-span.result
    c.span_over-span.ensures c.requires.owns c.free.ensures.step c.requires.touch c.requires.same c.in_ok-whole.ensures.level
