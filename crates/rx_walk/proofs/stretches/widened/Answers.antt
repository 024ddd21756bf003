use Rattle.std.proofs.Common.{◌+◌}
use Rattle.std.proofs.lemmas.Option.{IfSome_then}
use Rattle.rx_level.specs.Step.{level_of}
use Rattle.rx_level.proofs.Entries.{if_none_then}
use Rattle.rx_cover.specs.Cover.{stretch_of}
use Rattle.rx_walk.specs.Walk.{ahead, span_of_ends}
use Rattle.rx_walk.proofs.Runs.{widened, ended}
use Rattle.rx_walk.proofs.stretches.widened.Goals as goal

pub returns-in-Full-clause-some : goal.returns-in-Full-clause-some
returns-in-Full-clause-some c = IfSome_then c.joined.result c.joined.ensures.some (λ w h.
    widened c.args.falls (span_of_ends c.args.ends) (span_of_ends c.in-Full.more) (span_of_ends w) (stretch_of c.in_ok-found.found.span.now (level_of c.args.levels.now c.in_ok-found.found.child))
    (ahead c.args.falls c.args.passed (level_of c.args.levels.now c.args.root)) (ahead c.args.falls (c.args.passed + 1) (level_of c.args.levels.now c.args.root))
    c.in_ok-found.ensures.some c.in-Full.ensures.met h.0 h.1)

pub returns-in-Full-clause-none : goal.returns-in-Full-clause-none
returns-in-Full-clause-none c = if_none_then c.joined.result c.joined.ensures.none (λ h.
    ended c.args.falls (span_of_ends c.args.ends) (span_of_ends c.in-Full.more) (stretch_of c.in_ok-found.found.span.now (level_of c.args.levels.now c.in_ok-found.found.child))
    (ahead c.args.falls c.args.passed (level_of c.args.levels.now c.args.root)) (ahead c.args.falls (c.args.passed + 1) (level_of c.args.levels.now c.args.root))
    c.in_ok-found.ensures.some c.in-Full.ensures.met h)
