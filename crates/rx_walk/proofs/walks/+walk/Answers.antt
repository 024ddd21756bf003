use Rattle.std.proofs.Common.{ap}
use Rattle.rx_level.specs.Step.{level_of}
use Rattle.rx_walk.specs.Walk.{stretch_met, span_of_ends}
use Rattle.rx_walk.proofs.Rest.{full_given_at, deep_passed_at, deep_given_at}
use Rattle.rx_walk.proofs.walks.+walk.Goals as goal

pub range_met-returns-in-Some-clause-some : goal.range_met-returns-in-Some-clause-some
range_met-returns-in-Some-clause-some t c =
    deep_given_at c.args.points.now c.with-inner.result c.args.part.nullable c.args.part.falls c.args.part.below.parts.now c.args.part.below.falling.now c.args.places.now c.next_below.new.places
    c.args.passage.passed c.in-Deep.point.now (level_of c.args.part.below.levels.now c.in-Deep.child) (stretch_met c.args.part.below.levels.now c.args.passage.met) c.in-Some.range
    c.with-inner.ensures c.in-Some.ensures.before c.in-Some.ensures.some (ap (stretch_met c.args.part.below.levels.now) c.in-Deep.is)

pub range_met-returns-in-Full-clause-some : goal.range_met-returns-in-Full-clause-some
range_met-returns-in-Full-clause-some t c =
    full_given_at c.args.points.now c.args.part.nullable c.args.part.falls c.args.part.below.parts.now c.args.part.below.falling.now c.args.places.now c.pass.new.places
    c.len.result c.args.passage.passed (span_of_ends c.in-Full.ends) (stretch_met c.args.part.below.levels.now c.args.passage.met) c.full.result
    c.len.ensures.count c.pass.ensures.here c.pass.ensures.after c.full.ensures (ap (stretch_met c.args.part.below.levels.now) c.in-Full.is)

pub range_met-returns-in_default-clause-none : goal.range_met-returns-in_default-clause-none
range_met-returns-in_default-clause-none t c =
    deep_passed_at c.args.points.now c.with-inner.result c.args.part.nullable c.args.part.falls c.args.part.below.parts.now c.args.part.below.falling.now c.args.places.now c.pass-in-Deep.new.places
    c.len-in-Deep.result c.args.passage.passed c.in-Deep.point.now (level_of c.args.part.below.levels.now c.in-Deep.child) (stretch_met c.args.part.below.levels.now c.args.passage.met)
    c.len-in-Deep.ensures.count c.pass-in-Deep.ensures.here c.pass-in-Deep.ensures.after c.with-inner.ensures c.in_default.ensures.none (ap (stretch_met c.args.part.below.levels.now) c.in-Deep.is)
