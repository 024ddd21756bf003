use Rattle.std.proofs.Common.{ap}
use Rattle.rx_level.specs.Between.{span_at}
use Rattle.rx_points.specs.Keys.{spans_at}
use Rattle.rx_points.proofs.Keys.{lower}
use Rattle.rx_points.proofs.Lists.{both_first, both_second}
use Rattle.rx_points.proofs.merging.next_of.Goals as goal

pub returns-then-is_at_most-clause-some : goal.returns-then-is_at_most-clause-some
returns-then-is_at_most-clause-some c =
    let a = c.args.levels.now in
    both_first (spans_at a c.args.first.now) (spans_at a c.args.second.now) (span_at a c.in-Some.one.now) (span_at a c.in-Some-split_first-2.other.now) (spans_at a c.in-Some.ones.now) (spans_at a c.in-Some-split_first-2.others.now)
    (ap (spans_at a) c.in-Some.ensures.cases.0) (ap (spans_at a) c.in-Some-split_first-2.ensures.cases.0) (lower _ _ _ _ _ _ c.span_of.ensures c.span_of-2.ensures c.is_at_most.ensures c.if-is_at_most.true)

pub returns-clause-some : goal.returns-clause-some
returns-clause-some c =
    let a = c.args.levels.now in
    both_second (spans_at a c.args.first.now) (spans_at a c.args.second.now) (span_at a c.in-Some.one.now) (span_at a c.in-Some-split_first-2.other.now) (spans_at a c.in-Some.ones.now) (spans_at a c.in-Some-split_first-2.others.now)
    (ap (spans_at a) c.in-Some.ensures.cases.0) (ap (spans_at a) c.in-Some-split_first-2.ensures.cases.0) (lower _ _ _ _ _ _ c.span_of.ensures c.span_of-2.ensures c.is_at_most.ensures c.if-is_at_most.false)
