use Rattle.std.proofs.Common.{◌+◌, ap, sym, ◌∙◌, string_bytes}
use Rattle.rx_trace.specs.Ranges.{point_at}
use Rattle.rx_trace.proofs.Joined.{pushed}
use Rattle.rx_trace.proofs.Numbered.{each_more}
use Rattle.rx_trace.proofs.ranges.points_of.Goals as goal

pub loop-i-preserved : goal.loop-i-preserved
loop-i-preserved c =
    let made = c.in_ok-point_at.ensures ∙ ap (λ v. point_at c.args.schema.now c.args.parts.now (c.args.from + c.loop-i.i, v)) c.index-points-i.is in
    pushed string_bytes _ _ _ _ _ c.in_ok-push.ensures.items c.loop-i.invariant made
    ∙ sym (each_more (point_at c.args.schema.now c.args.parts.now) c.args.from c.args.points.now c.loop-i.i c.index-points-i.result c.loop-i-test.true)
