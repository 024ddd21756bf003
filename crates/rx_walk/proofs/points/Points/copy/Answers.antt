use Rattle.rx_walk.proofs.Taken.{point_copied}
use Rattle.rx_walk.proofs.points.Points.copy.Goals as goal

pub points-preserved : goal.points-preserved
points-preserved c =
    point_copied c.points.place c.args.self.now c.points.key c.push.new.self c.get.result.now c.in_ok-copy.field-0 c.points.invariant c.get.ensures c.in_ok-copy.ensures c.in_ok-push.ensures.ok
