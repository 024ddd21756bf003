use Rattle.rx_walk.proofs.Taken.{few_points}
use Rattle.rx_walk.proofs.points.Points.len.Goals as goal

pub returns-clause-few : goal.returns-clause-few
returns-clause-few c = few_points c.self.inside.count c.self.inside.values c.self.invariant
