use Rattle.std.proofs.Common.{◌≡◌, take}
use Rattle.rx_walk.proofs.points.Points.copy.Given as goal

-- the points before this place are copied
abbrev pub invariant-points : goal.invariant-points
invariant-points l = l.key ≡ take l.place l.self
