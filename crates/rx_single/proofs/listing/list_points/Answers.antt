use Rattle.std.proofs.Common.{rules}
use Rattle.rx_single.proofs.Points.{points_begin, points_said}
use Rattle.rx_single.proofs.listing.list_points.Goals as goal

pub united-requires-clause-first : goal.united-requires-clause-first
united-requires-clause-first c =
    points_begin c.as_slice.result.now c.in_ok-values.values.items c.in_ok-sorted.sorted.items c.in_ok-sorted.ensures (search rules)

pub returns : goal.returns
returns c =
    points_said c.args.chars c.args.list.now c.in_ok-values.values.items c.in_ok-sorted.sorted.items c.as_slice.result.now c.in_ok-points.points
    c.in_ok-values.ensures c.in_ok-sorted.ensures (search rules) c.in_ok-points.ensures
