use Rattle.std.proofs.Common.{arith, ap, ◌∙◌}
use Rattle.rx_walk.proofs.Taken.{now_of, place_low, read_at, not_empty}
use Rattle.rx_walk.proofs.points.Points.get.Goals as goal

pub offset_bounds-values-place : goal.offset_bounds-values-place
offset_bounds-values-place c = omega (arith, place_low c.self.inside.count c.args.place c.self.inside.values c.args.self.now c.self.invariant c.self.view_is c.requires)

pub bounds-values-place : goal.bounds-values-place
bounds-values-place c = omega (arith, place_low c.self.inside.count c.args.place c.self.inside.values c.args.self.now c.self.invariant c.self.view_is c.requires, c.self.invariant.room)

pub unreachable-requires : goal.unreachable-requires
unreachable-requires c = not_empty c.self.inside.count c.args.place c.self.inside.values c.args.self.now _ _ c.self.invariant c.self.view_is c.requires c.index-values-place.is c.in-None.is

pub returns : goal.returns
returns c =
    read_at c.self.inside.count c.args.place c.self.inside.values c.args.self.now _ _ c.self.invariant c.self.view_is c.requires c.index-values-place.is
    ∙ ap now_of c.in-Some.is
