use Rattle.std.proofs.Common.{length, ◌++◌, ◌∷◌, [], arith, ap, ◌∙◌}
use Rattle.rx_walk.proofs.Taken.{full_more, one_more}
use Rattle.rx_walk.proofs.points.Points.with.Goals as goal

pub invariant_of-result : goal.invariant_of-result
invariant_of-result c = full_more c.self.inside.count c.self.inside.values c.args.point (omega (arith, c.requires, ap length c.self.view_is, c.self.invariant.taken)) c.self.invariant

pub returns : goal.returns
returns c =
    one_more c.self.inside.count c.self.inside.values c.args.point (omega (arith, c.requires, ap length c.self.view_is, c.self.invariant.taken, c.self.invariant.room))
    ∙ ap (λ l. l ++ c.args.point.now ∷ []) c.self.view_is
