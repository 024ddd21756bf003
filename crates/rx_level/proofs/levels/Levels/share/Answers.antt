use Rattle.std.proofs.Common.{arith, [], ◌∷◌}
use Rattle.rx_level.proofs.Totals.{counted_step}
use Rattle.rx_level.proofs.levels.Levels.share.Goals as goal

pub invariant_of-self : goal.invariant_of-self
invariant_of-self c = counted_step c.self.inside.nodes c.share.new.nodes c.self.inside.handles _ [] (c.args.root ∷ []) c.self.invariant c.share.ensures.step (omega (arith, c.root_count.ensures))
