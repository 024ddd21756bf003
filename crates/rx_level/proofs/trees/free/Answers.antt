use Rattle.std.proofs.Common.{arith, []}
use Rattle.rx_level.proofs.Steps.{step_within}
use Rattle.rx_level.proofs.trees.free.Goals as goal

pub returns-clause-step : goal.returns-clause-step
returns-clause-step c = step_within _ _ _ _ (c.release.ensures.sound [] c.requires.sound) c.release.ensures.within (λ m. omega (arith, c.release.ensures.held m))
