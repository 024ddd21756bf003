use Rattle.std.proofs.Common.{arith, []}
use Rattle.rx_level.proofs.Steps.{step_onto, tree_onto}
use Rattle.rx_level.proofs.trees.share.Goals as goal

pub returns-clause-step : goal.returns-clause-step
returns-clause-step c = step_onto _ _ _ _ c.requires.sound (c.hold.ensures.sound [] c.requires.sound) c.hold.ensures.onto (λ m. omega (arith, c.hold.ensures.held m))

pub returns-clause-trees : goal.returns-clause-trees
returns-clause-trees c = tree_onto _ _ c.requires.sound c.hold.ensures.onto
