use Rattle.std.proofs.Common.{◌∙◌, ap}
use Rattle.rx_level.specs.Step.{tall_of}
use Rattle.rx_level.proofs.Heights.{height_tree}
use Rattle.rx_level.proofs.levels.Levels.height.Goals as goal

pub returns : goal.returns
returns c = c.numbers_at.ensures.height ∙ height_tree c.self.inside.nodes c.self.invariant.sound c.args.root ∙ ap (λ s. tall_of s c.args.root) c.self.view_is
