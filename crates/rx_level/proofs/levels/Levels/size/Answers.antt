use Rattle.std.proofs.Common.{◌∙◌, ap}
use Rattle.rx_tree.specs.Tree.{level_size}
use Rattle.rx_level.specs.Step.{level_of}
use Rattle.rx_level.proofs.LevelSizes.{size_level}
use Rattle.rx_level.proofs.levels.Levels.size.Goals as goal

pub returns : goal.returns
returns c = c.numbers_at.ensures.size ∙ size_level c.self.inside.nodes c.self.invariant.sound c.args.root ∙ ap (λ s. level_size (level_of s c.args.root)) c.self.view_is
