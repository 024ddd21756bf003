use Rattle.std.proofs.Common.{◌∙◌, ap}
use Rattle.rx_tree.specs.Join.{length_of}
use Rattle.rx_level.specs.Step.{level_of}
use Rattle.rx_level.proofs.LevelSizes.{count_level}
use Rattle.rx_level.proofs.levels.Levels.count.Goals as goal

pub returns : goal.returns
returns c = c.numbers_at.ensures.count ∙ count_level c.self.inside.nodes c.self.invariant.sound c.args.root ∙ ap (λ s. length_of (level_of s c.args.root)) c.self.view_is
