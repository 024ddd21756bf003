use Rattle.std.proofs.Common.{ap, ◌∙◌}
use Rattle.rx_tree.specs.Tree.Level.{item, end}
use Rattle.rx_cut.proofs.Staying.{stays}
use Rattle.rx_cut.proofs.clipping.alone.Goals as goal

pub returns-clause-level : goal.returns-clause-level
returns-clause-level c =
    c.in_ok-whole.ensures.level ∙ ap (λ x. item c.args.span x end) (stays c.args.levels.now c.hold.new.self _ c.requires.sound c.in_ok-hold.ensures.ok c.args.child c.requires.child).level
