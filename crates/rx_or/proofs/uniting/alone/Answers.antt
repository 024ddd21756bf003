use Rattle.std.proofs.Common.{ap, ap₂, ◌∙◌}
use Rattle.rx_value.specs.declared.order.Span.{Span}
use Rattle.rx_tree.specs.Tree.Level.{item, end}
use Rattle.rx_level.specs.Step.{level_of}
use Rattle.rx_cut.proofs.Staying.{stays}
use Rattle.rx_or.proofs.uniting.alone.Goals as goal

pub returns-clause-level : goal.returns-clause-level
returns-clause-level c =
    let s : Span = record { lo = c.args.lo.now; hi = c.args.hi.now } in
    c.in_Ok-whole.ensures.level
    ∙ ap₂ (λ x y. item (record { lo = x; hi = y }) (level_of c.hold.new.self c.args.child) end) c.in-Ok-Ok.ensures c.in-Ok-Ok.ensures'
    ∙ ap (λ x. item s x end) (stays c.args.levels.now c.hold.new.self _ c.requires.sound c.in-Ok.ensures.ok c.args.child c.requires.child).level
