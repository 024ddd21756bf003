use Rattle.std.proofs.Common.{arith, ap, ◌∙◌}
use Rattle.rx_tree.specs.Tree.{level_size}
use Rattle.rx_limit.proofs.Placed.{placed}
use Rattle.rx_limit.proofs.limiting.place_between.Goals as goal

pub returns-in-Ok-within-clause-level : goal.returns-in-Ok-within-clause-level
returns-in-Ok-within-clause-level c =
    c.in-Ok-within.ensures.level
    ∙ placed c.args.levels.now c.open.new.self c.free-2.new.self c.free-3.new.self c.join.new.levels c.args.left c.args.right c.in-Ok.top.left c.in-Ok.top.right c.in-Ok-join.whole c.args.middle c.in-Ok.top.item
    c.requires.owns c.requires.one c.in-Ok.ensures.ok c.in-Ok.ensures.level c.free-2.ensures.step c.free-3.ensures.step c.in-Ok-join.ensures.level

pub returns-in-Err-clause-over : goal.returns-in-Err-clause-over
returns-in-Err-clause-over c fault =
    let is = ap level_size (placed c.args.levels.now c.open.new.self c.free-2.new.self c.free-3.new.self c.join.new.levels c.args.left c.args.right c.in-Ok.top.left c.in-Ok.top.right c.in-Ok-join.whole c.args.middle c.in-Ok.top.item
    c.requires.owns c.requires.one c.in-Ok.ensures.ok c.in-Ok.ensures.level c.free-2.ensures.step c.free-3.ensures.step c.in-Ok-join.ensures.level) in
    omega (arith, is, c.in-Err.ensures.over)
