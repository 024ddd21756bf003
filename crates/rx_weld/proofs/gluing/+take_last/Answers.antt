use Rattle.rx_weld.proofs.Glued.{last_level}
use Rattle.rx_weld.proofs.gluing.+take_last.Goals as goal

pub returns-in-Ok-join-clause-level : goal.returns-in-Ok-join-clause-level
returns-in-Ok-join-clause-level t c =
    last_level c.args.levels.now c.open.new.self c.take_last.new.levels c.join.new.levels c.in_ok-top.top.left c.in_ok-top.top.right c.in-Ok.last.before c.in-Ok-join.before c.args.key c.in-Some.next c.in_ok-top.top.item c.in-Ok.last.item
    c.in-Some.is c.requires c.in_ok-top.ensures.ok c.in-Ok.ensures.ok c.in-Ok-join.ensures.ok c.in_ok-top.ensures.level c.in-Ok.ensures.level c.in-Ok-join.ensures.level
