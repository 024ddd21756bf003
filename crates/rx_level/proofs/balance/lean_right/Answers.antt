use Rattle.rx_level.proofs.Turning.{leaned_right}
use Rattle.rx_level.proofs.balance.lean_right.Goals as goal

pub returns-in_ok-whole-in_Ok-inner-clause-level : goal.returns-in_ok-whole-in_Ok-inner-clause-level
returns-in_ok-whole-in_Ok-inner-clause-level c =
    leaned_right c.args.levels.now c.branch-inner.new.self c.branch-levels.new.self c.args.left c.args.middle c.args.right c.in_Ok-inner.inner c.in_ok-whole-in_Ok-inner.whole c.args.first c.args.second
    c.requires.owns c.in_Ok-inner.ensures.ok c.in_Ok-inner.ensures.level c.in_ok-whole-in_Ok-inner.ensures.level
