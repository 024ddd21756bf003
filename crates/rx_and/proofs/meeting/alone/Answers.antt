use Rattle.rx_and.proofs.Meets.{alone_is}
use Rattle.rx_and.proofs.meeting.alone.Goals as goal

pub returns-clause-level : goal.returns-clause-level
returns-clause-level c =
    alone_is c.args.levels.now c.hold.new.self c.branch-levels.new.self c.args.child c.in_ok-whole.whole c.args.span c.requires.sound c.requires.child c.in_ok-hold.ensures.ok c.in_ok-whole.ensures.level
